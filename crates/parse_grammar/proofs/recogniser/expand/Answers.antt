use Rattle.std.specs.Prelude.{Some, None}
use Rattle.parse_grammar.proofs.Expanded.{choice_moves}
use Rattle.parse_grammar.proofs.recogniser.expand.Goals as goal

pub returns-in-Some : goal.returns-in-Some
returns-in-Some c = choice_moves c.args.class _ _ c.args.rest.now (Some c.in-Some.rule) c.next.ensures c.in-Some.ensures

pub returns-in-None : goal.returns-in-None
returns-in-None c = choice_moves c.args.class _ _ c.args.rest.now None c.next.ensures c.in-None.ensures
