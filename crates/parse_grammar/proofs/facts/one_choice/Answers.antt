use Rattle.std.specs.Prelude.{[]}
use Rattle.parse_grammar.proofs.Laws.{start_ok}
use Rattle.parse_grammar.proofs.Run.{each_chosen}
use Rattle.parse_grammar.proofs.facts.one_choice.Goals as goal

pub returns : goal.returns
returns c = λ n start d. each_chosen d [] (start_ok start)
