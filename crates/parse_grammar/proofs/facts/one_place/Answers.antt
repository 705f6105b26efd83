use Rattle.parse_grammar.proofs.Laws.{one_farthest}
use Rattle.parse_grammar.proofs.facts.one_place.Goals as goal

pub returns : goal.returns
returns c = λ n tokens a b p q. one_farthest tokens a b p q
