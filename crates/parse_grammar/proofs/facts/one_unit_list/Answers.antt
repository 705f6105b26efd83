use Rattle.parse_grammar.proofs.Laws.{one_tree}
use Rattle.parse_grammar.proofs.facts.one_unit_list.Goals as goal

pub returns : goal.returns
returns c = λ tokens u v p q. one_tree p q
