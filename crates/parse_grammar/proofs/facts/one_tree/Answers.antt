use Rattle.parse_grammar.proofs.Laws.{one_tree}
use Rattle.parse_grammar.proofs.facts.one_tree.Goals as goal

pub returns : goal.returns
returns c = λ n tokens u v p q. one_tree p q
