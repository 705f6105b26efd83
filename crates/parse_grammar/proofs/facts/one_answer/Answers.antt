use Rattle.parse_grammar.proofs.Answer.{one_answer}
use Rattle.parse_grammar.proofs.facts.one_answer.Goals as goal

pub returns : goal.returns
returns c = λ n start tokens. one_answer n start tokens
