use Rattle.omega_compact.proofs.Again.{compact_again, same_tokens}
use Rattle.omega_compact.proofs.laws.same_tokens.Goals as goal

pub returns-clause-tokens : goal.returns-clause-tokens
returns-clause-tokens c = same_tokens

pub returns-clause-again : goal.returns-clause-again
returns-clause-again c = compact_again
