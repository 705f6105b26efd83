use Rattle.std.proofs.Common.{◌≡◌, ◌++◌, length}
use Rattle.omega_compact.specs.Tokens.{Between, tokens_from}
use Rattle.omega_compact.specs.Inner.Plain.{plain_tokens}
use Rattle.omega_compact.proofs.scan.tokens.Given as goal

abbrev pub invariant-loop-rest : goal.invariant-loop-rest
invariant-loop-rest l = plain_tokens l.tokens.items ++ tokens_from Between l.rest ≡ tokens_from Between l.bytes

abbrev pub decreases-loop-rest : goal.decreases-loop-rest
decreases-loop-rest l = length l.rest
