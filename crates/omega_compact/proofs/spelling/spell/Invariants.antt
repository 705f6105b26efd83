use Rattle.std.proofs.Common.{◌≡◌, ◌≤◌, ◌++◌, None, drop}
use Rattle.omega_compact.specs.Inner.Plain.{plain_left, plain_tokens}
use Rattle.omega_compact.specs.Spelling.{spelled_from}
use Rattle.omega_compact.proofs.spelling.spell.Given as goal

abbrev pub invariant-loop-token : goal.invariant-loop-token
invariant-loop-token l =
    (l.text.items ++ spelled_from l.depth (plain_left l.left) (plain_tokens (drop l.token-index l.tokens)) ≡ spelled_from 0 None (plain_tokens l.tokens))
    × (l.depth ≤ l.token-index)
