-- Signatures that are below each other by a law.
use Rattle.std.specs.Prelude.{List, ◌≡◌, ◌⊎◌}
use Rattle.omega_kinds.specs.Kind.{Kind}
use Rattle.sig_definitions.specs.Signatures.Sig.{Abs}
use Rattle.sig_definitions.specs.Signatures.Encoding.{enc_abs}
use Rattle.sig_definitions.specs.QuantifierOrder.{Norm}
use Rattle.sig_laws.specs.Good.{OkRight}

-- where both are ordered explicit, they have one norm
abbrev pub HaveOneNorm : Abs → Abs → Type 0
HaveOneNorm x y = (n : Abs) × ((ctx : List Kind) → OkRight ctx x → Norm ctx x n) × ((ctx : List Kind) → OkRight ctx y → Norm ctx y n)

-- one encoding, so that they are one signature, or one norm
abbrev pub AreAlike : Abs → Abs → Type 0
AreAlike x y = (enc_abs x ≡ enc_abs y) ⊎ HaveOneNorm x y
