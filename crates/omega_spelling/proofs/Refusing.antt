-- No two refusals hold of the same bytes.
-- Main results: exclusive.
use Rattle.std.proofs.Common.{◌≡◌, ℕ, Bool, true, false, List, refl}
use Rattle.omega_spelling.specs.Refusals.{is_version, is_too_deep}
use Rattle.omega_spelling.specs.Refused.{Refused, IsVersion, IsTooDeep, IsWide, IsNotOmega, Refuses}

apart : (b : Bool) → b ≡ true → b ≡ false → ⊥
apart true p q = cc
apart false p q = cc

-- bytes have at most one refusal
pub exclusive : (bytes : List ℕ) (a b : Refused) → Refuses bytes a → Refuses bytes b → a ≡ b
exclusive bytes IsVersion IsVersion p q = refl
exclusive bytes IsVersion IsTooDeep p q = absurd (apart (is_version bytes) p q.0)
exclusive bytes IsVersion IsWide p q = absurd (apart (is_version bytes) p q.0)
exclusive bytes IsVersion IsNotOmega p q = absurd (apart (is_version bytes) p q.0)
exclusive bytes IsTooDeep IsVersion p q = absurd (apart (is_version bytes) q p.0)
exclusive bytes IsTooDeep IsTooDeep p q = refl
exclusive bytes IsTooDeep IsWide p q = absurd (apart (is_too_deep bytes) p.1 q.1)
exclusive bytes IsTooDeep IsNotOmega p q = absurd (apart (is_too_deep bytes) p.1 q.1)
exclusive bytes IsWide IsVersion p q = absurd (apart (is_version bytes) q p.0)
exclusive bytes IsWide IsTooDeep p q = absurd (apart (is_too_deep bytes) q.1 p.1)
exclusive bytes IsWide IsWide p q = refl
exclusive bytes IsWide IsNotOmega p q = absurd (q.2 p.2)
exclusive bytes IsNotOmega IsVersion p q = absurd (apart (is_version bytes) q p.0)
exclusive bytes IsNotOmega IsTooDeep p q = absurd (apart (is_too_deep bytes) q.1 p.1)
exclusive bytes IsNotOmega IsWide p q = absurd (p.2 q.2)
exclusive bytes IsNotOmega IsNotOmega p q = refl
