-- All bytes have an answer: a text that is not too deep, or a refusal, and not both.
-- Main results: unread, unrefused, answered.
use Rattle.std.proofs.Common.{◌≡◌, Bool, true, false, List, ℕ, Option, Some, None, refl, inl, inr}
use Rattle.std.specs.Prelude.{◌⊎◌}
use Rattle.omega_types.specs.Ty.{Ty}
use Rattle.omega_terms.specs.Term.{Term}
use Rattle.omega_spelling.specs.Omega.{OmegaText, IsOmega, omega_at}
use Rattle.omega_spelling.specs.Refusals.{is_version, is_too_deep, has_wide, zeroed}
use Rattle.omega_spelling.specs.Refused.{Refused, IsVersion, IsTooDeep, IsWide, IsNotOmega, Refuses}
use Rattle.omega_spelling.proofs.Wholes.{omega-takes, omega-again, not-refused}
use Rattle.omega_spelling.proofs.Zeroed.{not-wide}

apart : (b : Bool) → b ≡ true → b ≡ false → ⊥
apart true p q = cc
apart false p q = cc

-- a text that is not too deep and that the reader does not read is no Omega text
pub unread : (bytes : List ℕ) → is_too_deep bytes ≡ false → omega_at bytes ≡ None → IsOmega bytes → ⊥
unread bytes s e o = let g = omega-again bytes o.0 o.1 o.2 s in cc

-- an Omega text that is not too deep is not refused
pub unrefused : (bytes : List ℕ) (t : Ty) (e : Term) → OmegaText bytes t e → is_too_deep bytes ≡ false → (r : Refused) → Refuses bytes r → ⊥
unrefused bytes t e o s IsVersion h = apart (is_version bytes) h (not-refused bytes t e o).0
unrefused bytes t e o s IsTooDeep h = apart (is_too_deep bytes) h.1 s
unrefused bytes t e o s IsWide h = apart (has_wide bytes) h.2.1 (not-refused bytes t e o).1
unrefused bytes t e o s IsNotOmega h = h.3 (t, e, o)

abbrev Answer : List ℕ → Type 0
Answer bytes = (IsOmega bytes × (is_too_deep bytes ≡ false)) ⊎ ((r : Refused) × Refuses bytes r)

unread-answer : (bytes : List ℕ) → is_version bytes ≡ false → is_too_deep bytes ≡ false → omega_at bytes ≡ None → Answer bytes
unread-answer bytes v s e = pick (has_wide bytes) refl (omega_at (zeroed bytes)) refl
  where
    pick : (w : Bool) → has_wide bytes ≡ w → (read : Option (Ty × Term)) → omega_at (zeroed bytes) ≡ read → Answer bytes
    pick false q read p = inr (IsNotOmega, (v, s, λ h. apart (has_wide bytes) h.1 q, unread bytes s e))
    pick true q (Some x) p = inr (IsWide, (v, s, ((x.0, x.1, omega-takes (zeroed bytes) x.0 x.1 p), q)))
    pick true q None p = inr (IsNotOmega, (v, s, not-wide bytes s p, unread bytes s e))

-- all bytes are an Omega text that is not too deep, or are refused
pub answered : (bytes : List ℕ) → Answer bytes
answered bytes = pick (is_version bytes) refl (is_too_deep bytes) refl (omega_at bytes) refl
  where
    pick : (v : Bool) → is_version bytes ≡ v → (s : Bool) → is_too_deep bytes ≡ s → (read : Option (Ty × Term)) → omega_at bytes ≡ read → Answer bytes
    pick true q s p read e = inr (IsVersion, q)
    pick false q true p read e = inr (IsTooDeep, (q, p))
    pick false q false p (Some x) e = inl ((x.0, x.1, omega-takes bytes x.0 x.1 e), p)
    pick false q false p None e = unread-answer bytes q p e
