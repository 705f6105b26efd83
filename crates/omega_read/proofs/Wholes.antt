-- What is read from whole texts, and what is refused.
-- Main results: whole_ok.
use Rattle.std.proofs.Common.{◌≡◌, ℕ, List, Some, None, false, true, refl, inl, inr}
use Rattle.std.specs.Prelude.{◌⊎◌, Result, Ok, Err}
use Rattle.omega_types.specs.Ty.{Ty}
use Rattle.omega_terms.specs.declared.version.Version as text
use Rattle.omega_terms.specs.Term.{Term}
use Rattle.omega_terms.specs.OmegaText.{version_text}
use Rattle.omega_spelling.specs.Spelled.{TySpelled}
use Rattle.omega_spelling.specs.TermReading.{TermSpelled}
use Rattle.omega_spelling.specs.Omega.{OmegaText, omega_at}
use Rattle.omega_spelling.specs.Refusals.{is_version, is_too_deep, has_wide, zeroed}
use Rattle.omega_spelling.specs.Refused.{IsVersion, IsTooDeep, IsWide, IsNotOmega, Refuses}
use Rattle.omega_spelling.proofs.Wholes.{omega-takes}
use Rattle.omega_spelling.proofs.Texts.{one-tree}
use Rattle.omega_spelling.proofs.Answering.{unread, unrefused}
use Rattle.omega_spelling.proofs.Zeroed.{not-wide}
use Rattle.omega_read.specs.declared.whole.ReadRefusal.{ReadRefusal}
use Rattle.omega_read.specs.declared.whole.ReadRefusal.TheVariants.{NotOmega, Version, Wide, TooDeep, Mem}
use Rattle.omega_read.specs.ReadAs.{ReadAs}

-- a text that is not too deep and that is read is answered with its type and its term
pub whole_ok : (bytes : List ℕ) (x : Ty × Term) → is_too_deep bytes ≡ false → omega_at bytes ≡ Some x → ReadAs bytes (Ok x)
whole_ok bytes x s e = (s, omega-takes bytes x.0 x.1 e)

pub narrow_refused : (bytes : List ℕ) → is_version bytes ≡ false → is_too_deep bytes ≡ false → omega_at bytes ≡ None → has_wide bytes ≡ false → Refuses bytes IsNotOmega
narrow_refused bytes v s e n = (v, s, λ h. no h.1, unread bytes s e)
  where
    no : has_wide bytes ≡ true → ⊥
    no w = cc

pub unread_refused : (bytes : List ℕ) → is_version bytes ≡ false → is_too_deep bytes ≡ false → omega_at bytes ≡ None → omega_at (zeroed bytes) ≡ None → Refuses bytes IsNotOmega
unread_refused bytes v s e n = (v, s, not-wide bytes s n, unread bytes s e)

pub wide_refused : (bytes : List ℕ) (x : Ty × Term) → is_version bytes ≡ false → is_too_deep bytes ≡ false → has_wide bytes ≡ true → omega_at (zeroed bytes) ≡ Some x → Refuses bytes IsWide
wide_refused bytes x v s w e = (v, s, ((x.0, x.1, omega-takes (zeroed bytes) x.0 x.1 e), w))

pub ruleset wholes = (whole_ok, narrow_refused, unread_refused, wide_refused)

-- a text that is not too deep has one answer, unless memory runs out
pub read_again : (v : text.Version) (t : Ty) (e : Term) → TySpelled v 0 t → TermSpelled v 0 0 e → is_too_deep (version_text v t e) ≡ false
    → (answer : Result (Ty × Term) ReadRefusal) → ReadAs (version_text v t e) answer → (answer ≡ Ok (t, e)) ⊎ (answer ≡ Err Mem)
read_again v t e p q s answer h = go answer h
  where
    own : OmegaText (version_text v t e) t e
    own = (v, record { type_spelled = p; term_spelled = q; text = refl })

    pair : (x : Ty × Term) → x.0 ≡ t → x.1 ≡ e → (let r : Result (Ty × Term) ReadRefusal = Ok x in r) ≡ Ok (t, e)
    pair x a b = λ i. Ok (a i, b i)

    go : (answer : Result (Ty × Term) ReadRefusal) → ReadAs (version_text v t e) answer → (answer ≡ Ok (t, e)) ⊎ (answer ≡ Err Mem)
    go (Ok x) h = let same = one-tree (version_text v t e) x.0 t x.1 e h.1 own in inl (pair x same.0 same.1)
    go (Err Mem) h = inr refl
    go (Err Version) h = absurd (unrefused (version_text v t e) t e own s IsVersion h)
    go (Err TooDeep) h = absurd (unrefused (version_text v t e) t e own s IsTooDeep h)
    go (Err Wide) h = absurd (unrefused (version_text v t e) t e own s IsWide h)
    go (Err NotOmega) h = absurd (unrefused (version_text v t e) t e own s IsNotOmega h)
