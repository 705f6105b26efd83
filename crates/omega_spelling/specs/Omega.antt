-- Whole Omega texts: the relation between bytes and trees, and reading.
use Rattle.std.specs.Prelude.{◌≡◌, ℕ, List, [], ◌∷◌, Bool, true, false, codes, if◌then◌else◌, Option, Some, None}
use Rattle.omega_types.specs.Ty.{Ty}
use Rattle.omega_terms.specs.declared.version.Version.{Version}
use Rattle.omega_terms.specs.declared.version.Version.TheVariants.{First, Second}
use Rattle.omega_terms.specs.Term.{Term}
use Rattle.omega_terms.specs.OmegaText.{version_line, version_text}
use Rattle.omega_spelling.specs.Spelled.{TySpelled}
use Rattle.omega_spelling.specs.Reading.{◌>>=◌, Reader, strip, choose, ty_at}
use Rattle.omega_spelling.specs.TermReading.{TermSpelled, term_at}

abbrev pub is_nil : List ℕ → Bool
is_nil [] = true
is_nil (b ∷ bs) = false

-- the bytes are the text, in a version, of a closed type and a closed term that have a spelling in it
pub record TextIn (v : Version) (bytes : List ℕ) (t : Ty) (e : Term) : Type 0 where
  pub type_spelled : TySpelled v 0 t
  pub term_spelled : TermSpelled v 0 0 e
  pub text : bytes ≡ version_text v t e

-- in one of the versions
abbrev pub OmegaText : List ℕ → Ty → Term → Type 0
OmegaText bytes t e = (v : Version) × TextIn v bytes t e

-- the bytes are the text of some type and term
abbrev pub IsOmega : List ℕ → Type 0
IsOmega bytes = (t : Ty) × (e : Term) × OmegaText bytes t e

-- the first line
unfoldable pub version_at : Reader Version
version_at bytes =
    choose (strip (version_line First) bytes) (λ rest. Some (First, rest)) (
    choose (strip (version_line Second) bytes) (λ rest. Some (Second, rest)) None)

-- what is read from all the bytes, with at most 4,000 parentheses open at once
unfoldable pub omega_at : List ℕ → Option (Ty × Term)
omega_at bytes = do
  v ← version_at bytes
  t ← ty_at v.0 4000 0 v.1
  c ← strip (codes "\n") t.1
  e ← term_at v.0 4000 0 0 c
  d ← strip (codes "\n") e.1
  if is_nil d then Some (t.0, e.0) else None
