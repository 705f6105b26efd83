-- What a walk makes of a row.
-- Main results: row-walked.
use Rattle.std.proofs.Common.{◌≡◌, ℕ, [], ◌∷◌, refl, ap}
use Rattle.omega_types.specs.Ty.{Ty}
use Rattle.omega_terms.specs.Term.{Term, TermRow}
use Rattle.omega_terms.specs.Fields.{TermPairs, term_row}
use Rattle.omega_terms.proofs.OneIndex.{map_terms, may_follow-at}
use Rattle.omega_terms.specs.Inner.Walk.{walked, walked_row}

-- a walk over a list of fields is the walk over their row
pub row-walked : (f : ℕ → Ty → Ty) (g : ℕ → ℕ → ℕ → Term) (i j : ℕ) (xs : TermPairs) → term_row (map_terms (walked f g i j) xs) ≡ walked_row f g i j (term_row xs)
row-walked f g i j [] = refl
row-walked f g i j (x ∷ xs) = ap (TermRow.More x.0 (walked f g i j x.1)) (row-walked f g i j xs)

pub ruleset rows = (row-walked, may_follow-at)
