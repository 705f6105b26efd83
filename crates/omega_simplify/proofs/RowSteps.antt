-- What becomes of the fields of a record, and of the branches of a case.
-- Main results: row-simplified.
use Rattle.std.proofs.Common.{◌≡◌, ℕ, ◌≤◌, [], ◌∷◌, length, take, refl, sym, ap, ◌∙◌}
use Rattle.omega_terms.specs.Term.{TermRow}
use Rattle.omega_terms.specs.Fields.{TermPairs, term_row}
use Rattle.omega_terms.proofs.OneIndex.{map_terms, may_follow-at, row-done}
use Rattle.omega_simplify_laws.specs.Simplified.{simplified, simplified_row}

-- the fields as they are
abbrev pub same_terms : TermPairs → TermPairs
same_terms xs = map_terms (λ e. e) xs

-- fields that are kept as they are make the same row
pub row-same : (xs : TermPairs) → term_row (same_terms xs) ≡ term_row xs
row-same [] = refl
row-same (x ∷ xs) = ap (TermRow.More x.0 x.1) (row-same xs)

-- fields simplified one by one make the simplified row
pub row-simplified : (xs : TermPairs) → term_row (map_terms simplified xs) ≡ simplified_row (term_row xs)
row-simplified [] = refl
row-simplified (x ∷ xs) = ap (TermRow.More x.0 (simplified x.1)) (row-simplified xs)

-- a row that is both the simplified one and the same one
pub same-done : (n : ℕ) (xs ys ws : TermPairs) → ws ≡ map_terms simplified (take n xs) → ws ≡ same_terms (take n xs) → length xs ≤ n → xs ≡ ys →
    term_row ys ≡ simplified_row (term_row ys)
same-done n xs ys ws p q l e = sym (row-done (λ d. d) (λ r. r) n xs ys ws row-same q l e) ∙ row-done simplified simplified_row n xs ys ws row-simplified p l e

pub ruleset rows = (row-simplified, may_follow-at)
