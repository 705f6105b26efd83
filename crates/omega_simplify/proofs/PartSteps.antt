-- Parts that stay as they are, and fields that are no parts of a variable.
-- Main results: parts-differ.
use Rattle.std.proofs.Common.{◌≡◌, ◌≢◌, suc, [], ◌∷◌, length, Bool as Truth, true, false, ◌&&◌, Option, None, Some, unwrap_or, is_none, refl, ap, ◌∙◌}
use Rattle.std.proofs.lemmas.Bool.{false≢true}
use Rattle.std.specs.Ordering.{is_eq}
use Rattle.omega_kinds.specs.LabelOrder.{label_cmp}
use Rattle.omega_types.specs.Fields.{Pairs, row}
use Rattle.omega_terms.specs.Fields.{TermPairs, term_row}
use Rattle.omega_simplify_laws.specs.Simplified.{is_part, are_parts}

-- where there is no new term, the old one stands
pub none-stays : {A : Type 0} (new : Option A) (old : A) → is_none new ≡ true → unwrap_or new old ≡ old
none-stays None old h = refl
none-stays (Some e) old h = absurd (false≢true h)

neither : (a : Truth) → false ≡ (a && false)
neither true = refl
neither false = refl

-- as many fields as labels
pub parts-differ : (xs : Pairs) (fs : TermPairs) → length xs ≢ length fs → false ≡ are_parts (row xs) (term_row fs)
parts-differ [] [] n = absurd (n refl)
parts-differ [] (y ∷ ys) n = refl
parts-differ (x ∷ xs) [] n = refl
parts-differ (x ∷ xs) (y ∷ ys) n =
    let first : Truth = is_eq (label_cmp x.0 y.0) && is_part x.0 y.1 in
    neither first ∙ ap (λ z. first && z) (parts-differ xs ys (λ p. n (ap suc p)))

pub ruleset parts = none-stays
