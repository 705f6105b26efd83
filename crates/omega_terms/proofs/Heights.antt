-- The height of one more field.
-- Main results: pairs_height-push.
use Rattle.std.proofs.Common.{◌≤◌, max, [], ◌∷◌, ◌++◌, arith}
use Rattle.omega_kinds.specs.declared.label.Label.{Label}
use Rattle.omega_terms.specs.Term.{Term}
use Rattle.omega_terms.specs.Fields.{TermPairs}
use Rattle.omega_terms.specs.Height.{term_height, pairs_height}

-- with one more field, the height is at most the greater of the old one and that of the field
pub pairs_height-push : (xs : TermPairs) (x : Label × Term) → pairs_height (xs ++ x ∷ []) ≤ max (pairs_height xs) (term_height x.1)
pairs_height-push [] x = omega arith
pairs_height-push (y ∷ ys) x = omega (arith, pairs_height-push ys x)
