-- The height of one more field.
-- Main results: height-push.
use Rattle.std.proofs.Common.{◌≤◌, max, [], ◌∷◌, ◌++◌, arith}
use Rattle.omega_kinds.specs.declared.label.Label.{Label}
use Rattle.omega_types.specs.Ty.{Ty}
use Rattle.omega_types.specs.Fields.{Pairs}
use Rattle.omega_types.specs.Height.{height, height_pairs}

-- with one more field, the height is at most the greater of the old one and that of the field
pub height-push : (xs : Pairs) (x : Label × Ty) → height_pairs (xs ++ x ∷ []) ≤ max (height_pairs xs) (height x.1)
height-push [] x = omega arith
height-push (y ∷ ys) x = omega (arith, height-push ys x)
