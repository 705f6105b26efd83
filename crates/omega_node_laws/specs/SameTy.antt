-- Whether two types are the same tree, as a truth value.
use Rattle.std.specs.Prelude.{Bool as Truth, true, false, ◌&&◌, ◌==◌}
use Rattle.std.specs.Ordering.{is_eq}
use Rattle.omega_kinds.specs.Kind.{kind_eq}
use Rattle.omega_kinds.specs.LabelOrder.{label_cmp}
use Rattle.omega_types.specs.Ty.{Ty, Row}

abbrev mutual
  pub same_ty : Ty → Ty → Truth
  same_ty (Ty.Var i) (Ty.Var j) = i == j
  same_ty Ty.Int Ty.Int = true
  same_ty Ty.Bool Ty.Bool = true
  same_ty Ty.Text Ty.Text = true
  same_ty (Ty.Arrow a b) (Ty.Arrow c d) = same_ty a c && same_ty b d
  same_ty (Ty.Fields r) (Ty.Fields q) = same_row r q
  same_ty (Ty.Sum r) (Ty.Sum q) = same_row r q
  same_ty (Ty.All j a) (Ty.All k b) = kind_eq j k && same_ty a b
  same_ty (Ty.Ex j a) (Ty.Ex k b) = kind_eq j k && same_ty a b
  same_ty (Ty.Mu a) (Ty.Mu b) = same_ty a b
  same_ty (Ty.Lam j a) (Ty.Lam k b) = kind_eq j k && same_ty a b
  same_ty (Ty.Apply a b) (Ty.Apply c d) = same_ty a c && same_ty b d
  same_ty _ _ = false

  pub same_row : Row → Row → Truth
  same_row Row.End Row.End = true
  same_row (Row.More l t r) (Row.More m u q) = is_eq (label_cmp l m) && (same_ty t u && same_row r q)
  same_row _ _ = false
