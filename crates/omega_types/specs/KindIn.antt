-- The kind of a type, found by recursion on it.
use Rattle.std.specs.Prelude.{List, ◌∷◌, Option, Some, None, Bool as Truth, true, false, ◌&&◌, not, if◌then◌else◌, slice_get}
use Rattle.std.specs.Option.{option_map}
use Rattle.std.specs.Ordering.{is_eq}
use Rattle.omega_kinds.specs.Kind.{Kind, kind_eq}
use Rattle.omega_kinds.specs.LabelOrder.{label_cmp}
use Rattle.omega_kinds.specs.declared.label.Label.{Label}
use Rattle.omega_types.specs.Ty.{Ty, Row}

abbrev pub is_star : Option Kind → Truth
is_star None = false
is_star (Some Kind.Star) = true
is_star (Some (Kind.Arrow a b)) = false

abbrev pub star_if : Truth → Option Kind
star_if true = Some Kind.Star
star_if false = None

-- the kind of an application, from those of its two parts
abbrev pub applied : Option Kind → Option Kind → Option Kind
applied None o = None
applied (Some Kind.Star) o = None
applied (Some (Kind.Arrow k j)) None = None
applied (Some (Kind.Arrow k j)) (Some i) = if kind_eq k i then Some j else None

-- a label is none of a row's, and all of a row's labels are different
abbrev pub is_fresh : Label → Row → Truth
is_fresh l Row.End = true
is_fresh l (Row.More m t rest) = not (is_eq (label_cmp l m)) && is_fresh l rest

abbrev pub are_distinct : Row → Truth
are_distinct Row.End = true
are_distinct (Row.More l t rest) = is_fresh l rest && are_distinct rest

abbrev mutual
  pub kind_in : List Kind → Ty → Option Kind
  kind_in ctx (Ty.Var i) = slice_get ctx i
  kind_in ctx Ty.Int = Some Kind.Star
  kind_in ctx Ty.Bool = Some Kind.Star
  kind_in ctx Ty.Text = Some Kind.Star
  kind_in ctx (Ty.Arrow a b) = star_if (is_star (kind_in ctx a) && is_star (kind_in ctx b))
  kind_in ctx (Ty.Fields row) = star_if (are_distinct row && all_star ctx row)
  kind_in ctx (Ty.Sum row) = star_if (are_distinct row && all_star ctx row)
  kind_in ctx (Ty.All k b) = star_if (is_star (kind_in (k ∷ ctx) b))
  kind_in ctx (Ty.Ex k b) = star_if (is_star (kind_in (k ∷ ctx) b))
  kind_in ctx (Ty.Mu b) = star_if (is_star (kind_in (Kind.Star ∷ ctx) b))
  kind_in ctx (Ty.Lam k b) = option_map (Kind.Arrow k) (kind_in (k ∷ ctx) b)
  kind_in ctx (Ty.Apply f a) = applied (kind_in ctx f) (kind_in ctx a)

  pub all_star : List Kind → Row → Truth
  all_star ctx Row.End = true
  all_star ctx (Row.More l t rest) = is_star (kind_in ctx t) && all_star ctx rest
