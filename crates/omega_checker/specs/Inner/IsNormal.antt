-- Whether a type is normal at a kind, and the kind of a neutral type, found by recursion on the type.
use Rattle.std.specs.Prelude.{List, ◌∷◌, ◌++◌, Option, Some, None, Bool as Truth, true, false, ◌&&◌, if◌then◌else◌, slice_get}
use Rattle.omega_kinds.specs.Kind.{Kind, kind_eq}
use Rattle.omega_kinds.specs.declared.kind.Kind.{Kind as SharedKind}
use Rattle.omega_types.specs.KindIn.{is_star, are_distinct}
use Rattle.omega_types.specs.Inner.Scope.{scope_of}
use Rattle.omega_types.specs.Ty.{Ty, Row}

-- what stands only at kind *
abbrev pub at_star : Kind → Truth → Truth
at_star Kind.Star b = b
at_star (Kind.Arrow k l) b = false

-- what stands only at the kind of an operator, from the kinds of its argument and of its result
abbrev pub at_arrow : Kind → (Kind → Kind → Truth) → Truth
at_arrow Kind.Star f = false
at_arrow (Kind.Arrow k l) f = f k l

-- the kind of an operator of this kind at one argument, where that passes at the kind that the operator takes
abbrev pub with_arg : Option Kind → (Kind → Truth) → Option Kind
with_arg None f = None
with_arg (Some Kind.Star) f = None
with_arg (Some (Kind.Arrow k l)) f = if f k then Some l else None

abbrev mutual
  pub is_normal : List Kind → Ty → Kind → Truth
  is_normal ctx (Ty.Var i) k = at_star k (is_star (slice_get ctx i))
  is_normal ctx Ty.Int k = at_star k true
  is_normal ctx Ty.Bool k = at_star k true
  is_normal ctx Ty.Text k = at_star k true
  is_normal ctx (Ty.Arrow a b) k = at_star k (is_normal ctx a Kind.Star && is_normal ctx b Kind.Star)
  is_normal ctx (Ty.Fields row) k = at_star k (are_distinct row && are_normal ctx row)
  is_normal ctx (Ty.Sum row) k = at_star k (are_distinct row && are_normal ctx row)
  is_normal ctx (Ty.All j b) k = at_star k (is_normal (j ∷ ctx) b Kind.Star)
  is_normal ctx (Ty.Ex j b) k = at_star k (is_normal (j ∷ ctx) b Kind.Star)
  is_normal ctx (Ty.Mu b) k = at_star k (is_normal (Kind.Star ∷ ctx) b Kind.Star)
  is_normal ctx (Ty.Lam j b) k = at_arrow k (λ i l. kind_eq j i && is_normal (j ∷ ctx) b l)
  is_normal ctx (Ty.Apply f a) k = at_star k (is_star (with_arg (neutral_kind ctx f) (is_normal ctx a)))

  pub are_normal : List Kind → Row → Truth
  are_normal ctx Row.End = true
  are_normal ctx (Row.More l t rest) = is_normal ctx t Kind.Star && are_normal ctx rest

  pub neutral_kind : List Kind → Ty → Option Kind
  neutral_kind ctx (Ty.Var i) = slice_get ctx i
  neutral_kind ctx (Ty.Apply f a) = with_arg (neutral_kind ctx f) (is_normal ctx a)
  neutral_kind ctx _ = None

-- a context of the code below more binders, each with the innermost last, as the definitions have it
abbrev pub scope_below : List SharedKind → List SharedKind → List Kind
scope_below ctx inner = scope_of inner ++ scope_of ctx
