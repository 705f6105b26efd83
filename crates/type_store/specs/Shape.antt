-- The outermost form of a type, with the number of each part.
use Rattle.std.specs.Prelude.{ℕ, List, [], ◌∷◌, Bool as Truth, true, false, ◌&&◌, ◌==◌}
use Rattle.std.specs.Ordering.{is_eq}
use Rattle.omega_kinds.specs.Kind.{Kind, kind_eq}
use Rattle.omega_kinds.specs.LabelOrder.{label_cmp}
use Rattle.omega_kinds.specs.declared.label.Label.{Label}

abbrev pub Parts : Type 0
Parts = List (Label × ℕ)

pub data Shape : Type 0 where
  Var : (index : ℕ) → Shape
  Int Bool Text : Shape
  Arrow : (from to : ℕ) → Shape
  Fields Sum : (parts : Parts) → Shape
  All Ex : (kind : Kind) (body : ℕ) → Shape
  Mu : (body : ℕ) → Shape
  Lam : (kind : Kind) (body : ℕ) → Shape
  Apply : (operator arg : ℕ) → Shape

-- whether two shapes are the same
abbrev pub parts_eq : Parts → Parts → Truth
parts_eq [] [] = true
parts_eq (x ∷ xs) (y ∷ ys) = (is_eq (label_cmp x.0 y.0) && x.1 == y.1) && parts_eq xs ys
parts_eq _ _ = false

abbrev pub shape_eq : Shape → Shape → Truth
shape_eq (Shape.Var i) (Shape.Var j) = i == j
shape_eq Shape.Int Shape.Int = true
shape_eq Shape.Bool Shape.Bool = true
shape_eq Shape.Text Shape.Text = true
shape_eq (Shape.Arrow a b) (Shape.Arrow c d) = a == c && b == d
shape_eq (Shape.Fields r) (Shape.Fields q) = parts_eq r q
shape_eq (Shape.Sum r) (Shape.Sum q) = parts_eq r q
shape_eq (Shape.All j a) (Shape.All k b) = a == b && kind_eq j k
shape_eq (Shape.Ex j a) (Shape.Ex k b) = a == b && kind_eq j k
shape_eq (Shape.Mu a) (Shape.Mu b) = a == b
shape_eq (Shape.Lam j a) (Shape.Lam k b) = a == b && kind_eq j k
shape_eq (Shape.Apply a b) (Shape.Apply c d) = a == c && b == d
shape_eq _ _ = false
