-- The types of a list of shapes, each of which numbers its parts among those before it.
use Rattle.std.specs.Prelude.{◌-◌, ◌+◌, max, map, ◌≡◌, ℕ, ◌<◌, List, [], ◌∷◌, ◌++◌, Some, fold, length, get_or, slice_get}
use Rattle.omega_types.specs.Inner.Bound.{bound_of}
use Rattle.omega_types.specs.Fields.{Rises}
use Rattle.omega_types.specs.Ty.{Ty, Row}
use Rattle.type_store.specs.Shape.{Shape, Parts}

-- the type at a number
abbrev pub at : List Ty → ℕ → Ty
at ts i = get_or ts i Ty.Int

abbrev pub row_at : List Ty → Parts → Row
row_at ts [] = Row.End
row_at ts (x ∷ xs) = Row.More x.0 (at ts x.1) (row_at ts xs)

-- the type that a shape makes of the types that it numbers
abbrev pub tree_at : List Ty → Shape → Ty
tree_at ts (Shape.Var i) = Ty.Var i
tree_at ts Shape.Int = Ty.Int
tree_at ts Shape.Bool = Ty.Bool
tree_at ts Shape.Text = Ty.Text
tree_at ts (Shape.Arrow a b) = Ty.Arrow (at ts a) (at ts b)
tree_at ts (Shape.Fields parts) = Ty.Fields (row_at ts parts)
tree_at ts (Shape.Sum parts) = Ty.Sum (row_at ts parts)
tree_at ts (Shape.All k b) = Ty.All k (at ts b)
tree_at ts (Shape.Ex k b) = Ty.Ex k (at ts b)
tree_at ts (Shape.Mu b) = Ty.Mu (at ts b)
tree_at ts (Shape.Lam k b) = Ty.Lam k (at ts b)
tree_at ts (Shape.Apply f a) = Ty.Apply (at ts f) (at ts a)

-- each number of the parts is below n
abbrev pub ArePartsBelow : ℕ → Parts → Type 0
ArePartsBelow n [] = Unit {0}
ArePartsBelow n (x ∷ xs) = (x.1 < n) × ArePartsBelow n xs

-- each number of the shape is below n, and its labels rise
abbrev pub IsBelow : ℕ → Shape → Type 0
IsBelow n (Shape.Var i) = Unit {0}
IsBelow n Shape.Int = Unit {0}
IsBelow n Shape.Bool = Unit {0}
IsBelow n Shape.Text = Unit {0}
IsBelow n (Shape.Arrow a b) = (a < n) × (b < n)
IsBelow n (Shape.Fields parts) = ArePartsBelow n parts × Rises parts
IsBelow n (Shape.Sum parts) = ArePartsBelow n parts × Rises parts
IsBelow n (Shape.All k b) = b < n
IsBelow n (Shape.Ex k b) = b < n
IsBelow n (Shape.Mu b) = b < n
IsBelow n (Shape.Lam k b) = b < n
IsBelow n (Shape.Apply f a) = (f < n) × (a < n)

-- one more type, that of a shape
unfoldable pub with_shape : List Ty → Shape → List Ty
with_shape ts s = ts ++ tree_at ts s ∷ []

-- the types of the shapes
unfoldable pub trees : List Shape → List Ty
trees shapes = fold with_shape [] shapes

-- no type stands at two numbers
pub record AreDistinct (ts : List Ty) : Type 0 where
  pub same_number : (i j : ℕ) → i < length ts → j < length ts → at ts i ≡ at ts j → i ≡ j

-- the list begins with the other one
pub record Begins (start whole : List Ty) : Type 0 where
  pub rest : List Ty
  pub whole_is : whole ≡ start ++ rest

-- the type stands at the number
pub record Holds (ts : List Ty) (number : ℕ) (t : Ty) : Type 0 where
  pub within : number < length ts
  pub value : at ts number ≡ t

-- the shape makes the type of the types that it numbers
pub record Makes (ts : List Ty) (s : Shape) (t : Ty) : Type 0 where
  pub below : IsBelow (length ts) s
  pub value : tree_at ts s ≡ t

-- the parts stand for the types of the fields
pub record MakesParts (ts : List Ty) (parts : Parts) (r : Row) : Type 0 where
  pub below : ArePartsBelow (length ts) parts
  pub rising : Rises parts
  pub value : row_at ts parts ≡ r

-- what holds of the shapes of a store: each numbers types before it, each stands for its type, and no two are the same
pub record IsStore (shapes : List Shape) : Type 0 where
  pub as_long : length (trees shapes) ≡ length shapes
  pub below : (i : ℕ) (s : Shape) → slice_get shapes i ≡ Some s → IsBelow i s
  pub stands : (i : ℕ) (s : Shape) → slice_get shapes i ≡ Some s → at (trees shapes) i ≡ tree_at (trees shapes) s
  pub distinct : AreDistinct (trees shapes)

-- the least number above all free indexes of the type that a shape makes, from those of the types that it numbers
abbrev pub bound_parts : List ℕ → Parts → ℕ
bound_parts bounds [] = 0
bound_parts bounds (x ∷ xs) = max (get_or bounds x.1 0) (bound_parts bounds xs)

abbrev pub bound_at : List ℕ → Shape → ℕ
bound_at bounds (Shape.Var i) = i + 1
bound_at bounds Shape.Int = 0
bound_at bounds Shape.Bool = 0
bound_at bounds Shape.Text = 0
bound_at bounds (Shape.Arrow a b) = max (get_or bounds a 0) (get_or bounds b 0)
bound_at bounds (Shape.Fields parts) = bound_parts bounds parts
bound_at bounds (Shape.Sum parts) = bound_parts bounds parts
bound_at bounds (Shape.All k b) = get_or bounds b 0 - 1
bound_at bounds (Shape.Ex k b) = get_or bounds b 0 - 1
bound_at bounds (Shape.Mu b) = get_or bounds b 0 - 1
bound_at bounds (Shape.Lam k b) = get_or bounds b 0 - 1
bound_at bounds (Shape.Apply f a) = max (get_or bounds f 0) (get_or bounds a 0)

-- each number is that of the type at its place
pub record AreBounds (ts : List Ty) (bounds : List ℕ) : Type 0 where
  pub bounds_are : bounds ≡ map bound_of ts

-- more shapes of a store, with the bounds of their types
pub record Extends (old new : List Shape) (bounds : List ℕ) : Type 0 where
  pub store : IsStore new
  pub are_bounds : AreBounds (trees new) bounds
  pub begins : Begins (trees old) (trees new)
