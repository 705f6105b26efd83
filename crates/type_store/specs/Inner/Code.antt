-- The code of a shape: the type with variables for its numbers.
use Rattle.std.specs.Prelude.{◌≡◌, ℕ, [], ◌∷◌, refl}
use Rattle.std.specs.Coded.{Coded, code_by}
use Rattle.omega_types.specs.Inner.Code.{ty_code}
use Rattle.omega_types.specs.Ty.{Ty, Row}
use Rattle.type_store.specs.Shape.{Shape, Parts}

abbrev pub stored_parts : Parts → Row
stored_parts [] = Row.End
stored_parts (x ∷ xs) = Row.More x.0 (Ty.Var x.1) (stored_parts xs)

abbrev pub stored : Shape → Ty
stored (Shape.Var i) = Ty.Var i
stored Shape.Int = Ty.Int
stored Shape.Bool = Ty.Bool
stored Shape.Text = Ty.Text
stored (Shape.Arrow a b) = Ty.Arrow (Ty.Var a) (Ty.Var b)
stored (Shape.Fields parts) = Ty.Fields (stored_parts parts)
stored (Shape.Sum parts) = Ty.Sum (stored_parts parts)
stored (Shape.All k b) = Ty.All k (Ty.Var b)
stored (Shape.Ex k b) = Ty.Ex k (Ty.Var b)
stored (Shape.Mu b) = Ty.Mu (Ty.Var b)
stored (Shape.Lam k b) = Ty.Lam k (Ty.Var b)
stored (Shape.Apply f a) = Ty.Apply (Ty.Var f) (Ty.Var a)

abbrev pub number : Ty → ℕ
number (Ty.Var i) = i
number _ = 0

abbrev pub restored_parts : Row → Parts
restored_parts Row.End = []
restored_parts (Row.More l t r) = (l, number t) ∷ restored_parts r

abbrev pub restored : Ty → Shape
restored (Ty.Var i) = Shape.Var i
restored Ty.Int = Shape.Int
restored Ty.Bool = Shape.Bool
restored Ty.Text = Shape.Text
restored (Ty.Arrow a b) = Shape.Arrow (number a) (number b)
restored (Ty.Fields r) = Shape.Fields (restored_parts r)
restored (Ty.Sum r) = Shape.Sum (restored_parts r)
restored (Ty.All k b) = Shape.All k (number b)
restored (Ty.Ex k b) = Shape.Ex k (number b)
restored (Ty.Mu b) = Shape.Mu (number b)
restored (Ty.Lam k b) = Shape.Lam k (number b)
restored (Ty.Apply f a) = Shape.Apply (number f) (number a)

pub restored-stored_parts : (parts : Parts) → restored_parts (stored_parts parts) ≡ parts
restored-stored_parts [] = refl
restored-stored_parts (x ∷ xs) = λ i. x ∷ restored-stored_parts xs i

pub restored-stored : (s : Shape) → restored (stored s) ≡ s
restored-stored (Shape.Var n) = refl
restored-stored Shape.Int = refl
restored-stored Shape.Bool = refl
restored-stored Shape.Text = refl
restored-stored (Shape.Arrow a b) = refl
restored-stored (Shape.Fields parts) = λ i. Shape.Fields (restored-stored_parts parts i)
restored-stored (Shape.Sum parts) = λ i. Shape.Sum (restored-stored_parts parts i)
restored-stored (Shape.All k b) = refl
restored-stored (Shape.Ex k b) = refl
restored-stored (Shape.Mu b) = refl
restored-stored (Shape.Lam k b) = refl
restored-stored (Shape.Apply f a) = refl

abbrev pub shape_code : Coded Shape
shape_code = code_by Ty ty_code stored restored restored-stored
