-- What a form is seen as.
use Rattle.omega_kinds.specs.View.{kind_tree}
use Rattle.type_store.specs.declared.node.Form.{Form}
use Rattle.type_store.specs.declared.node.Form.TheVariants as form
use Rattle.type_store.specs.Shape.{Shape}

abbrev pub shape_of : Form → Shape
shape_of (form.Var i) = Shape.Var i
shape_of form.Int = Shape.Int
shape_of form.Bool = Shape.Bool
shape_of form.Text = Shape.Text
shape_of (form.Arrow a b) = Shape.Arrow a b
shape_of (form.Fields parts) = Shape.Fields parts.items
shape_of (form.Sum parts) = Shape.Sum parts.items
shape_of (form.All k b) = Shape.All (kind_tree k) b
shape_of (form.Ex k b) = Shape.Ex (kind_tree k) b
shape_of (form.Mu b) = Shape.Mu b
shape_of (form.Lam k b) = Shape.Lam (kind_tree k) b
shape_of (form.Apply f a) = Shape.Apply f a
