-- What a node of a type is seen as, and what its mark says.
use Rattle.std.specs.Prelude.{◌≡◌, Bool, IsTrue}
use Rattle.omega_kinds.specs.View.{kind_tree}
use Rattle.omega_types.specs.declared.tree.TyNode.{TyNode}
use Rattle.omega_types.specs.declared.tree.TyNode.TheVariants as node
use Rattle.omega_types.specs.Ty.{Ty}
use Rattle.omega_types.specs.Fields.{row}

-- the type that a node makes
abbrev pub ty_of : TyNode → Ty
ty_of (node.Var i) = Ty.Var i
ty_of node.Int = Ty.Int
ty_of node.Bool = Ty.Bool
ty_of node.Text = Ty.Text
ty_of (node.Arrow a b) = Ty.Arrow a b
ty_of (node.Fields fields) = Ty.Fields (row fields)
ty_of (node.Sum fields) = Ty.Sum (row fields)
ty_of (node.All k b) = Ty.All (kind_tree k) b
ty_of (node.Ex k b) = Ty.Ex (kind_tree k) b
ty_of (node.Mu b) = Ty.Mu b
ty_of (node.Lam k b) = Ty.Lam (kind_tree k) b
ty_of (node.Apply f a) = Ty.Apply f a

-- an arrow whose two parts are one tree
abbrev pub IsEven : Ty → Type 0
IsEven (Ty.Arrow a b) = a ≡ b
IsEven t = ⊥

-- a type that has the mark is such an arrow: so a walk need only look at one of its parts
abbrev pub KnownEven : Bool → Ty → Type 0
KnownEven mark t = IsTrue mark → IsEven t
