-- A lifted variable as the code keeps it, with the kind of its hidden type.
use Rattle.std.specs.Prelude.{◌≡◌, List}
use Rattle.omega_kinds.specs.Kind.{Kind}
use Rattle.omega_kinds.specs.View.{kind_tree}
use Rattle.applicative_functors.specs.Inner.LiftedVars.{lifted_var}
use Rattle.applicative_functors.specs.declared.parameters.Lifted.{Lifted}

abbrev pub IsLifted : List Kind → Lifted → Type 0
IsLifted ks own = own.ty ≡ lifted_var ks (kind_tree own.kind)
