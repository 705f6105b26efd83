use Rattle.std.proofs.Common.{◌≡◌, IfOk, subst}
use Rattle.omega_kinds.specs.View.{kind_tree}
use Rattle.omega_types.specs.Ty.{Ty}
use Rattle.type_normal.proofs.PlaceSteps.{ty-one}
use Rattle.type_normal.proofs.filling.fill_whole.Goals as goal

pub returns : goal.returns
returns c =
    subst (λ (u : Ty). IfOk c.place.result (λ t. t ≡ u)) (ty-one (kind_tree c.args.kind.now) c.args.index c.args.arg.now c.args.body.now) c.place.ensures
