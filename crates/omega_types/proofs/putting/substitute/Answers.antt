use Rattle.std.proofs.Common.{◌≡◌, IfOk, subst}
use Rattle.omega_types.specs.Ty.{Ty}
use Rattle.omega_types.proofs.Steps.{walk-puts}
use Rattle.omega_types.proofs.putting.substitute.Goals as goal

pub returns : goal.returns
returns c =
    subst (λ (u : Ty). IfOk c.walk_type.result (λ t. t ≡ u)) (walk-puts c.args.index c.args.arg.now c.args.body.now) c.walk_type.ensures
