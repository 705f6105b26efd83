use Rattle.std.proofs.Common.{◌≡◌, IfOk, subst}
use Rattle.omega_types.specs.Ty.{Ty}
use Rattle.omega_types.proofs.Steps.{walk-shifts}
use Rattle.omega_types.proofs.shifting.shift.Goals as goal

pub returns : goal.returns
returns c =
    subst (λ (u : Ty). IfOk c.walk_type.result (λ t. t ≡ u)) (walk-shifts c.args.by c.args.from c.args.ty.now) c.walk_type.ensures
