use Rattle.std.proofs.Common.{◌≡◌, IfOk, subst}
use Rattle.omega_terms.specs.Term.{Term}
use Rattle.omega_terms.proofs.Puts.{walk-is-put_type}
use Rattle.omega_terms.proofs.putting_types.put_type.Goals as goal

pub returns : goal.returns
returns c = subst (λ (u : Term). IfOk c.walk.result (λ e. e ≡ u)) (walk-is-put_type c.args.index c.args.arg.now c.args.body.now) c.walk.ensures
