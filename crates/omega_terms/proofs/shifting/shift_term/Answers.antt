use Rattle.std.proofs.Common.{◌≡◌, IfOk, subst}
use Rattle.omega_terms.specs.Term.{Term}
use Rattle.omega_terms.proofs.Raises.{walk-raises}
use Rattle.omega_terms.proofs.shifting.shift_term.Goals as goal

pub returns : goal.returns
returns c = subst (λ (u : Term). IfOk c.walk.result (λ e. e ≡ u)) (walk-raises c.args.types c.args.terms 0 0 c.args.term.now) c.walk.ensures
