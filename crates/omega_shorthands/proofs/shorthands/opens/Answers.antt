use Rattle.std.proofs.Common.{◌≡◌, List, length}
use Rattle.std.proofs.lemmas.Result.{IfOk-weaker}
use Rattle.omega_kinds.specs.Kind.{Kind}
use Rattle.omega_terms.specs.Term.{Term}
use Rattle.omega_terms.specs.Shorthands.{opens}
use Rattle.omega_shorthands.proofs.PackSteps.{opened-after}
use Rattle.omega_shorthands.proofs.shorthands.opens.Goals as goal

pub returns-in_ok-inner-clause-opens : goal.returns-in_ok-inner-clause-opens
returns-in_ok-inner-clause-opens c =
    IfOk-weaker _ _ (λ (e : Term). (ks : List Kind) → length ks ≡ c.args.count → e ≡ opens ks c.args.term c.args.from.now c.args.body)
    (λ e q ks len. opened-after ks c.args.count c.args.term c.args.from.now c.args.body c.in_ok-inner.inner e c.if-count-eq0.false len c.in_ok-inner.ensures q) c.make.ensures
