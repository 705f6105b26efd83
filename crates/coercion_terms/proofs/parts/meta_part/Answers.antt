use Rattle.std.proofs.Common.{◌≡◌, IfOk, rules, arith}
use Rattle.std.proofs.lemmas.Grind.{common_steps}
use Rattle.std.proofs.lemmas.Result.{IfOk-weaker}
use Rattle.omega_terms.specs.Coercions.{meta_part}
use Rattle.coercion_terms.proofs.RowSteps.{meta-typed}
use Rattle.coercion_terms.proofs.parts.meta_part.Goals as goal

pub returns-clause-typed : goal.returns-clause-typed
returns-clause-typed c =
    let value : IfOk c.make.result (λ e. e ≡ meta_part c.args.from.now c.args.to.now) = first_of (search rules, grind (arith, common_steps)) in
    IfOk-weaker _ _ _ (λ e q. meta-typed c.args.from.now c.args.to.now e q) value
