use Rattle.std.proofs.Common.{◌≡◌, IfOk, rules, arith}
use Rattle.std.proofs.lemmas.Grind.{common_steps}
use Rattle.std.proofs.lemmas.Result.{IfOk-weaker}
use Rattle.omega_terms.specs.Coercions.{same_part}
use Rattle.coercion_terms.proofs.RowSteps.{same-typed}
use Rattle.coercion_terms.proofs.parts.same_part.Goals as goal

pub returns-clause-typed : goal.returns-clause-typed
returns-clause-typed c =
    let value : IfOk c.make.result (λ e. e ≡ same_part c.args.from.now) = first_of (search rules, grind (arith, common_steps)) in
    IfOk-weaker _ _ _ (λ e q. same-typed c.args.from.now e q) value
