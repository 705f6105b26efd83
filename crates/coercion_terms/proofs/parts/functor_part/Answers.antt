use Rattle.std.proofs.Common.{◌≡◌, IfOk, rules, arith}
use Rattle.std.proofs.lemmas.Grind.{common_steps}
use Rattle.std.proofs.lemmas.Result.{IfOk-weaker}
use Rattle.omega_terms.specs.Coercions.{functor_part}
use Rattle.coercion_terms.proofs.RowSteps.{functor-typed}
use Rattle.coercion_terms.proofs.parts.functor_part.Goals as goal

pub returns-clause-typed : goal.returns-clause-typed
returns-clause-typed c =
    let value : IfOk c.make-3.result (λ e. e ≡ functor_part c.args.sides.now.from.now c.args.sides.now.left c.args.sides.now.right c.args.sides.now.kinds.now c.args.sides.now.param.now c.args.types.now c.args.inner.now c.args.outer.now) = first_of (search rules, grind (arith, common_steps)) in
    IfOk-weaker _ _ _ (λ e q. functor-typed c.args.sides.now.from.now c.args.sides.now.left c.args.sides.now.right c.args.sides.now.kinds.now c.args.sides.now.param.now c.args.types.now c.args.inner.now c.args.outer.now e q) value
