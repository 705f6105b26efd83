use Rattle.std.proofs.Common.{◌≡◌}
use Rattle.std.proofs.lemmas.Result.{IfOk-weaker}
use Rattle.omega_terms.specs.Coercions.{result_label}
use Rattle.omega_terms.specs.Shorthands.{insts}
use Rattle.omega_terms.specs.Term.{Term}
use Rattle.module_rules.proofs.Made.{functor-type}
use Rattle.module_rules.proofs.functors.applied.Goals as goal

pub returns : goal.returns
returns c =
    let a = c.args in
    IfOk-weaker _ _ (λ (e : Term). e ≡ Term.Get (Term.Call (insts a.functor.now a.types.now) (Term.Call a.coercion a.arg)) (result_label a.effect))
    (λ e q. functor-type a.effect e c.in_ok-function.function c.in_ok-coerced.coerced c.in_ok-called.called c.in_ok-shared.shared a.functor.now a.coercion a.arg a.types.now c.result_label.result c.in_ok-shared.ensures c.in_ok-function.ensures c.in_ok-coerced.ensures c.in_ok-called.ensures c.result_label.ensures q) c.make-3.ensures
