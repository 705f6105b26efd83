use Rattle.std.proofs.Common.{ap, ◌∙◌}
use Rattle.std.proofs.lemmas.Result.{IfOk-weaker}
use Rattle.omega_terms.specs.Term.{Term}
use Rattle.omega_shorthands.specs.Inner.Packed.{opened}
use Rattle.coercion_terms.proofs.PackSteps.{abs-exact, abs-made, abs-typed}
use Rattle.coercion_terms.proofs.packing.abs_part.Goals as goal

pub returns-clause-exact : goal.returns-clause-exact
returns-clause-exact c =
    IfOk-weaker _ _ _ (λ e q. abs-exact c.args.from.now c.args.count c.args.types.now c.args.inner.now c.args.to.now c.in_ok-body.body c.in_ok-opened.opened e c.in_ok-body.ensures (c.in_ok-opened.ensures.value ∙ ap (λ v. opened c.args.count v c.args.from.now c.in_ok-body.body) c.in_ok-variable.ensures) (q ∙ ap (λ u. Term.Lam u c.in_ok-opened.opened) c.in_ok-share.ensures)) c.make.ensures

pub returns-clause-value : goal.returns-clause-value
returns-clause-value c =
    IfOk-weaker _ _ _ (λ e q. abs-made c.args.from.now c.args.count c.args.types.now c.args.inner.now c.args.to.now c.in_ok-body.body c.in_ok-opened.opened e c.in_ok-body.ensures (c.in_ok-opened.ensures.value ∙ ap (λ v. opened c.args.count v c.args.from.now c.in_ok-body.body) c.in_ok-variable.ensures) (q ∙ ap (λ u. Term.Lam u c.in_ok-opened.opened) c.in_ok-share.ensures)) c.make.ensures

pub returns-clause-typed : goal.returns-clause-typed
returns-clause-typed c =
    IfOk-weaker _ _ _ (λ e q. abs-typed c.args.from.now c.args.count c.args.types.now c.args.inner.now c.args.to.now e (abs-made c.args.from.now c.args.count c.args.types.now c.args.inner.now c.args.to.now c.in_ok-body.body c.in_ok-opened.opened e c.in_ok-body.ensures (c.in_ok-opened.ensures.value ∙ ap (λ v. opened c.args.count v c.args.from.now c.in_ok-body.body) c.in_ok-variable.ensures) (q ∙ ap (λ u. Term.Lam u c.in_ok-opened.opened) c.in_ok-share.ensures))) c.make.ensures
