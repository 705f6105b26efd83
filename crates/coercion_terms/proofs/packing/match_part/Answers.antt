use Rattle.std.proofs.Common.{ap, ◌∙◌}
use Rattle.std.proofs.lemmas.Result.{IfOk-weaker}
use Rattle.omega_terms.specs.Term.{Term}
use Rattle.coercion_terms.proofs.PackSteps.{match-exact, match-made, match-typed}
use Rattle.coercion_terms.proofs.packing.match_part.Goals as goal

pub returns-clause-exact : goal.returns-clause-exact
returns-clause-exact c =
    IfOk-weaker _ _ _ (λ e q. match-exact c.args.from.now c.args.types.now c.args.inner.now c.args.to.now c.in_ok-body.body e c.in_ok-body.ensures (q ∙ ap (λ u. Term.Lam u c.in_ok-body.body) c.in_ok-share.ensures)) c.make.ensures

pub returns-clause-value : goal.returns-clause-value
returns-clause-value c =
    IfOk-weaker _ _ _ (λ e q. match-made c.args.from.now c.args.types.now c.args.inner.now c.args.to.now c.in_ok-body.body e c.in_ok-body.ensures (q ∙ ap (λ u. Term.Lam u c.in_ok-body.body) c.in_ok-share.ensures)) c.make.ensures

pub returns-clause-typed : goal.returns-clause-typed
returns-clause-typed c =
    IfOk-weaker _ _ _ (λ e q. match-typed c.args.from.now c.args.types.now c.args.inner.now c.args.to.now e (match-made c.args.from.now c.args.types.now c.args.inner.now c.args.to.now c.in_ok-body.body e c.in_ok-body.ensures (q ∙ ap (λ u. Term.Lam u c.in_ok-body.body) c.in_ok-share.ensures))) c.make.ensures
