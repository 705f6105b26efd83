use Rattle.sig_premise_laws.proofs.Environments.{find-good}
use Rattle.elab_judgments.specs.Judgments.Meaning.ModMeans.{mod_apply}
use Rattle.module_judgments.proofs.Verdicts.{param-ok}
use Rattle.elab_rules.proofs.Given.{exit}
use Rattle.elab_rules.proofs.Ruled.{parts-functor}
use Rattle.elab_rules.proofs.Refuse.Modules.{mod_apply-functor, mod_apply-no_functor, mod_apply-arg, mod_apply-match}
use Rattle.elab_rules.proofs.named.mod_apply.Goals as goal

pub returns-in_err-functor-clause-refused : goal.returns-in_err-functor-clause-refused
returns-in_err-functor-clause-refused c =
    exit _ c.from_residual.result c.in_err-functor.field-0.0 c.from_residual.ensures.1 (λ at. mod_apply-functor c.in_err-functor.ensures.refused)

pub returns-in_err-parts-clause-refused : goal.returns-in_err-parts-clause-refused
returns-in_err-parts-clause-refused c =
    exit _ c.from_residual-in_err-parts.result c.in_err-parts.field-0.0 c.from_residual-in_err-parts.ensures.1 (λ at. mod_apply-no_functor c.in_ok-functor.ensures.found (rw c.body.ensures at c.in_err-parts.ensures.refused))

pub returns-in_err-found-clause-refused : goal.returns-in_err-found-clause-refused
returns-in_err-found-clause-refused c =
    exit _ c.from_residual-in_err-found.result c.in_err-found.field-0.0 c.from_residual-in_err-found.ensures.1 (λ at. mod_apply-arg c.in_ok-functor.ensures.found (rw c.body.ensures at c.in_ok-parts.ensures.given) c.in_err-found.ensures.refused)

pub match_rule-requires-clause-left : goal.match_rule-requires-clause-left
match_rule-requires-clause-left c = rw c.body-2.ensures (find-good c.args.env.now _ c.requires _ c.in_ok-found.ensures.found)

pub match_rule-requires-clause-right : goal.match_rule-requires-clause-right
match_rule-requires-clause-right c = param-ok (rw c.body.ensures at c.in_ok-parts.ensures.given) (find-good c.args.env.now _ c.requires _ c.in_ok-functor.ensures.found)

pub returns-in_err-matched-clause-refused : goal.returns-in_err-matched-clause-refused
returns-in_err-matched-clause-refused c =
    exit _ c.from_residual-in_err-matched.result c.in_err-matched.field-0.0 c.from_residual-in_err-matched.ensures.1
    (λ at. mod_apply-match c.in_ok-functor.ensures.found (rw c.body.ensures at c.in_ok-parts.ensures.given) c.in_ok-found.ensures.found (rw c.body-2.ensures at c.in_err-matched.ensures.refused))

pub apply_rule-requires : goal.apply_rule-requires
apply_rule-requires c = parts-functor (rw c.body.ensures at c.in_ok-parts.ensures.given)

pub returns-clause-given : goal.returns-clause-given
returns-clause-given c =
    let parts = rw c.body.ensures at c.in_ok-parts.ensures.given in
    let matched = rw c.body-2.ensures at c.in_ok-matched.ensures.given in
    let good = find-good c.args.env.now _ c.requires _ c.in_ok-functor.ensures.found in
    λ at. mod_apply c.in_ok-functor.ensures.found parts c.in_ok-found.ensures.found matched (c.in_ok-apply_rule.ensures _ _ _ _ _ good parts matched)
