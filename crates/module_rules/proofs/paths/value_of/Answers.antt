use Rattle.std.proofs.Common.{◌≡◌, sym, ap, ◌∙◌}
use Rattle.std.proofs.lemmas.Result.{IfOk-weaker}
use Rattle.omega_kinds.specs.declared.effect.Effect.TheVariants.{Impure}
use Rattle.omega_kinds.specs.declared.label.Label.{Label}
use Rattle.omega_terms.specs.Term.{Term}
use Rattle.sig_definitions.specs.Signatures.Encoding.{enc_abs}
use Rattle.semantic_sigs.specs.Inner.View.{kinds_of}
use Rattle.module_judgments.specs.PathUse.{value_of}
use Rattle.module_rules.proofs.paths.value_of.Goals as goal

pub returns-in-Pure : goal.returns-in-Pure
returns-in-Pure c =
    let w = c.args.whole.now in
    IfOk-weaker _ _ (λ (e : Term). e ≡ value_of w.effect (kinds_of w.sig) w.term (enc_abs w.sig))
    (λ e q. q ∙ (ap (λ d. Term.Get d Label.Val) c.in_ok-term.ensures ∙ ap (λ f. value_of f (kinds_of w.sig) w.term (enc_abs w.sig)) (sym c.in-Pure.is))) c.make.ensures

pub returns-in-Impure : goal.returns-in-Impure
returns-in-Impure c =
    let w = c.args.whole.now in
    IfOk-weaker _ _ (λ (e : Term). e ≡ value_of w.effect (kinds_of w.sig) w.term (enc_abs w.sig))
    (λ e q. q ∙ (ap (λ d. value_of Impure (kinds_of w.sig) d (enc_abs w.sig)) c.in_ok-term.ensures ∙ ap (λ f. value_of f (kinds_of w.sig) w.term (enc_abs w.sig)) (sym c.in-Impure.is))) c.opened_value.ensures
