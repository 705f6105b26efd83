use Rattle.std.proofs.Common.{◌≡◌, zero, ap, ◌∙◌}
use Rattle.std.proofs.lemmas.Result.{IfOk-weaker}
use Rattle.omega_kinds.specs.declared.label.Label.{Label}
use Rattle.omega_terms.specs.Shorthands.{opens}
use Rattle.omega_terms.specs.Term.{Term}
use Rattle.sig_definitions.specs.Signatures.Encoding.{enc_abs}
use Rattle.semantic_sigs.specs.Inner.View.{kinds_of}
use Rattle.module_rules.proofs.paths.opened_value.Goals as goal

pub returns : goal.returns
returns c =
    let x = c.args.sig.now in
    IfOk-weaker _ _ (λ (e : Term). e ≡ opens (kinds_of x) c.args.term (enc_abs x) (Term.Get (Term.Var zero) Label.Val))
    (λ e q. q ∙ ap (opens (kinds_of x) c.args.term (enc_abs x)) (c.in_ok-body.ensures ∙ ap (λ u. Term.Get u Label.Val) c.in_ok-own.ensures)) c.opened.ensures
