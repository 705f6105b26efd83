use Rattle.std.proofs.Common.{◌≡◌, zero}
use Rattle.std.proofs.lemmas.Result.{IfOk-weaker}
use Rattle.omega_kinds.specs.declared.label.Label.TheVariants as label
use Rattle.omega_terms.specs.Shorthands.{opens}
use Rattle.omega_terms.specs.Term.{Term}
use Rattle.sig_definitions.specs.Signatures.Encoding.{enc_abs}
use Rattle.semantic_sigs.specs.Inner.View.{kinds_of}
use Rattle.module_rules.specs.Inner.Shown.{PackedAgain}
use Rattle.module_rules.proofs.Made.{opened-part}
use Rattle.module_rules.proofs.projecting.opened_part.Goals as goal

pub returns : goal.returns
returns c =
    let w = c.args.whole.now in
    IfOk-weaker _ _ (λ (e : Term). (d : Term) × PackedAgain (kinds_of w.sig) c.args.sig.now (Term.Get (Term.Var zero) (label.Name c.args.name.now)) d × (e ≡ opens (kinds_of w.sig) w.term (enc_abs w.sig) d))
    (λ e q. opened-part w.sig c.args.sig.now c.kinds.result.now w.term c.in_ok-term.term c.in_ok-part.part c.in_ok-own.own c.in_ok-body.body e c.args.name.now c.in_ok-own.ensures c.in_ok-part.ensures c.kinds.ensures c.in_ok-body.ensures c.in_ok-term.ensures q) c.opened.ensures
