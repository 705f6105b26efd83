use Rattle.std.proofs.Common.{ap, ap₂, ◌∙◌, sym, subst, []}
use Rattle.std.proofs.lemmas.Result.{IfOk-weaker}
use Rattle.omega_kinds.specs.declared.effect.Effect.TheVariants.{Pure}
use Rattle.sig_definitions.specs.Signatures.Sig.{Sig, Abs, made}
use Rattle.semantic_sigs.specs.Inner.Made.{module_of}
use Rattle.semantic_sigs.specs.declared.made.Module.{Module}
use Rattle.module_judgments.specs.ModRules.{SignatureGives}
use Rattle.module_rules.proofs.bindings.bind_sig.Goals as goal

pub returns : goal.returns
returns c =
    let part = c.in_ok-part.ensures ∙ ap Sig.Meta c.in_ok-shared.ensures in
    let same = ap₂ (λ s e. made Pure (Abs.Ex [] s) [] e) part c.in_ok-term.ensures in
    IfOk-weaker _ _ (λ (m : Module). SignatureGives c.args.sig.now (module_of m)) (λ m q. subst (SignatureGives c.args.sig.now) (sym (q ∙ same)) SignatureGives.signature) c.open_module.ensures
