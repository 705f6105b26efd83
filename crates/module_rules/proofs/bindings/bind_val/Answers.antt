use Rattle.std.proofs.Common.{ap₂, ◌∙◌, sym, subst, []}
use Rattle.std.proofs.lemmas.Result.{IfOk-weaker}
use Rattle.omega_kinds.specs.declared.effect.Effect.TheVariants.{Pure}
use Rattle.sig_definitions.specs.Signatures.Sig.{Abs, made}
use Rattle.semantic_sigs.specs.Inner.Made.{module_of}
use Rattle.semantic_sigs.specs.declared.made.Module.{Module}
use Rattle.module_judgments.specs.ModRules.{ValueGives}
use Rattle.module_rules.proofs.bindings.bind_val.Goals as goal

pub returns : goal.returns
returns c =
    let same = ap₂ (λ s e. made Pure (Abs.Ex [] s) [] e) c.in_ok-sig.ensures c.in_ok-term.ensures in
    let value = c.args.value in
    IfOk-weaker _ _ (λ (m : Module). ValueGives value.ty value.term (module_of m)) (λ m q. subst (ValueGives value.ty value.term) (sym (q ∙ same)) ValueGives.value) c.open_module.ensures
