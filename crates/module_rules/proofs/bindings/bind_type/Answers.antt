use Rattle.std.proofs.Common.{ap, ap₂, ◌∙◌, sym, subst, []}
use Rattle.std.proofs.lemmas.Result.{IfOk-weaker}
use Rattle.omega_kinds.specs.View.{kind_tree}
use Rattle.omega_kinds.specs.declared.effect.Effect.TheVariants.{Pure}
use Rattle.omega_terms.specs.PartTerms.{type_term}
use Rattle.sig_definitions.specs.Signatures.Sig.{Sig, Abs, made}
use Rattle.semantic_sigs.specs.Inner.Made.{module_of}
use Rattle.semantic_sigs.specs.declared.made.Module.{Module}
use Rattle.module_judgments.specs.ModRules.{TypeGives}
use Rattle.module_rules.proofs.bindings.bind_type.Goals as goal

pub returns : goal.returns
returns c =
    let part = c.in_ok-sig.ensures ∙ ap₂ Sig.Typ c.in_ok-shared.ensures c.in_ok-kind.ensures in
    let term = c.in_ok-term.ensures ∙ ap (λ t. type_term t (kind_tree c.args.ty.now.kind)) c.plain.ensures in
    let same = ap₂ (λ s e. made Pure (Abs.Ex [] s) [] e) part term in
    let ty = c.args.ty.now in
    IfOk-weaker _ _ (λ (m : Module). TypeGives ty.ty (kind_tree ty.kind) (module_of m)) (λ m q. subst (TypeGives ty.ty (kind_tree ty.kind)) (sym (q ∙ same)) TypeGives.type) c.open_module.ensures
