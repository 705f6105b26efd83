use Rattle.std.proofs.Common.{◌≡◌, List, ap₂, ◌∙◌}
use Rattle.std.proofs.lemmas.Result.{IfOk-weaker}
use Rattle.omega_kinds.specs.Kind.{Kind}
use Rattle.sig_definitions.specs.Signatures.Sig.{Sig, Abs, SigRow, HasField}
use Rattle.sig_laws.specs.Good.{KindedModule}
use Rattle.semantic_sigs.specs.Inner.Made.{module_of}
use Rattle.semantic_sigs.specs.Inner.View.{body_of}
use Rattle.semantic_sigs.specs.declared.made.Module.{Module}
use Rattle.module_judgments.specs.Projection.{Projected}
use Rattle.module_rules.proofs.projecting.part_of.Goals as goal

pub returns-in-Pure : goal.returns-in-Pure
returns-in-Pure c =
    let w = c.args.whole.now in
    IfOk-weaker _ _ (λ (m : Module). (fs : SigRow) → body_of w.sig ≡ Sig.Str fs → HasField fs c.args.name.now c.args.part.now → (ctx : List Kind) → KindedModule ctx (module_of w) → Projected ctx (module_of w) c.args.name.now (module_of m))
    (λ m q fs e h. q fs c.args.part.now c.in-Pure.is e h (c.in_ok-sig.ensures ∙ ap₂ Abs.Ex (c.in_ok-kinds.ensures ∙ c.kinds.ensures) c.in_ok-body.ensures)) c.pure_part.ensures

pub returns : goal.returns
returns c =
    let w = c.args.whole.now in
    IfOk-weaker _ _ (λ (m : Module). (fs : SigRow) → body_of w.sig ≡ Sig.Str fs → HasField fs c.args.name.now c.args.part.now → (ctx : List Kind) → KindedModule ctx (module_of w) → Projected ctx (module_of w) c.args.name.now (module_of m))
    (λ m q fs e h. q fs c.args.part.now c.in-Impure.is e h (c.in_ok-sig.ensures ∙ ap₂ Abs.Ex (c.in_ok-kinds.ensures ∙ c.kinds.ensures) c.in_ok-body.ensures)) c.impure_part.ensures
