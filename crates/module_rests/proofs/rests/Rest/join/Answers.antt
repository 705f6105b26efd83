use Rattle.std.specs.Prelude.{List, ◌≡◌, vec_len}
use Rattle.std.proofs.Math.Path.{◌∙◌}
use Rattle.std.proofs.lemmas.Result.{IfOk-weaker}
use Rattle.omega_kinds.specs.Kind.{Kind}
use Rattle.sig_definitions.specs.Signatures.Sig.{Module}
use Rattle.sig_laws.specs.Good.{OkModule}
use Rattle.semantic_sigs.specs.Inner.Made.{module_of}
use Rattle.semantic_sigs.specs.declared.made.Module.{Module as CodeModule}
use Rattle.module_rests.specs.Inner.Rests.{Comes}
use Rattle.module_rests.proofs.Rows.{join-some}
use Rattle.module_rests.proofs.rests.Rest.join.Goals as goal

pub returns : goal.returns
returns c =
    let r = c.args.self in
    IfOk-weaker c.sequence.result _ (λ (w : CodeModule). (ctx : List Kind) (m : Module) → OkModule ctx m → Comes ctx r m → module_of w ≡ m)
    (λ w h. join-some r.steps.items c.deref.result.now r.last (module_of w) (vec_len r.steps) c.if-is_empty.ensures (c.deref.ensures.len ∙ c.reverse.ensures.len) (c.deref.ensures.value ∙ c.reverse.ensures.items) h)
    c.sequence.ensures
