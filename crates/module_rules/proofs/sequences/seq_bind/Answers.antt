use Rattle.std.proofs.Common.{List}
use Rattle.std.proofs.lemmas.Result.{IfOk-weaker}
use Rattle.omega_kinds.specs.Kind.{Kind}
use Rattle.omega_types.specs.Binders.{extend}
use Rattle.sig_laws.specs.Good.{KindedModule}
use Rattle.semantic_sigs.specs.Inner.Made.{module_of}
use Rattle.semantic_sigs.specs.Inner.View.{kinds_of}
use Rattle.semantic_sigs.specs.declared.made.Module.{Module}
use Rattle.module_judgments.specs.Sequence.{Seq}
use Rattle.module_rules.proofs.sequences.seq_bind.Goals as goal

pub returns-then-both_pure : goal.returns-then-both_pure
returns-then-both_pure c =
    let a = c.args.first in
    let b = c.args.rest in
    let pure = c.both_pure.ensures.pure c.if-both_pure.true in
    IfOk-weaker _ _ (λ (m : Module). (ctx : List Kind) → KindedModule ctx (module_of a) → KindedModule (extend ctx (kinds_of a.sig)) (module_of b) → Seq ctx (module_of a) (module_of b) (module_of m))
    (λ m q. q pure.0 pure.1) c.pure_sequence.ensures

pub returns : goal.returns
returns c =
    let a = c.args.first in
    let b = c.args.rest in
    IfOk-weaker _ _ (λ (m : Module). (ctx : List Kind) → KindedModule ctx (module_of a) → KindedModule (extend ctx (kinds_of a.sig)) (module_of b) → Seq ctx (module_of a) (module_of b) (module_of m))
    (λ m q. q (c.both_pure.ensures.impure c.if-both_pure.false)) c.impure_sequence.ensures
