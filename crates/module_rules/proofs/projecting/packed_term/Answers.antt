use Rattle.std.proofs.Common.{List}
use Rattle.std.proofs.lemmas.Result.{IfOk-weaker}
use Rattle.omega_kinds.specs.Kind.{Kind}
use Rattle.omega_terms.specs.Term.{Term}
use Rattle.sig_definitions.specs.Packing.{Packed}
use Rattle.sig_laws.specs.Good.{KindedModule}
use Rattle.semantic_sigs.specs.Inner.Made.{module_of}
use Rattle.module_rules.proofs.Made.{packed-of-pure, packed-of-impure}
use Rattle.module_rules.proofs.projecting.packed_term.Goals as goal

pub returns-in-Pure : goal.returns-in-Pure
returns-in-Pure c =
    let w = c.args.whole.now in
    IfOk-weaker _ _ (λ (d : Term). (ctx : List Kind) → KindedModule ctx (module_of w) → Packed ctx (module_of w) d)
    (λ d q. packed-of-pure w.effect w.sig w.types w.term d c.in-Pure.is q) c.packed_pure.ensures

pub returns-in-Impure : goal.returns-in-Impure
returns-in-Impure c =
    let w = c.args.whole.now in
    IfOk-weaker _ _ (λ (d : Term). (ctx : List Kind) → KindedModule ctx (module_of w) → Packed ctx (module_of w) d)
    (λ d q. packed-of-impure w.effect w.sig w.types w.term d c.in-Impure.is q) c.share.ensures
