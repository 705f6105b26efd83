use Rattle.std.proofs.Common.{List}
use Rattle.std.proofs.lemmas.Result.{IfOk-weaker}
use Rattle.omega_kinds.specs.Kind.{Kind}
use Rattle.omega_terms.specs.Shorthands.{Packs}
use Rattle.omega_terms.specs.Term.{Term}
use Rattle.sig_definitions.specs.Signatures.Encoding.{enc_abs}
use Rattle.omega_shorthands.specs.Inner.Packed.{Fills}
use Rattle.module_rules.proofs.Made.{packs-at, packs-none}
use Rattle.module_rules.proofs.projecting.packed_pure.Goals as goal

pub returns-then-is_empty : goal.returns-then-is_empty
returns-then-is_empty c =
    let w = c.args.whole.now in
    IfOk-weaker _ _ (λ (d : Term). (ctx : List Kind) → Fills ctx w.types (enc_abs w.sig) → Packs ctx w.types w.term (enc_abs w.sig) d)
    (λ d q ctx _. packs-none c.items-types.result.now w.types w.term (enc_abs w.sig) d c.if-is_empty.ensures c.items-types.ensures q ctx) c.share.ensures

pub returns : goal.returns
returns c =
    let w = c.args.whole.now in
    IfOk-weaker _ _ (λ (d : Term). (ctx : List Kind) → Fills ctx w.types (enc_abs w.sig) → Packs ctx w.types w.term (enc_abs w.sig) d)
    (λ d q. packs-at c.items-types.result.now w.types w.term c.in_ok-to.to (enc_abs w.sig) d c.items-types.ensures c.in_ok-to.ensures q) c.pack_up.ensures.packs
