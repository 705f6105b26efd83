use Rattle.std.proofs.lemmas.Result.{IfOk-weaker}
use Rattle.omega_terms.specs.Term.{Term}
use Rattle.module_rules.specs.Inner.Shown.{PackedAgain}
use Rattle.module_rules.proofs.Made.{packs-again}
use Rattle.module_rules.proofs.projecting.packed_below.Goals as goal

pub returns : goal.returns
returns c =
    IfOk-weaker _ _ (λ (d : Term). PackedAgain c.args.kinds.now c.args.sig.now c.args.term.now d)
    (λ d q. packs-again c.args.kinds.now c.count_of.result c.args.sig.now c.in_ok-from.from c.in_ok-to.to c.items.result.now c.in_ok-own.own c.args.term.now d c.in_ok-from.ensures c.count_of.ensures c.in_ok-to.ensures c.in_ok-own.ensures c.items.ensures q) c.pack_up.ensures.packs
