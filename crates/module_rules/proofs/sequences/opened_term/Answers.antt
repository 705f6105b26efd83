use Rattle.std.proofs.lemmas.Result.{IfOk-weaker}
use Rattle.omega_terms.specs.Term.{Term}
use Rattle.semantic_sigs.specs.Inner.Made.{module_of}
use Rattle.module_rules.specs.Inner.Shown.{OpenedTerm}
use Rattle.module_rules.proofs.Made.{opened-term}
use Rattle.module_rules.proofs.sequences.opened_term.Goals as goal

pub returns : goal.returns
returns c =
    let a = c.args.first.now in
    let b = c.args.rest.now in
    let last = c.in_ok-last.ensures in
    IfOk-weaker _ _ (λ (e : Term). OpenedTerm a.sig (module_of a) (module_of b) c.args.whole.now e)
    (λ e q. opened-term a.sig (module_of a) (module_of b) c.args.whole.now c.kinds.result.now c.kinds-2.result.now c.in_ok-packed.packed last.0 c.in_ok-body.body c.in_ok-last.last e c.in_ok-packed.ensures last.1 last.2 c.kinds.ensures c.in_ok-body.ensures c.kinds-2.ensures q) c.opened.ensures
