use Rattle.std.proofs.Common.{◌≡◌, List, sym}
use Rattle.std.proofs.lemmas.Result.{IfOk-weaker}
use Rattle.omega_kinds.specs.Kind.{Kind}
use Rattle.omega_terms.specs.Term.{Term}
use Rattle.sig_definitions.specs.Packing.{Packed}
use Rattle.sig_laws.specs.Good.{KindedModule}
use Rattle.semantic_sigs.specs.Inner.Made.{module_of}
use Rattle.module_judgments.specs.Sequence.{past_opens}
use Rattle.module_rules.proofs.sequences.last_term.Goals as goal

pub returns : goal.returns
returns c =
    let m = module_of c.args.rest.now in
    IfOk-weaker _ _ (λ (e : Term). (q : Term) × ((ctx : List Kind) → KindedModule ctx m → Packed ctx m q) × (e ≡ past_opens c.args.kinds.now q))
    (λ e h. (c.in_ok-packed.packed, c.in_ok-packed.ensures, h c.args.kinds.now (sym c.count_of.ensures))) c.past_opens.ensures
