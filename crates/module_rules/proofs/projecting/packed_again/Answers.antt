use Rattle.std.proofs.lemmas.Bool.{eqb-true}
use Rattle.std.proofs.lemmas.Result.{IfOk-weaker}
use Rattle.std.proofs.Common.{◌≡◌, sym}
use Rattle.semantic_sigs.proofs.MentionSteps.{no-kinds}
use Rattle.module_rules.specs.Inner.Shown.{PackedAgain}
use Rattle.module_rules.proofs.Packs.{packs-nothing}
use Rattle.module_rules.proofs.projecting.packed_again.Goals as goal

pub returns-then-is_empty : goal.returns-then-is_empty
returns-then-is_empty c =
    let e = no-kinds c.items.result.now c.args.kinds.now c.items.ensures (eqb-true _ _ (sym c.if-is_empty.ensures)) in
    IfOk-weaker c.share.result (λ d. d ≡ c.args.term.now) (PackedAgain c.args.kinds.now c.args.sig.now c.args.term.now) (λ d h. packs-nothing c.args.kinds.now c.args.sig.now c.args.term.now d e h) c.share.ensures
