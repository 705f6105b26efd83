use Rattle.std.proofs.Common.{◌≡◌, sym, subst}
use Rattle.std.proofs.lemmas.Bool.{eqb-true}
use Rattle.std.proofs.lemmas.Result.{IfOk-weaker}
use Rattle.semantic_sigs.proofs.MentionSteps.{no-kinds}
use Rattle.sig_match.specs.Inner.Put.{filled, EachPut}
use Rattle.sig_match.proofs.PutSteps.{put-nothing}
use Rattle.sig_match.proofs.putting.at_found.Goals as goal

pub returns-then-is_empty-clause-at : goal.returns-then-is_empty-clause-at
returns-then-is_empty-clause-at c =
    let e = no-kinds c.items.result.now c.args.kinds.now c.items.ensures (eqb-true _ _ (sym c.if-is_empty.ensures)) in
    IfOk-weaker c.share.result (λ n. n ≡ c.args.sig.now) (λ n. EachPut c.args.kinds.now c.args.sig.now (filled c.args.kinds.now c.args.found.now) n) (λ n h. subst (EachPut c.args.kinds.now c.args.sig.now (filled c.args.kinds.now c.args.found.now)) (sym h) (put-nothing c.args.kinds.now c.args.found.now c.args.sig.now e)) c.share.ensures
