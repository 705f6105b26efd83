use Rattle.std.proofs.Common.{arith}
use Rattle.std.proofs.lemmas.Result.{IfOk-weaker}
use Rattle.omega_kinds.specs.View.{kind_tree}
use Rattle.type_store.specs.Inner.Memo.{filled}
use Rattle.type_store.specs.Trees.{at}
use Rattle.type_store.proofs.FillSteps.{fills-all, fills-apply, fills-ex, fills-lam, fills-mu, row-filled, same-arg}
use Rattle.type_store.proofs.MapSteps.{part-step, parts-end}
use Rattle.type_store.proofs.TreeLaws.{begins-length, part-below}
use Rattle.type_store.proofs.types.Types.+put_in.Goals as goal

pub put_in_fields-put_in-requires : goal.put_in_fields-put_in-requires
put_in_fields-put_in-requires t c =
    let low = part-below c.args.whole c.args.parts.now c.loop-part.part-index c.part-item.result c.requires.below c.part-item.is c.loop-part-test.true in
    let long = begins-length c.args.self.now c.loop-part.self c.loop-part.invariant.0 in
    (omega (arith, low), (omega (arith, low, long, c.requires.within), omega (arith, long, c.requires.arg)))

pub put_in_fields-loop-part-preserved : goal.put_in_fields-loop-part-preserved
put_in_fields-loop-part-preserved t c =
    let low = part-below c.args.whole c.args.parts.now c.loop-part.part-index c.part-item.result c.requires.below c.part-item.is c.loop-part-test.true in
    part-step (filled c.args.index (at c.args.self.now c.args.arg)) c.args.self.now c.loop-part.self c.put_in.new.self c.args.parts.now c.loop-part.filled.items
    c.push.new.self.items c.loop-part.part-index c.part-item.result c.in_ok-share.field-0 c.in_ok-number.number
    c.loop-part.invariant.0 c.loop-part.invariant.1 c.put_in.ensures.grows
    (same-arg c.args.index c.args.self.now c.loop-part.self c.put_in.new.self c.args.arg c.in_ok-number.number
    (at c.loop-part.self c.part-item.result.1) c.loop-part.invariant.0 c.requires.arg c.in_ok-number.ensures.number)
    (omega (arith, low, c.requires.within)) c.in_ok-share.ensures c.part-item.is c.loop-part-test.true c.requires.rising c.in_ok-push.ensures.items

pub put_in_fields-returns-clause-parts : goal.put_in_fields-returns-clause-parts
put_in_fields-returns-clause-parts t c =
    parts-end (filled c.args.index (at c.args.self.now c.args.arg)) c.args.self.now c.loop-part.self c.args.parts.now c.loop-part.filled.items _
    c.loop-part.part-index (row-filled c.args.index (at c.args.self.now c.args.arg) c.args.self.now c.args.parts.now) c.loop-part.invariant.1
    (omega (arith, c.loop-part.auto, c.loop-part-test.false))

pub put_in_apply-returns-clause-number : goal.put_in_apply-returns-clause-number
put_in_apply-returns-clause-number t c =
    IfOk-weaker c.make.result _ _
    (λ n h.
    fills-apply c.args.index c.args.self.now c.put_in.new.self c.put_in-2.new.self c.make.new.self c.args.arg c.args.a c.args.b c.in_ok-a.a c.in_ok-b.b n
    c.put_in.ensures.grows c.put_in-2.ensures.grows c.requires.arg (omega (arith, c.requires.second, c.requires.within))
    c.in_ok-a.ensures.number c.in_ok-b.ensures.number h)
    c.make.ensures.number

pub put_in_all-returns-clause-number : goal.put_in_all-returns-clause-number
put_in_all-returns-clause-number t c =
    IfOk-weaker c.make.result _ _
    (λ n h.
    fills-all c.args.index c.in_ok-next_level.field-0 (kind_tree c.args.kind) c.args.self.now c.put_in.new.self c.make.new.self c.args.arg c.args.b c.in_ok-b.b n
    c.in_ok-next_level.ensures c.in_ok-b.ensures.number h)
    c.make.ensures.number

pub put_in_ex-returns-clause-number : goal.put_in_ex-returns-clause-number
put_in_ex-returns-clause-number t c =
    IfOk-weaker c.make.result _ _
    (λ n h.
    fills-ex c.args.index c.in_ok-next_level.field-0 (kind_tree c.args.kind) c.args.self.now c.put_in.new.self c.make.new.self c.args.arg c.args.b c.in_ok-b.b n
    c.in_ok-next_level.ensures c.in_ok-b.ensures.number h)
    c.make.ensures.number

pub put_in_lam-returns-clause-number : goal.put_in_lam-returns-clause-number
put_in_lam-returns-clause-number t c =
    IfOk-weaker c.make.result _ _
    (λ n h.
    fills-lam c.args.index c.in_ok-next_level.field-0 (kind_tree c.args.kind) c.args.self.now c.put_in.new.self c.make.new.self c.args.arg c.args.b c.in_ok-b.b n
    c.in_ok-next_level.ensures c.in_ok-b.ensures.number h)
    c.make.ensures.number

pub put_in_mu-returns-clause-number : goal.put_in_mu-returns-clause-number
put_in_mu-returns-clause-number t c =
    IfOk-weaker c.make.result _ _
    (λ n h.
    fills-mu c.args.index c.in_ok-next_level.field-0 c.args.self.now c.put_in.new.self c.make.new.self c.args.arg c.args.b c.in_ok-b.b n
    c.in_ok-next_level.ensures c.in_ok-b.ensures.number h)
    c.make.ensures.number
