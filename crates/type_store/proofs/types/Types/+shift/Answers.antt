use Rattle.std.proofs.Common.{arith}
use Rattle.omega_types.specs.Index.{shift}
use Rattle.type_store.proofs.TreeLaws.{begins-length, part-below}
use Rattle.type_store.proofs.MapSteps.{part-step, parts-end}
use Rattle.type_store.proofs.ShiftSteps.{row-shifted}
use Rattle.type_store.proofs.types.Types.+shift.Goals as goal

pub shift_fields-shift-requires : goal.shift_fields-shift-requires
shift_fields-shift-requires t c =
    let low = part-below c.args.whole c.args.parts.now c.loop-part.part-index c.part-item.result c.requires.below c.part-item.is c.loop-part-test.true in
    let long = begins-length c.args.self.now c.loop-part.self c.loop-part.invariant.0 in
    (omega (arith, low), omega (arith, low, long))

pub shift_fields-loop-part-preserved : goal.shift_fields-loop-part-preserved
shift_fields-loop-part-preserved t c =
    let low = part-below c.args.whole c.args.parts.now c.loop-part.part-index c.part-item.result c.requires.below c.part-item.is c.loop-part-test.true in
    part-step (shift c.args.by c.args.from) c.args.self.now c.loop-part.self c.shift.new.self c.args.parts.now c.loop-part.shifted.items c.push.new.self.items
    c.loop-part.part-index c.part-item.result c.in_ok-share.field-0 c.in_ok-number.number
    c.loop-part.invariant.0 c.loop-part.invariant.1 c.shift.ensures.grows c.in_ok-number.ensures.number
    (omega (arith, low)) c.in_ok-share.ensures c.part-item.is c.loop-part-test.true c.requires.rising c.in_ok-push.ensures.items

pub shift_fields-returns-clause-parts : goal.shift_fields-returns-clause-parts
shift_fields-returns-clause-parts t c =
    parts-end (shift c.args.by c.args.from) c.args.self.now c.loop-part.self c.args.parts.now c.loop-part.shifted.items _ c.loop-part.part-index
    (row-shifted c.args.by c.args.from c.args.self.now c.args.parts.now) c.loop-part.invariant.1 (omega (arith, c.loop-part.auto, c.loop-part-test.false))
