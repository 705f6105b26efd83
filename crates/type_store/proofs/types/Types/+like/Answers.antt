use Rattle.std.proofs.Common.{length, refl, sym, subst, arith}
use Rattle.type_store.specs.Inner.Places.{IsAlike}
use Rattle.type_store.proofs.HintSteps.{alike-more, alike-whole, next-known}
use Rattle.type_store.proofs.PartSteps.{field-smaller}
use Rattle.type_store.proofs.StoreSteps.{fields-step, smaller}
use Rattle.type_store.proofs.TreeLaws.{begins-length, begins-then}
use Rattle.type_store.proofs.types.Types.+like.Goals as goal

pub alike-loop-i-preserved : goal.alike-loop-i-preserved
alike-loop-i-preserved t c = (
  begins-then c.args.self.now c.loop-i.self c.like_part.new.self c.loop-i.invariant.0 c.like_part.ensures.grows,
  alike-more c.args.self.now c.loop-i.self c.like_part.new.self c.args.hint c.items-items.result.now c.loop-i.i c.in-Some.part c.in_ok-next-2.next
      c.index-items-i.result c.index-items-i.result.0
      c.loop-i.invariant.0 c.requires c.loop-i.invariant.1 c.in-Some.ensures.value refl c.in-Some.ensures.below c.like_part.ensures.grows
      c.in_ok-next-2.ensures.number c.if-next-part.false c.index-items-i.is c.loop-i-test.true,
  smaller c.items-items.result.now c.loop-i.i c.index-items-i.result c.loop-i-test.true c.loop-i.invariant.2,
)

pub alike-returns-clause-alike : goal.alike-returns-clause-alike
alike-returns-clause-alike t c =
    subst (λ xs. IsAlike c.loop-i.self c.args.hint xs (record { count = length c.items-items.result.now; next = c.args.hint })) c.items-items.ensures.value
    (alike-whole c.loop-i.self c.args.hint c.items-items.result.now c.loop-i.i (length c.items-items.result.now) c.args.hint c.loop-i.invariant.1
    (omega (arith, c.loop-i.auto, c.loop-i-test.false)) (omega arith))

pub like_rest-like_next-requires : goal.like_rest-like_next-requires
like_rest-like_next-requires t c =
    let old : IsAlike c.args.self.now c.args.hint c.items-items.result.now c.args.alike =
    subst (λ xs. IsAlike c.args.self.now c.args.hint xs c.args.alike) (sym c.items-items.ensures.value) c.requires.alike in
    let known =
    next-known c.args.self.now c.loop-i.self c.args.hint c.items-items.result.now c.args.alike c.loop-i.i c.index-items-i.result old c.loop-i.invariant.0
    c.requires.hint c.index-items-i.is c.loop-i-test.true in
    let long = begins-length c.args.self.now c.loop-i.self c.loop-i.invariant.0 in
    let less =
    field-smaller c.items-items.result.now c.args.fields.now c.loop-i.i c.index-items-i.result c.items-items.ensures.value c.index-items-i.is c.loop-i-test.true
    c.loop-i.invariant.2 in
    (omega (arith, less, c.decreases), (omega (arith, long, c.requires.hint), (known.0, known.1)))

pub like_rest-loop-i-preserved : goal.like_rest-loop-i-preserved
like_rest-loop-i-preserved t c =
    fields-step c.args.self.now c.loop-i.self c.like_next.new.self c.loop-i.parts.items c.push.new.self.items c.items-items.result.now c.loop-i.i
    c.in_ok-share.field-0 c.in_ok-number.number c.index-items-i.result
    c.loop-i.invariant.0 c.loop-i.invariant.1 c.loop-i.invariant.2 c.like_next.ensures.grows c.in_ok-number.ensures.number c.in_ok-share.ensures
    c.index-items-i.is c.loop-i-test.true c.items-items.ensures.rising c.in_ok-push.ensures.items
