use Rattle.std.proofs.Common.{◌+◌, ◌-◌, ◌/◌, ◌<◌, ◌≤◌, length, sym, ◌∙◌, subst, arith}
use Rattle.sig_definitions.specs.Signatures.Sig.{HasField, NoField}
use Rattle.semantic_sigs.specs.Inner.Fields.{SigPairs, sig_row}
use Rattle.semantic_sigs.proofs.Halving.{sought-found, sought-below, sought-above, sought-none}
use Rattle.semantic_sigs.proofs.parts.find_field.Goals as goal

pub returns-then-same_name : goal.returns-then-same_name
returns-then-same_name c =
    let m = c.loop-low.low + (c.loop-low.high - c.loop-low.low) / 2 in
    let le = c.loop-low.invariant.1 in
    let lt : m < length c.items-items.result.now = omega (arith, le) in
    subst (λ (xs : SigPairs). HasField (sig_row xs) c.args.name.now c.index-items-middle.result.1) c.items-items.ensures.value (sought-found c.items-items.result.now m c.index-items-middle.result c.args.name.now c.items-items.ensures.rising lt c.index-items-middle.is (c.same_name.ensures.0 c.if-same_name.true))

pub loop-low-preserved-then-comes_before : goal.loop-low-preserved-then-comes_before
loop-low-preserved-then-comes_before c =
    let m = c.loop-low.low + (c.loop-low.high - c.loop-low.low) / 2 in
    let le = c.loop-low.invariant.1 in
    let lt : m < length c.items-items.result.now = omega (arith, le) in
    let above : c.loop-low.low ≤ m = omega arith in
    sought-below c.items-items.result.now m c.index-items-middle.result c.args.name.now c.loop-low.low c.loop-low.high c.items-items.ensures.rising lt c.index-items-middle.is above (sym c.comes_before.ensures ∙ c.if-comes_before.true) c.loop-low.invariant

pub loop-low-preserved : goal.loop-low-preserved
loop-low-preserved c =
    let m = c.loop-low.low + (c.loop-low.high - c.loop-low.low) / 2 in
    let le = c.loop-low.invariant.1 in
    let lt : m < length c.items-items.result.now = omega (arith, le) in
    let below : m < c.loop-low.high = omega arith in
    sought-above c.items-items.result.now m c.index-items-middle.result c.args.name.now c.loop-low.low c.loop-low.high c.items-items.ensures.rising lt c.index-items-middle.is below
    (λ e. let t = c.same_name.ensures.1 e in let f = c.if-same_name.false in cc)
    (λ h. let e = c.comes_before.ensures in let f = c.if-comes_before.false in cc)
    c.loop-low.invariant

pub returns : goal.returns
returns c =
    subst (λ (xs : SigPairs). NoField c.args.name.now (sig_row xs)) c.items-items.ensures.value (sought-none c.items-items.result.now c.args.name.now c.loop-low.low c.loop-low.high c.loop-low-test.false c.loop-low.invariant)
