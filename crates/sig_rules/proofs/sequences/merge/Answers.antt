use Rattle.std.proofs.Common.{◌≡◌, ◌-◌, ◌++◌, length, take, drop, ap, ◌∙◌, arith}
use Rattle.sig_rules.proofs.Merging.{left-done, left-follows, left-skipped, left-taken, right-done, right-follows, right-taken}
use Rattle.sig_rules.proofs.Lists.{tail-slice}
use Rattle.sig_rules.proofs.sequences.merge.Goals.{then-loop-i-test+else-j-right, else-loop-i-test}
use Rattle.sig_rules.proofs.sequences.merge.Goals as goal

pub add-requires : goal.add-requires
add-requires c = left-follows c.args.left.now c.args.right.now c.loop-i.fields c.loop-i.i c.loop-i.j c.index-left-i.result c.index-right-j.result c.loop-i-test.true c.if-j-right.true c.index-left-i.is c.index-right-j.is c.loop-i.invariant

pub loop-i-preserved-in-Less : goal.loop-i-preserved-in-Less
loop-i-preserved-in-Less c = left-taken c.args.left.now c.args.right.now c.loop-i.fields c.add.new.fields c.loop-i.i c.loop-i.j c.index-left-i.result c.index-right-j.result c.loop-i-test.true c.if-j-right.true c.index-left-i.is c.index-right-j.is c.in-Less.ensures c.in_ok-add-in-Less.ensures c.loop-i.invariant

pub loop-i-preserved-in-Equal : goal.loop-i-preserved-in-Equal
loop-i-preserved-in-Equal c = left-skipped c.args.left.now c.args.right.now c.loop-i.fields c.loop-i.i c.loop-i.j c.index-left-i.result c.index-right-j.result c.loop-i-test.true c.if-j-right.true c.index-left-i.is c.index-right-j.is c.in-Equal.ensures c.loop-i.invariant

pub add-requires-in-Greater : goal.add-requires-in-Greater
add-requires-in-Greater c = right-follows c.args.left.now c.args.right.now c.loop-i.fields c.loop-i.i c.loop-i.j c.index-left-i.result c.index-right-j.result c.loop-i-test.true c.if-j-right.true c.index-left-i.is c.index-right-j.is c.loop-i.invariant

pub loop-i-preserved : goal.loop-i-preserved
loop-i-preserved c = right-taken c.args.left.now c.args.right.now c.loop-i.fields c.add-in-Greater.new.fields c.loop-i.i c.loop-i.j c.index-left-i.result c.index-right-j.result c.loop-i-test.true c.if-j-right.true c.index-left-i.is c.index-right-j.is c.in-Greater.ensures c.in_ok-add-in-Greater.ensures c.loop-i.invariant

pub returns : goal.returns
returns c =
    let left = c.args.left.now in
    let right = c.args.right.now in
    let i = c.loop-i.i in
    let j = c.loop-i.j in
    let a : take (length left - i) (drop i left) ≡ drop i left = tail-slice left i (length left - i) (omega arith) in
    let b : take (length right - j) (drop j right) ≡ drop j right = tail-slice right j (length right - j) (omega arith) in
    let some = c.in_ok-add_all.ensures ∙ ap (λ zs. c.loop-i.fields ++ zs) a in
    let all = c.in_ok-add_all-2.ensures ∙ ap (λ zs. c.add_all.new.fields ++ zs) b in
    elim c.loop-i-test.branch [
      | then-loop-i-test+else-j-right w ↦ right-done left right c.loop-i.fields c.add_all.new.fields c.add_all-2.new.fields i j w.if-j-right.false c.loop-i.invariant some all
      | else-loop-i-test w ↦ left-done left right c.loop-i.fields c.add_all.new.fields c.add_all-2.new.fields i j w.loop-i-test.false c.loop-i.invariant some all
    ]
