use Rattle.std.proofs.lemmas.Result.{on_ok_weaker}
use Rattle.omega_machine.proofs.Texts.{quoted-first, quoted-more, quoted-end}
use Rattle.omega_machine.proofs.shown.add_text.Goals as goal

pub loop-byte-init : goal.loop-byte-init
loop-byte-init c = quoted-first c.args.out.now.items c.add.new.out.items c.in_ok-add.ensures

pub loop-byte-preserved : goal.loop-byte-preserved
loop-byte-preserved c = quoted-more _ c.loop-byte.out.items c.add_byte.new.out.items c.loop-byte.byte-index c.args.bytes.now c.loop-byte.invariant c.loop-byte-test.true c.in_ok-add_byte.ensures

pub returns : goal.returns
returns c =
    on_ok_weaker c.add-2.result (λ e. quoted-end c.args.out.now.items c.loop-byte.out.items c.add-2.new.out.items c.loop-byte.byte-index c.args.bytes.now c.loop-byte.invariant c.loop-byte-test.false e) c.add-2.ensures
