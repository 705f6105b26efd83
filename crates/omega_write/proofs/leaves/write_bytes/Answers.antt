use Rattle.std.specs.Prelude.{flat_map}
use Rattle.fing_text.proofs.InARow.{grew-next, broke-next, grew-all}
use Rattle.omega_terms.specs.TermText.{byte_text}
use Rattle.omega_write.proofs.Loops.{wrote-err}
use Rattle.omega_write.proofs.leaves.write_bytes.Goals as goal

pub loop-b-preserved : goal.loop-b-preserved
loop-b-preserved g c =
    grew-next byte_text c.args.bytes.now c.loop-b.b-index 0 (g.K.Sink.told c.args.sink.now) (g.K.Sink.told c.loop-b.sink) (g.K.Sink.told c.write_byte.new.sink) c.loop-b-test.true c.loop-b.invariant c.in_ok-write_byte.ensures

pub returns-in_err-write_byte : goal.returns-in_err-write_byte
returns-in_err-write_byte g c =
    let a = g.K.Sink.told c.args.sink.now in
    let e = g.K.Sink.told c.write_byte.new.sink in
    wrote-err a e (flat_map byte_text c.args.bytes.now) c.from_residual.result c.from_residual.ensures.0 (broke-next byte_text c.args.bytes.now c.loop-b.b-index 0 a (g.K.Sink.told c.loop-b.sink) e c.loop-b-test.true c.loop-b.invariant c.in_err-write_byte.ensures)

pub returns : goal.returns
returns g c =
    grew-all byte_text c.args.bytes.now c.loop-b.b-index (g.K.Sink.told c.args.sink.now) (g.K.Sink.told c.loop-b.sink) c.loop-b-test.false c.loop-b.invariant
