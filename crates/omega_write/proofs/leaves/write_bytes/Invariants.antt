use Rattle.std.proofs.Common.{take}
use Rattle.std.specs.Prelude.{flat_map}
use Rattle.fing_text.specs.Writes.{Grew}
use Rattle.omega_terms.specs.TermText.{byte_text}
use Rattle.omega_write.proofs.leaves.write_bytes.Given as goal

abbrev pub invariant-loop-b : goal.invariant-loop-b
invariant-loop-b g l =
    Grew (g.K.Sink.told l.initial.sink) (g.K.Sink.told l.sink) (flat_map byte_text (take l.b-index l.bytes))
