use Rattle.std.proofs.Common.{take}
use Rattle.std.specs.Prelude.{flat_map}
use Rattle.fing_text.specs.Writes.{Grew}
use Rattle.sig_text.proofs.Loops.{spaced_text}
use Rattle.sig_text.proofs.kinds.write_more_kinds.Given as goal

abbrev pub invariant-loop-kind : goal.invariant-loop-kind
invariant-loop-kind g l =
    Grew (g.K.Sink.told l.initial.sink) (g.K.Sink.told l.sink) (flat_map spaced_text (take l.kind-index l.kinds))
