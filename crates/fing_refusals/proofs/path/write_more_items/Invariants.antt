use Rattle.std.proofs.Common.{take}
use Rattle.std.specs.Prelude.{flat_map}
use Rattle.fing_text.specs.Writes.{Grew}
use Rattle.fing_refusals.proofs.Loops.{dotted_text}
use Rattle.fing_refusals.proofs.path.write_more_items.Given as goal

abbrev pub invariant-loop-item : goal.invariant-loop-item
invariant-loop-item g l =
    Grew (g.K.Sink.told l.initial.sink) (g.K.Sink.told l.sink) (flat_map dotted_text (take l.item-index l.items))
