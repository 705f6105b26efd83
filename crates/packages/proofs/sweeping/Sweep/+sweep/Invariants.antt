use Rattle.std.proofs.Common.{◌≡◌, ◌≤◌, drop, length}
use Rattle.semantic_sigs.specs.Inner.Size.{sig_pairs_nodes}
use Rattle.packages.proofs.SweepLaws.{CameTo}
use Rattle.packages.proofs.sweeping.Sweep.+sweep.Given as goal

abbrev pub invariant-through_fields-loop-field : goal.invariant-through_fields-loop-field
invariant-through_fields-loop-field l =
    (length l.self.order.places.items ≡ length l.kinds)
    × CameTo l.kinds l.depth l.field-items l.field-index l.initial.self l.self
    × (sig_pairs_nodes (drop l.field-index l.field-items) ≤ sig_pairs_nodes l.field-items)
