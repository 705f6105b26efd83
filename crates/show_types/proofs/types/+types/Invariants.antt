use Rattle.std.proofs.Common.{◌≤◌, drop}
use Rattle.omega_types.specs.Inner.Size.{nodes_pairs}
use Rattle.show_types.proofs.types.+types.Given as goal

abbrev pub invariant-put_fields-loop-field : goal.invariant-put_fields-loop-field
invariant-put_fields-loop-field l = nodes_pairs (drop l.field-index l.field-items) ≤ nodes_pairs l.field-items
