use Rattle.std.proofs.Common.{◌≡◌, ◌↔◌, ◌≤◌, ◌+◌, ◌*◌, drop}
use Rattle.omega_kinds.specs.View.{kind_tree}
use Rattle.omega_types.specs.Fields.{row}
use Rattle.omega_types.specs.Index.{shift}
use Rattle.omega_types.specs.Normaliser.{args, put_in_row}
use Rattle.omega_types.specs.Inner.Size.{nodes, nodes_pairs}
use Rattle.type_store.specs.Trees.{row_at}
use Rattle.omega_checker.proofs.putting.+puts.Given as goal

abbrev pub invariant-puts_fields-loop-i : goal.invariant-puts_fields-loop-i
invariant-puts_fields-loop-i l =
    (put_in_row (kind_tree l.kind) (args (kind_tree l.kind)) l.at (shift l.depth 0 l.arg) (row l.parts) ≡ row_at l.types l.found ↔
    put_in_row (kind_tree l.kind) (args (kind_tree l.kind)) l.at (shift l.depth 0 l.arg) (row (drop l.i l.parts)) ≡ row_at l.types (drop l.i l.found)) ×
    (nodes_pairs (drop l.i l.parts) ≤ nodes_pairs l.parts)

abbrev pub decreases-puts : goal.decreases-puts
decreases-puts l = 2 * nodes l.body.now

abbrev pub decreases-puts_under : goal.decreases-puts_under
decreases-puts_under l = 2 * nodes l.body.now + 1

abbrev pub decreases-puts_fields : goal.decreases-puts_fields
decreases-puts_fields l = 2 * nodes_pairs l.fields.now
