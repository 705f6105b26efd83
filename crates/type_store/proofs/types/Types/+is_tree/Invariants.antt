use Rattle.std.proofs.Common.{◌≡◌, ◌↔◌, ◌≤◌, drop}
use Rattle.omega_types.specs.Fields.{row}
use Rattle.omega_types.specs.Inner.Size.{nodes, nodes_pairs}
use Rattle.type_store.specs.Trees.{row_at}
use Rattle.type_store.proofs.types.Types.+is_tree.Given as goal

abbrev pub decreases-is_tree : goal.decreases-is_tree
decreases-is_tree l = nodes l.ty.now

abbrev pub decreases-are_parts : goal.decreases-are_parts
decreases-are_parts l = nodes_pairs l.fields.now

abbrev pub invariant-are_parts-loop-i : goal.invariant-are_parts-loop-i
invariant-are_parts-loop-i l =
    (row_at l.self l.parts ≡ row l.fields ↔ row_at l.self (drop l.i l.parts) ≡ row (drop l.i l.fields)) ×
    (nodes_pairs (drop l.i l.fields) ≤ nodes_pairs l.fields)
