-- Each part of a type is smaller than the type.
use Rattle.std.specs.Prelude.{◌≤◌, ◌+◌, max, List, [], ◌∷◌}
use Rattle.std.proofs.Common.{arith}
use denote.Param.Weighed.{most}
use Rattle.omega_kinds.specs.declared.label.Label.{Label}
use Rattle.omega_types.specs.declared.tree.TyNode.{TyNode}
use Rattle.omega_types.specs.declared.tree.TyNode.TheVariants as node
use Rattle.omega_types.specs.declared.tree.Made.{Made}
use Rattle.omega_types.specs.declared.tree.Ty.TheDeep.{deep-TyNode, deep-Made}
use Rattle.omega_types.specs.Ty.{Ty}
use Rattle.omega_types.specs.Inner.Size.{nodes, nodes_pairs}
use Rattle.omega_types.specs.Inner.View.{ty_of}

pub most_le-nodes_pairs : (xs : List (Label × Ty)) → most (λ x. max 0 (max (nodes x.1 + 1) 0)) xs ≤ nodes_pairs xs
most_le-nodes_pairs [] = omega arith
most_le-nodes_pairs (x ∷ xs) = omega (arith, most_le-nodes_pairs xs)

pub depth_le-nodes : (n : TyNode) → max (deep-TyNode n) 0 ≤ nodes (ty_of n)
depth_le-nodes (node.Var n) = omega arith
depth_le-nodes node.Int = omega arith
depth_le-nodes node.Bool = omega arith
depth_le-nodes node.Text = omega arith
depth_le-nodes (node.Arrow a b) = omega arith
depth_le-nodes (node.Fields fs) = omega arith
depth_le-nodes (node.Sum fs) = omega arith
depth_le-nodes (node.All k b) = omega arith
depth_le-nodes (node.Ex k b) = omega arith
depth_le-nodes (node.Mu b) = omega arith
depth_le-nodes (node.Lam k b) = omega arith
depth_le-nodes (node.Apply f a) = omega arith

pub made_le-nodes : (m : Made) → max (deep-Made m) 0 ≤ nodes (ty_of m.node)
made_le-nodes m = omega (arith, depth_le-nodes m.node)

pub deep_le-nodes_pairs : (xs : List (Label × Ty)) → max (most (λ x. max 0 (max (nodes x.1 + 1) 0)) xs) 0 ≤ nodes_pairs xs
deep_le-nodes_pairs xs = omega (arith, most_le-nodes_pairs xs)
