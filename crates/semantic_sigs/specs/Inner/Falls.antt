-- Each part of a signature is smaller than the signature.
use Rattle.std.specs.Prelude.{◌≤◌, ◌+◌, max, List, [], ◌∷◌}
use Rattle.std.proofs.Common.{arith}
use denote.Param.Weighed.{most}
use Rattle.omega_kinds.specs.Name.{Name}
use Rattle.semantic_sigs.specs.declared.tree.SigNode.{SigNode}
use Rattle.semantic_sigs.specs.declared.tree.SigNode.TheVariants as node
use Rattle.semantic_sigs.specs.declared.tree.Made.{Made}
use Rattle.semantic_sigs.specs.declared.tree.AbsNode.{AbsNode}
use Rattle.semantic_sigs.specs.declared.tree.Abs.TheDeep.{deep-SigNode, deep-Made, deep-AbsNode}
use Rattle.sig_definitions.specs.Signatures.Sig.{Sig}
use Rattle.semantic_sigs.specs.Inner.Size.{sig_nodes, abs_nodes, sig_pairs_nodes}
use Rattle.semantic_sigs.specs.Inner.View.{sig_of, abs_of}

pub sig_falls : (n : SigNode) → max (deep-SigNode n) 0 ≤ sig_nodes (sig_of n)
sig_falls (node.Val t) = omega arith
sig_falls (node.Typ t k) = omega arith
sig_falls (node.Meta x) = omega arith
sig_falls (node.Str fs) = omega arith
sig_falls (node.Fun e ks s x) = omega arith

pub made_falls : (m : Made) → max (deep-Made m) 0 ≤ sig_nodes (sig_of m.node)
made_falls m = omega (arith, sig_falls m.node)

pub abs_falls : (n : AbsNode) → max (deep-AbsNode n) 0 ≤ abs_nodes (abs_of n)
abs_falls n = omega arith

most_le : (xs : List (Name × Sig)) → most (λ x. max 0 (max (sig_nodes x.1 + 1) 0)) xs ≤ sig_pairs_nodes xs
most_le [] = omega arith
most_le (x ∷ xs) = omega (arith, most_le xs)

pub pairs_fall : (xs : List (Name × Sig)) → max (most (λ x. max 0 (max (sig_nodes x.1 + 1) 0)) xs) 0 ≤ sig_pairs_nodes xs
pairs_fall xs = omega (arith, most_le xs)
