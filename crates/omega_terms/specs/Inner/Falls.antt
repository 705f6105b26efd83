-- Each part of a term is smaller than the term.
use Rattle.std.specs.Prelude.{◌≤◌, ◌+◌, max, List, [], ◌∷◌}
use Rattle.std.proofs.Common.{arith}
use denote.Param.Weighed.{most}
use Rattle.omega_kinds.specs.declared.label.Label.{Label}
use Rattle.omega_terms.specs.declared.tree.TermNode.{TermNode}
use Rattle.omega_terms.specs.declared.tree.TermNode.TheVariants as node
use Rattle.omega_terms.specs.declared.tree.Made.{Made}
use Rattle.omega_terms.specs.declared.tree.Term.TheDeep.{deep-TermNode, deep-Made}
use Rattle.omega_terms.specs.Term.{Term}
use Rattle.omega_terms.specs.Inner.Size.{term_size, pairs_size}
use Rattle.omega_terms.specs.Inner.View.{term_of}

pub most_le-pairs_size : (xs : List (Label × Term)) → most (λ x. max 0 (max (term_size x.1 + 1) 0)) xs ≤ pairs_size xs
most_le-pairs_size [] = omega arith
most_le-pairs_size (x ∷ xs) = omega (arith, most_le-pairs_size xs)

pub depth_le-term_size : (n : TermNode) → max (deep-TermNode n) 0 ≤ term_size (term_of n)
depth_le-term_size (node.Var i) = omega arith
depth_le-term_size (node.Int z) = omega arith
depth_le-term_size (node.Bool b) = omega arith
depth_le-term_size (node.Text s) = omega arith
depth_le-term_size (node.Lam t e) = omega arith
depth_le-term_size (node.Call f a) = omega arith
depth_le-term_size (node.TyLam k e) = omega arith
depth_le-term_size (node.Inst e t) = omega arith
depth_le-term_size (node.Fields fields) = omega arith
depth_le-term_size (node.Get e l) = omega arith
depth_le-term_size (node.Pack t e u) = omega arith
depth_le-term_size (node.Unpack p e) = omega arith
depth_le-term_size (node.If a b c) = omega arith
depth_le-term_size (node.Arith op a b) = omega arith
depth_le-term_size (node.Fix t u e) = omega arith
depth_le-term_size (node.Inj l e t) = omega arith
depth_le-term_size (node.Case e t branches) = omega arith
depth_le-term_size (node.Roll e t) = omega arith
depth_le-term_size (node.Unroll e) = omega arith

pub made_le-term_size : (m : Made) → max (deep-Made m) 0 ≤ term_size (term_of m.node)
made_le-term_size m = omega (arith, depth_le-term_size m.node)

pub deep_le-pairs_size : (xs : List (Label × Term)) → max (most (λ x. max 0 (max (term_size x.1 + 1) 0)) xs) 0 ≤ pairs_size xs
deep_le-pairs_size xs = omega (arith, most_le-pairs_size xs)
