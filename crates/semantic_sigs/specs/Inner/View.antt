-- What nodes of signatures are seen as.
use Rattle.std.specs.Prelude.{List}
use Rattle.omega_kinds.specs.Kind.{Kind}
use Rattle.omega_kinds.specs.View.{kind_tree}
use Rattle.semantic_sigs.specs.declared.tree.SigNode.{SigNode}
use Rattle.semantic_sigs.specs.declared.tree.SigNode.TheVariants as node
use Rattle.semantic_sigs.specs.declared.tree.AbsNode.{AbsNode}
use Rattle.sig_definitions.specs.Signatures.Sig.{Sig, Abs}
use Rattle.semantic_sigs.specs.Inner.Fields.{sig_row}

-- the signature that a node makes
abbrev pub sig_of : SigNode → Sig
sig_of (node.Val t) = Sig.Val t
sig_of (node.Typ t k) = Sig.Typ t (kind_tree k)
sig_of (node.Meta x) = Sig.Meta x
sig_of (node.Str fs) = Sig.Str (sig_row fs)
sig_of (node.Fun e ks s x) = Sig.Fun e ks s x

abbrev pub abs_of : AbsNode → Abs
abs_of n = Abs.Ex n.kinds n.body

-- the parts of an abstract signature
abbrev pub kinds_of : Abs → List Kind
kinds_of (Abs.Ex ks s) = ks

abbrev pub body_of : Abs → Sig
body_of (Abs.Ex ks s) = s
