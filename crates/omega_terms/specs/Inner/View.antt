-- What a node of a term is seen as.
use Rattle.omega_kinds.specs.View.{kind_tree}
use Rattle.omega_terms.specs.declared.tree.TermNode.{TermNode}
use Rattle.omega_terms.specs.declared.tree.TermNode.TheVariants as node
use Rattle.omega_terms.specs.Term.{Term}
use Rattle.omega_terms.specs.Fields.{term_row}

-- the term that a node makes
abbrev pub term_of : TermNode → Term
term_of (node.Var i) = Term.Var i
term_of (node.Int z) = Term.Int z
term_of (node.Bool b) = Term.Bool b
term_of (node.Text s) = Term.Text s
term_of (node.Lam t e) = Term.Lam t e
term_of (node.Call f a) = Term.Call f a
term_of (node.TyLam k e) = Term.TyLam (kind_tree k) e
term_of (node.Inst e t) = Term.Inst e t
term_of (node.Fields fields) = Term.Fields (term_row fields)
term_of (node.Get e l) = Term.Get e l
term_of (node.Pack t e u) = Term.Pack t e u
term_of (node.Unpack p e) = Term.Unpack p e
term_of (node.If a b c) = Term.If a b c
term_of (node.Arith op a b) = Term.Arith op a b
term_of (node.Fix t u e) = Term.Fix t u e
term_of (node.Inj l e t) = Term.Inj l e t
term_of (node.Case e t branches) = Term.Case e t (term_row branches)
term_of (node.Roll e t) = Term.Roll e t
term_of (node.Unroll e) = Term.Unroll e
