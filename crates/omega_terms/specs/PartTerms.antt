-- The terms of value parts, type parts and signature parts of a module
-- (Rossberg, Russo, Dreyer, F-ing modules, section 4).
use Rattle.std.specs.Prelude.{zero, suc}
use Rattle.omega_kinds.specs.Kind.{Kind}
use Rattle.omega_kinds.specs.declared.label.Label.{Label}
use Rattle.omega_types.specs.Ty.{Ty}
use Rattle.omega_types.specs.Substitution.{rename}
use Rattle.omega_terms.specs.Term.{Term, TermRow}

-- a record of one field
abbrev pub one_field : Label → Term → Term
one_field l e = Term.Fields (TermRow.More l e TermRow.End)

abbrev pub value_term : Term → Term
value_term e = one_field Label.Val e

-- a type has no value of its own, so it is shown by an identity at its kind
abbrev pub type_term : Ty → Kind → Term
type_term t k = one_field Label.Typ (Term.TyLam (Kind.Arrow k Kind.Star) (Term.Lam (Ty.Apply (Ty.Var zero) (rename suc t)) (Term.Var zero)))

-- the signature is given by its encoding
abbrev pub sig_term : Ty → Term
sig_term t = one_field Label.Sig (Term.Lam t (Term.Var zero))
