-- A type and a term, and a type of lists, whose texts are compared byte for byte.
use Rattle.std.specs.Prelude.{[], ◌∷◌, pos, codes}
use Rattle.omega_kinds.specs.declared.label.Label.{Label}
use Rattle.omega_types.specs.Ty.{Ty, Row}
use Rattle.omega_terms.specs.declared.op.Op.{Op}
use Rattle.omega_terms.specs.Term.{Term, TermRow}

-- a value of type int, as the one part of a record
abbrev pub int_part : Ty
int_part = Ty.Fields (Row.More Label.Val Ty.Int Row.End)

-- the record with the part `x`
abbrev pub example_type : Ty
example_type = Ty.Fields (Row.More (Label.Name (120 ∷ [])) int_part Row.End)

-- a function that gives its argument as the part `x`, called with a sum
abbrev pub example_term : Term
example_term =
    Term.Call
    (Term.Lam int_part (Term.Fields (TermRow.More (Label.Name (120 ∷ [])) (Term.Var 0) TermRow.End)))
    (Term.Fields (TermRow.More Label.Val (Term.Arith Op.Add (Term.Int (pos 1)) (Term.Int (pos 2))) TermRow.End))

-- a list of numbers: a number and more, or none
abbrev pub list_type : Ty
list_type =
    Ty.Mu
    (Ty.Sum
    (Row.More (Label.Name (codes "more")) (Ty.Fields (Row.More (Label.Name (codes "head")) Ty.Int (Row.More (Label.Name (codes "tail")) (Ty.Var 0) Row.End)))
    (Row.More (Label.Name (codes "none")) (Ty.Fields Row.End) Row.End)))
