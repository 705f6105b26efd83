-- Calls of functions that give their argument back are taken away.
use Rattle.std.specs.Prelude.{zero, Bool as Truth, true, false, cond, ◌&&◌}
use Rattle.std.specs.Ordering.{is_eq}
use Rattle.omega_kinds.specs.declared.label.Label.{Label}
use Rattle.omega_kinds.specs.LabelOrder.{label_cmp}
use Rattle.omega_types.specs.Ty.{Ty, Row}
use Rattle.omega_terms.specs.Term.{Term, TermRow}

-- whether the term is the variable 0, which is the argument of the function round it
abbrev pub is_argument : Term → Truth
is_argument (Term.Var zero) = true
is_argument e = false

-- whether the term is the argument's part at the label
abbrev pub is_part : Label → Term → Truth
is_part l (Term.Get e m) = is_argument e && is_eq (label_cmp l m)
is_part l e = false

-- whether the fields are the argument's parts at exactly the labels of the row, in its order, each under its own label
abbrev pub are_parts : Row → TermRow → Truth
are_parts Row.End TermRow.End = true
are_parts (Row.More l t r) (TermRow.More m e f) = (is_eq (label_cmp l m) && is_part l e) && are_parts r f
are_parts _ _ = false

-- A function term is flat where its body is its own variable, or where its argument's type is written as a record type
-- and its body builds that record anew of the argument's parts.
abbrev pub is_flat : Term → Truth
is_flat (Term.Lam t (Term.Var zero)) = true
is_flat (Term.Lam (Ty.Fields r) (Term.Fields f)) = are_parts r f
is_flat _ = false

-- a call, where it is no call of a flat function, and else its argument
abbrev pub call_of : (function arg : Term) → Term
call_of f a = cond (is_flat f) a (Term.Call f a)

-- The term with each call of a flat function replaced by its argument, the innermost first. Types stay as they are.
abbrev mutual
  pub simplified : Term → Term
  simplified (Term.Var i) = Term.Var i
  simplified (Term.Int z) = Term.Int z
  simplified (Term.Bool b) = Term.Bool b
  simplified (Term.Text s) = Term.Text s
  simplified (Term.Lam t e) = Term.Lam t (simplified e)
  simplified (Term.Call f a) = call_of (simplified f) (simplified a)
  simplified (Term.TyLam k e) = Term.TyLam k (simplified e)
  simplified (Term.Inst e t) = Term.Inst (simplified e) t
  simplified (Term.Fields f) = Term.Fields (simplified_row f)
  simplified (Term.Get e l) = Term.Get (simplified e) l
  simplified (Term.Pack t e u) = Term.Pack t (simplified e) u
  simplified (Term.Unpack p e) = Term.Unpack (simplified p) (simplified e)
  simplified (Term.If a b c) = Term.If (simplified a) (simplified b) (simplified c)
  simplified (Term.Arith o a b) = Term.Arith o (simplified a) (simplified b)
  simplified (Term.Fix t u e) = Term.Fix t u (simplified e)
  simplified (Term.Inj l e t) = Term.Inj l (simplified e) t
  simplified (Term.Case e t f) = Term.Case (simplified e) t (simplified_row f)
  simplified (Term.Roll e t) = Term.Roll (simplified e) t
  simplified (Term.Unroll e) = Term.Unroll (simplified e)

  pub simplified_row : TermRow → TermRow
  simplified_row TermRow.End = TermRow.End
  simplified_row (TermRow.More l e f) = TermRow.More l (simplified e) (simplified_row f)
