-- How terms are spelled.
use Rattle.std.specs.Prelude.{ℕ, ◌+◌, List, [], ◌∷◌, true, false, codes, flat_map, if◌then◌else◌, ◌==◌}
use Rattle.std.specs.Fmt.{signed_decimal}
use Rattle.omega_kinds.specs.Text.{◌then◌}
use Rattle.omega_terms.specs.declared.op.Op.{Op}
use Rattle.omega_terms.specs.Term.{Term, TermRow}
use Rattle.omega_terms.specs.KindText.{kind_text, label_text}
use Rattle.omega_terms.specs.TypeText.{level_text, ty_text}

-- what an operator's form begins with
abbrev pub op_front : Op → List ℕ
op_front Op.Add = codes "(+ "
op_front Op.Sub = codes "(- "
op_front Op.Mul = codes "(* "
op_front Op.Div = codes "(/ "
op_front Op.Rem = codes "(% "
op_front Op.Less = codes "(< "
op_front Op.Equal = codes "(== "

-- one byte of a text: a quote, a backslash and a line end have an escape
abbrev pub byte_text : ℕ → List ℕ
byte_text b =
    if b == 34 then codes "\\\"" else if b == 92 then codes "\\\\" else if b == 10 then codes "\\n" else b ∷ []

abbrev pub quoted_text : List ℕ → List ℕ
quoted_text bytes = codes "\"" then flat_map byte_text bytes then codes "\""

-- a term with n type variables and m term variables in scope
abbrev mutual
  pub term_text : (n m : ℕ) → Term → List ℕ
  term_text n m (Term.Var i) = codes "x" then level_text m i
  term_text n m (Term.Int z) = signed_decimal z
  term_text n m (Term.Bool true) = codes "true"
  term_text n m (Term.Bool false) = codes "false"
  term_text n m (Term.Text s) = quoted_text s
  term_text n m (Term.Lam t e) = codes "(fn " then ty_text n t then codes " " then term_text n (m + 1) e then codes ")"
  term_text n m (Term.Call f a) = codes "(call " then term_text n m f then codes " " then term_text n m a then codes ")"
  term_text n m (Term.TyLam k e) = codes "(tfn " then kind_text k then codes " " then term_text (n + 1) m e then codes ")"
  term_text n m (Term.Inst e t) = codes "(inst " then term_text n m e then codes " " then ty_text n t then codes ")"
  term_text n m (Term.Fields row) = codes "(rec" then term_row_text n m row then codes ")"
  term_text n m (Term.Get e l) = codes "(get " then term_text n m e then codes " " then label_text l then codes ")"
  term_text n m (Term.Pack t e u) =
      codes "(pack " then ty_text n t then codes " " then term_text n m e then codes " " then ty_text n u then codes ")"
  term_text n m (Term.Unpack p e) =
      codes "(open " then term_text n m p then codes " " then term_text (n + 1) (m + 1) e then codes ")"
  term_text n m (Term.If a b c) =
      codes "(if " then term_text n m a then codes " " then term_text n m b then codes " " then term_text n m c then codes ")"
  term_text n m (Term.Arith op a b) = op_front op then term_text n m a then codes " " then term_text n m b then codes ")"
  term_text n m (Term.Fix t u e) =
      codes "(fix " then ty_text n t then codes " " then ty_text n u then codes " " then term_text n (m + 2) e then codes ")"
  term_text n m (Term.Inj l e t) =
      codes "(inj " then label_text l then codes " " then term_text n m e then codes " " then ty_text n t then codes ")"
  term_text n m (Term.Case e t row) =
      codes "(case " then term_text n m e then codes " " then ty_text n t then term_row_text n (m + 1) row then codes ")"
  term_text n m (Term.Roll e t) = codes "(roll " then term_text n m e then codes " " then ty_text n t then codes ")"
  term_text n m (Term.Unroll e) = codes "(unroll " then term_text n m e then codes ")"

  -- each field or branch has a space before it
  pub term_row_text : (n m : ℕ) → TermRow → List ℕ
  term_row_text n m TermRow.End = []
  term_row_text n m (TermRow.More l e rest) =
      codes " (" then label_text l then codes " " then term_text n m e then codes ")" then term_row_text n m rest
