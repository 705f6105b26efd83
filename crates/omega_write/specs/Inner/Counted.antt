-- The texts of types and terms where variables in scope are counted modulo 2^64.
-- Where each level is below 2^64 they are the texts.
use Rattle.std.specs.Prelude.{ℕ, ◌+◌, ◌-◌, ◌%◌, ◌^◌, List, [], true, false, codes, decimal}
use Rattle.std.specs.Fmt.{signed_decimal}
use Rattle.omega_kinds.specs.Text.{◌then◌}
use Rattle.omega_types.specs.Ty.{Ty, Row}
use Rattle.omega_terms.specs.Term.{Term, TermRow}
use Rattle.omega_terms.specs.KindText.{kind_text, label_text}
use Rattle.omega_terms.specs.TermText.{op_front, quoted_text}

abbrev pub level_in : (count index : ℕ) → ℕ
level_in count index = (count + (2 ^ 64 - (index + 1) % 2 ^ 64)) % 2 ^ 64

abbrev pub next_in : ℕ → ℕ
next_in count = (count + 1) % 2 ^ 64

abbrev mutual
  pub counted_ty : ℕ → Ty → List ℕ
  counted_ty n (Ty.Var i) = codes "a" then decimal (level_in n i)
  counted_ty n Ty.Int = codes "int"
  counted_ty n Ty.Bool = codes "bool"
  counted_ty n Ty.Text = codes "text"
  counted_ty n (Ty.Arrow a b) = codes "(-> " then counted_ty n a then codes " " then counted_ty n b then codes ")"
  counted_ty n (Ty.Fields row) = codes "(rec" then counted_row n row then codes ")"
  counted_ty n (Ty.Sum row) = codes "(sum" then counted_row n row then codes ")"
  counted_ty n (Ty.All k b) = codes "(all " then kind_text k then codes " " then counted_ty (next_in n) b then codes ")"
  counted_ty n (Ty.Ex k b) = codes "(some " then kind_text k then codes " " then counted_ty (next_in n) b then codes ")"
  counted_ty n (Ty.Mu b) = codes "(mu " then counted_ty (next_in n) b then codes ")"
  counted_ty n (Ty.Lam k b) = codes "(lam " then kind_text k then codes " " then counted_ty (next_in n) b then codes ")"
  counted_ty n (Ty.Apply f a) = codes "(@ " then counted_ty n f then codes " " then counted_ty n a then codes ")"

  pub counted_row : ℕ → Row → List ℕ
  counted_row n Row.End = []
  counted_row n (Row.More l t rest) =
      codes " (" then label_text l then codes " " then counted_ty n t then codes ")" then counted_row n rest

abbrev mutual
  pub counted_term : (n m : ℕ) → Term → List ℕ
  counted_term n m (Term.Var i) = codes "x" then decimal (level_in m i)
  counted_term n m (Term.Int z) = signed_decimal z
  counted_term n m (Term.Bool true) = codes "true"
  counted_term n m (Term.Bool false) = codes "false"
  counted_term n m (Term.Text s) = quoted_text s
  counted_term n m (Term.Lam t e) =
      codes "(fn " then counted_ty n t then codes " " then counted_term n (next_in m) e then codes ")"
  counted_term n m (Term.Call f a) =
      codes "(call " then counted_term n m f then codes " " then counted_term n m a then codes ")"
  counted_term n m (Term.TyLam k e) =
      codes "(tfn " then kind_text k then codes " " then counted_term (next_in n) m e then codes ")"
  counted_term n m (Term.Inst e t) =
      codes "(inst " then counted_term n m e then codes " " then counted_ty n t then codes ")"
  counted_term n m (Term.Fields row) = codes "(rec" then counted_term_row n m row then codes ")"
  counted_term n m (Term.Get e l) = codes "(get " then counted_term n m e then codes " " then label_text l then codes ")"
  counted_term n m (Term.Pack t e u) =
      codes "(pack " then counted_ty n t then codes " " then counted_term n m e then codes " " then counted_ty n u then codes ")"
  counted_term n m (Term.Unpack p e) =
      codes "(open " then counted_term n m p then codes " " then counted_term (next_in n) (next_in m) e then codes ")"
  counted_term n m (Term.If a b c) =
      codes "(if " then counted_term n m a then codes " " then counted_term n m b then codes " " then counted_term n m c then codes ")"
  counted_term n m (Term.Arith op a b) =
      op_front op then counted_term n m a then codes " " then counted_term n m b then codes ")"
  counted_term n m (Term.Fix t u e) =
      codes "(fix " then counted_ty n t then codes " " then counted_ty n u then codes " " then counted_term n (next_in (next_in m)) e then codes ")"
  counted_term n m (Term.Inj l e t) =
      codes "(inj " then label_text l then codes " " then counted_term n m e then codes " " then counted_ty n t then codes ")"
  counted_term n m (Term.Case e t row) =
      codes "(case " then counted_term n m e then codes " " then counted_ty n t then counted_term_row n (next_in m) row then codes ")"
  counted_term n m (Term.Roll e t) =
      codes "(roll " then counted_term n m e then codes " " then counted_ty n t then codes ")"
  counted_term n m (Term.Unroll e) = codes "(unroll " then counted_term n m e then codes ")"

  pub counted_term_row : (n m : ℕ) → TermRow → List ℕ
  counted_term_row n m TermRow.End = []
  counted_term_row n m (TermRow.More l e rest) =
      codes " (" then label_text l then codes " " then counted_term n m e then codes ")" then counted_term_row n m rest
