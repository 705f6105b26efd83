-- How types are spelled.
use Rattle.std.specs.Prelude.{ℕ, ◌+◌, ◌-◌, List, [], codes, decimal}
use Rattle.omega_kinds.specs.Text.{◌then◌}
use Rattle.omega_types.specs.Ty.{Ty, Row}
use Rattle.omega_terms.specs.KindText.{kind_text, label_text}

-- A variable is spelled by its level, where n of its sort are in scope: the outermost one has level 0.
abbrev pub level_text : (n index : ℕ) → List ℕ
level_text n index = decimal (n - (index + 1))

-- a type with n type variables in scope
abbrev mutual
  pub ty_text : ℕ → Ty → List ℕ
  ty_text n (Ty.Var i) = codes "a" then level_text n i
  ty_text n Ty.Int = codes "int"
  ty_text n Ty.Bool = codes "bool"
  ty_text n Ty.Text = codes "text"
  ty_text n (Ty.Arrow a b) = codes "(-> " then ty_text n a then codes " " then ty_text n b then codes ")"
  ty_text n (Ty.Fields row) = codes "(rec" then row_text n row then codes ")"
  ty_text n (Ty.Sum row) = codes "(sum" then row_text n row then codes ")"
  ty_text n (Ty.All k b) = codes "(all " then kind_text k then codes " " then ty_text (n + 1) b then codes ")"
  ty_text n (Ty.Ex k b) = codes "(some " then kind_text k then codes " " then ty_text (n + 1) b then codes ")"
  ty_text n (Ty.Mu b) = codes "(mu " then ty_text (n + 1) b then codes ")"
  ty_text n (Ty.Lam k b) = codes "(lam " then kind_text k then codes " " then ty_text (n + 1) b then codes ")"
  ty_text n (Ty.Apply f a) = codes "(@ " then ty_text n f then codes " " then ty_text n a then codes ")"

  -- each field has a space before it
  pub row_text : ℕ → Row → List ℕ
  row_text n Row.End = []
  row_text n (Row.More l t rest) =
      codes " (" then label_text l then codes " " then ty_text n t then codes ")" then row_text n rest
