-- Which types and terms have a spelling in the text of System Fω as far as no variable is concerned: each label, number and
-- text in them has one, the fields of each record and the branches of each case stand in strictly rising order, and sums and
-- recursive types, and their terms, stand in the second version only.
use Rattle.std.specs.Prelude.{◌≡◌, List, [], ◌∷◌, true, Option, Some, None}
use Rattle.omega_kinds.specs.declared.label.Label.{Label}
use Rattle.omega_types.specs.Ty.{Ty, Row}
use Rattle.omega_terms.specs.declared.version.Version.{Version}
use Rattle.omega_terms.specs.declared.version.Version.TheVariants.{Second}
use Rattle.omega_terms.specs.Term.{Term, TermRow}
use Rattle.omega_spelling.specs.Reading.{follows}
use Rattle.omega_spelling.specs.Spelled.{LabelSpelled}
use Rattle.omega_spelling.specs.TermReading.{SignedFits, all_spelled}

abbrev mutual
  pub TyLegible : Version → Ty → Type 0
  TyLegible v (Ty.Var i) = Unit {0}
  TyLegible v Ty.Int = Unit {0}
  TyLegible v Ty.Bool = Unit {0}
  TyLegible v Ty.Text = Unit {0}
  TyLegible v (Ty.Arrow a b) = TyLegible v a × TyLegible v b
  TyLegible v (Ty.Fields row) = RowLegible v None row
  TyLegible v (Ty.Sum row) = (v ≡ Second) × RowLegible v None row
  TyLegible v (Ty.All k b) = TyLegible v b
  TyLegible v (Ty.Ex k b) = TyLegible v b
  TyLegible v (Ty.Mu b) = (v ≡ Second) × TyLegible v b
  TyLegible v (Ty.Lam k b) = TyLegible v b
  TyLegible v (Ty.Apply f a) = TyLegible v f × TyLegible v a

  -- fields after the last label
  pub RowLegible : Version → Option Label → Row → Type 0
  RowLegible v last Row.End = Unit {0}
  RowLegible v last (Row.More l t rest) = (follows last l ≡ true) × LabelSpelled l × TyLegible v t × RowLegible v (Some l) rest

abbrev pub TypesLegible : Version → List Ty → Type 0
TypesLegible v [] = Unit {0}
TypesLegible v (t ∷ ts) = TyLegible v t × TypesLegible v ts

abbrev mutual
  pub TermLegible : Version → Term → Type 0
  TermLegible v (Term.Var i) = Unit {0}
  TermLegible v (Term.Int z) = SignedFits z
  TermLegible v (Term.Bool b) = Unit {0}
  TermLegible v (Term.Text bytes) = all_spelled bytes ≡ true
  TermLegible v (Term.Lam t e) = TyLegible v t × TermLegible v e
  TermLegible v (Term.Call f a) = TermLegible v f × TermLegible v a
  TermLegible v (Term.TyLam k e) = TermLegible v e
  TermLegible v (Term.Inst e t) = TermLegible v e × TyLegible v t
  TermLegible v (Term.Fields row) = TermRowLegible v None row
  TermLegible v (Term.Get e l) = TermLegible v e × LabelSpelled l
  TermLegible v (Term.Pack t e u) = TyLegible v t × TermLegible v e × TyLegible v u
  TermLegible v (Term.Unpack p e) = TermLegible v p × TermLegible v e
  TermLegible v (Term.If a b c) = TermLegible v a × TermLegible v b × TermLegible v c
  TermLegible v (Term.Arith op a b) = TermLegible v a × TermLegible v b
  TermLegible v (Term.Fix t u e) = TyLegible v t × TyLegible v u × TermLegible v e
  TermLegible v (Term.Inj l e t) = (v ≡ Second) × LabelSpelled l × TermLegible v e × TyLegible v t
  TermLegible v (Term.Case e t row) = (v ≡ Second) × TermLegible v e × TyLegible v t × TermRowLegible v None row
  TermLegible v (Term.Roll e t) = (v ≡ Second) × TermLegible v e × TyLegible v t
  TermLegible v (Term.Unroll e) = (v ≡ Second) × TermLegible v e

  pub TermRowLegible : Version → Option Label → TermRow → Type 0
  TermRowLegible v last TermRow.End = Unit {0}
  TermRowLegible v last (TermRow.More l e rest) = (follows last l ≡ true) × LabelSpelled l × TermLegible v e × TermRowLegible v (Some l) rest
