-- The same of signatures, of modules and of environments.
use Rattle.std.specs.Prelude.{◌≡◌, List, [], ◌∷◌, true, Option, Some, None}
use Rattle.omega_kinds.specs.declared.label.Label.{Label}
use Rattle.omega_kinds.specs.Name.{Name}
use Rattle.omega_terms.specs.declared.version.Version.{Version}
use Rattle.omega_spelling.specs.Reading.{follows}
use Rattle.omega_spelling.specs.Spelled.{LabelSpelled}
use Rattle.sig_definitions.specs.Signatures.Sig.{Sig, Abs, SigRow, Module, made}
use Rattle.sig_definitions.specs.Env.{Env, TypeVar, Named, Value, TypeParam}
use Rattle.elab_spelling.specs.Legible.{TyLegible, TypesLegible, TermLegible}

-- a name that stands as a label in the text
abbrev pub NameSpelled : Name → Type 0
NameSpelled name = LabelSpelled (Label.Name name)

abbrev pub NamesSpelled : List Name → Type 0
NamesSpelled [] = Unit {0}
NamesSpelled (l ∷ ls) = NameSpelled l × NamesSpelled ls

abbrev mutual
  pub SigLegible : Version → Sig → Type 0
  SigLegible v (Sig.Val t) = TyLegible v t
  SigLegible v (Sig.Typ t k) = TyLegible v t
  SigLegible v (Sig.Meta x) = AbsLegible v x
  SigLegible v (Sig.Str fs) = FieldsLegible v None fs
  SigLegible v (Sig.Fun f ks s x) = SigLegible v s × AbsLegible v x

  pub AbsLegible : Version → Abs → Type 0
  AbsLegible v (Abs.Ex ks s) = SigLegible v s

  -- fields after the last label
  pub FieldsLegible : Version → Option Label → SigRow → Type 0
  FieldsLegible v last SigRow.End = Unit {0}
  FieldsLegible v last (SigRow.More l s rest) = (follows last (Label.Name l) ≡ true) × NameSpelled l × SigLegible v s × FieldsLegible v
      (Some (Label.Name l)) rest

abbrev pub ModuleLegible : Version → Module → Type 0
ModuleLegible v (made f x ts e) = AbsLegible v x × TypesLegible v ts × TermLegible v e

abbrev pub EnvLegible : Version → Env → Type 0
EnvLegible v [] = Unit {0}
EnvLegible v (TypeVar k ∷ g) = EnvLegible v g
EnvLegible v (Named x s ∷ g) = SigLegible v s × EnvLegible v g
EnvLegible v (Value x t ∷ g) = TyLegible v t × EnvLegible v g
EnvLegible v (TypeParam x ∷ g) = EnvLegible v g
