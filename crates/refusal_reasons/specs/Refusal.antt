-- Refusals of a program: where, with how many type variables in scope, and why.
use Rattle.std.specs.Prelude.{ℕ}
use Rattle.omega_kinds.specs.Kind.{Kind}
use Rattle.omega_kinds.specs.Name.{Name}
use Rattle.omega_types.specs.Ty.{Ty}
use Rattle.sig_definitions.specs.Explicit.SigPath.{SigPath}
use Rattle.sig_definitions.specs.Matching.MatchRefusal.{Why}
use Rattle.fing_syntax.specs.Phrase.{Span}

pub data ElabWhy : Type 0 where
  Unbound : (name : Name) → ElabWhy
  NotStructure NotFunctor WrongPath Escapes NotOperator : ElabWhy
  NoPart : (name : Name) → ElabWhy
  NoRoot : (number : ℕ) (path : SigPath) → ElabWhy
  Clash : (path : SigPath) (why : Why) → ElabWhy
  NotArrow NotAll NotRecord NotSum NotData : (found : Ty) → ElabWhy
  NoField NoBranch : (name : Name) → ElabWhy
  Differ : (found needed : Ty) → ElabWhy
  KindDiffer : (found needed : Kind) → ElabWhy
  DuplicateField Duplicate : (name : Name) → ElabWhy
  NotAbstract : (path : SigPath) → ElabWhy

pub data Refusal : Type 0 where
  Refuse : (at : Span) (variables : ℕ) (why : ElabWhy) → Refusal
