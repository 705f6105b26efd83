-- Refusals whose type variables are in scope, and have levels that are numbers of 64 bits.
use Rattle.std.specs.Prelude.{ℕ, Option, Some, None}
use Rattle.omega_terms.specs.InScope.{TyInScope}
use Rattle.sig_definitions.specs.Matching.MatchRefusal.{Why}
use Rattle.refusal_reasons.specs.Refusal.{ElabWhy, Refusal, Refuse}

abbrev pub ClashInScope : ℕ → Why → Type 0
ClashInScope n (Why.Types t u) = TyInScope n t × TyInScope n u
ClashInScope n _ = Unit {0}

-- a reason with n type variables in scope
abbrev pub ReasonInScope : ℕ → ElabWhy → Type 0
ReasonInScope n (ElabWhy.Clash p why) = ClashInScope n why
ReasonInScope n (ElabWhy.NotArrow t) = TyInScope n t
ReasonInScope n (ElabWhy.NotAll t) = TyInScope n t
ReasonInScope n (ElabWhy.NotRecord t) = TyInScope n t
ReasonInScope n (ElabWhy.NotSum t) = TyInScope n t
ReasonInScope n (ElabWhy.NotData t) = TyInScope n t
ReasonInScope n (ElabWhy.Differ t u) = TyInScope n t × TyInScope n u
ReasonInScope n _ = Unit {0}

abbrev pub RefusalInScope : Refusal → Type 0
RefusalInScope (Refuse at n why) = ReasonInScope n why

-- out of memory has no line
abbrev pub HasLine : Option Refusal → Type 0
HasLine (Some refusal) = RefusalInScope refusal
HasLine None = ⊥
