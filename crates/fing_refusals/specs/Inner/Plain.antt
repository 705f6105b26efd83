-- What the code's refusals are seen as: plain refusals, and nothing when memory is out.
use Rattle.std.specs.Prelude.{◌≡◌, ℕ, Option, Some, None, MatchOption}
use Rattle.omega_kinds.specs.View.{kind_tree}
use Rattle.sig_definitions.specs.Matching.MatchRefusal.{Why}
use Rattle.semantic_sigs.specs.declared.made.Why.{Why as CodeWhy}
use Rattle.semantic_sigs.specs.declared.made.Why.TheVariants as clash
use Rattle.fing_syntax.specs.Phrase.{Span}
use Rattle.fing_syntax.specs.Inner.Leaves.{place}
use Rattle.refusal_reasons.specs.Refusal.{ElabWhy, Refusal, Refuse}
use Rattle.fing_refusals.specs.declared.refusal.ElabWhy.{ElabWhy as CodeElabWhy}
use Rattle.fing_refusals.specs.declared.refusal.ElabWhy.TheVariants as reason
use Rattle.fing_refusals.specs.declared.refusal.Refusal.{Refusal as CodeRefusal}

abbrev pub plain_clash : CodeWhy → Why
plain_clash clash.Form = Why.Form
plain_clash clash.Missing = Why.Missing
plain_clash clash.Effect = Why.Effects
plain_clash (clash.Types t u) = Why.Types t u

abbrev pub plain_reason : CodeElabWhy → Option ElabWhy
plain_reason (reason.Unbound name) = Some (ElabWhy.Unbound name)
plain_reason reason.NotStructure = Some ElabWhy.NotStructure
plain_reason (reason.NoPart name) = Some (ElabWhy.NoPart name)
plain_reason reason.NotFunctor = Some ElabWhy.NotFunctor
plain_reason reason.WrongPath = Some ElabWhy.WrongPath
plain_reason reason.Escapes = Some ElabWhy.Escapes
plain_reason (reason.NoRoot number path) = Some (ElabWhy.NoRoot number path)
plain_reason (reason.Clash path why) = Some (ElabWhy.Clash path (plain_clash why))
plain_reason (reason.NotArrow t) = Some (ElabWhy.NotArrow t)
plain_reason (reason.NotAll t) = Some (ElabWhy.NotAll t)
plain_reason (reason.NotRecord t) = Some (ElabWhy.NotRecord t)
plain_reason (reason.NotSum t) = Some (ElabWhy.NotSum t)
plain_reason (reason.NotData t) = Some (ElabWhy.NotData t)
plain_reason (reason.NoField name) = Some (ElabWhy.NoField name)
plain_reason (reason.NoBranch name) = Some (ElabWhy.NoBranch name)
plain_reason (reason.Differ t u) = Some (ElabWhy.Differ t u)
plain_reason (reason.KindDiffer k j) = Some (ElabWhy.KindDiffer (kind_tree k) (kind_tree j))
plain_reason reason.NotOperator = Some ElabWhy.NotOperator
plain_reason (reason.DuplicateField name) = Some (ElabWhy.DuplicateField name)
plain_reason (reason.Duplicate name) = Some (ElabWhy.Duplicate name)
plain_reason (reason.NotAbstract path) = Some (ElabWhy.NotAbstract path)
plain_reason reason.Mem = None

-- a place, so many type variables and a reason are a refusal
abbrev pub refused : Span → ℕ → Option ElabWhy → Option Refusal
refused at n (Some why) = Some (Refuse at n why)
refused at n None = None

abbrev pub plain_refusal : CodeRefusal → Option Refusal
plain_refusal r = refused (place r.at) r.types (plain_reason r.why)

-- what the code answers when memory is out
abbrev pub want_of_memory : CodeRefusal
want_of_memory = record { at = record { from = 0; to = 0 }; types = 0; why = reason.Mem }

-- a refusal of the code is a plain one of which this holds, or what is answered when memory is out
abbrev pub Says : CodeRefusal → (Refusal → Type 0) → Type 0
Says e P = MatchOption (plain_refusal e) (e ≡ want_of_memory) P
