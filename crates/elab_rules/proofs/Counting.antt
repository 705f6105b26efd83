-- As many type variables as an environment has.
use Rattle.std.proofs.Common.{◌≡◌, ◌≢◌, List, Option, Some, None, length, refl, sym, ap, ◌∙◌}
use Rattle.std.specs.Prelude.{MatchOption}
use Rattle.omega_kinds.specs.declared.kind.Kind.{Kind}
use Rattle.omega_types.specs.Inner.Scope.{scope_of}
use Rattle.sig_definitions.specs.Env.{Env, kinds}
use Rattle.fing_syntax.specs.Inner.Leaves.{place}
use Rattle.fing_text.specs.declared.span.Span.{Span}
use Rattle.semantic_sigs.proofs.SlotSteps.{length-scope}
use Rattle.fing_refusals.specs.Inner.Plain.{plain_reason, refused}
use Rattle.fing_refusals.specs.declared.refusal.ElabWhy.{ElabWhy}
use Rattle.fing_refusals.specs.declared.refusal.ElabWhy.TheVariants as reason
use Rattle.refusal_reasons.specs.Refusal.{Refuse, ElabWhy as PlainWhy}
use Rattle.elab_rules.specs.Inner.Answered.{Placed}

-- want of memory alone is no reason
no-reason : (why : ElabWhy) → plain_reason why ≡ None → why ≡ reason.Mem
no-reason (reason.Unbound name) e = absurd cc
no-reason reason.NotStructure e = absurd cc
no-reason (reason.NoPart name) e = absurd cc
no-reason reason.NotFunctor e = absurd cc
no-reason reason.WrongPath e = absurd cc
no-reason reason.Escapes e = absurd cc
no-reason (reason.NoRoot number path) e = absurd cc
no-reason (reason.Clash path why) e = absurd cc
no-reason (reason.NotArrow t) e = absurd cc
no-reason (reason.NotAll t) e = absurd cc
no-reason (reason.NotRecord t) e = absurd cc
no-reason (reason.NotSum t) e = absurd cc
no-reason (reason.NotData t) e = absurd cc
no-reason (reason.NoField name) e = absurd cc
no-reason (reason.NoBranch name) e = absurd cc
no-reason (reason.Differ t u) e = absurd cc
no-reason (reason.KindDiffer k j) e = absurd cc
no-reason reason.NotOperator e = absurd cc
no-reason (reason.DuplicateField name) e = absurd cc
no-reason (reason.Duplicate name) e = absurd cc
no-reason (reason.NotAbstract path) e = absurd cc
no-reason reason.Mem e = refl

pub refused_here : (at : Span) (why : ElabWhy) (ks : List Kind) (g : Env) → scope_of ks ≡ kinds g → why ≢ reason.Mem → Placed g (place at) (plain_reason why) (record { at = at; types = length ks; why = why })
refused_here at why ks g e n = record { stands = go _ (plain_reason why) (λ h. n (no-reason why h)) }
  where
    go : (N : Type 0) (o : Option PlainWhy) → o ≢ None → MatchOption (refused (place at) (length ks) o) N (λ r. (w : PlainWhy) × (o ≡ Some w) × (r ≡ Refuse (place at) (length (kinds g)) w))
    go N None h = absurd (h refl)
    go N (Some w) h = (w, refl, ap (λ n. Refuse (place at) n w) (sym (length-scope ks) ∙ ap length e))
