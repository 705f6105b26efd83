-- What a run that is made one step at a time answers.
use Rattle.std.specs.Prelude.{◌≡◌, ℤ, List, true, false}
use Rattle.omega_kinds.specs.Kind.{Kind}
use Rattle.omega_kinds.specs.declared.label.Label.{Label}
use Rattle.omega_types.specs.Ty.{Ty}
use Rattle.omega_terms.specs.declared.op.Op.{Op}
use Rattle.omega_terms.specs.Term.{Term, TermRow}
use Rattle.omega_terms.specs.Steps.{IsValue, AreValues, Step, Faults}
use Rattle.omega_machine.specs.declared.outcome.Arith.{Arith}
use Rattle.omega_machine.specs.declared.frames.Frame.{Frame}
use Rattle.omega_machine.specs.declared.stepping.Next.{Next}
use Rattle.omega_machine.specs.declared.stepping.Next.TheVariants as next
use Rattle.omega_machine.specs.declared.stepping.Redex.{Redex}
use Rattle.omega_machine.specs.declared.stepping.Rule.{Rule}
use Rattle.omega_machine.specs.declared.stepping.Rule.TheVariants as rule
use Rattle.omega_machine.specs.declared.stepping.Run.{Run}
use Rattle.omega_machine.specs.Inner.Contexts.{fill_ready, plug, term_in}
use Rattle.omega_machine.specs.Inner.Moves.{IsTyped, AreSound, IsSoundFocus}
use Rattle.omega_machine.specs.Inner.Outcomes.{fault_of}

-- what the run stands at
abbrev pub whole : Run → Term
whole r = plug r.frames.items (term_in r.focus)

pub record IsUnderWay (r : Run) : Type 0 where
  pub frames : AreSound r.frames.items
  pub in_hole : IsSoundFocus r.focus
  pub typed : IsTyped (whole r)

-- the term is a redex of the rule, which has the name that it has among the steps
pub data IsRedex : Rule → Term → Type 0 where
  call_lam : {t : Ty} {e v : Term} → IsValue v → IsRedex rule.CallLam (Term.Call (Term.Lam t e) v)
  call_fix : {t u : Ty} {e v : Term} → IsValue v → IsRedex rule.CallFix (Term.Call (Term.Fix t u e) v)
  inst_ty_lam : {k : Kind} {e : Term} {t : Ty} → IsRedex rule.InstTyLam (Term.Inst (Term.TyLam k e) t)
  get_fields : {f : TermRow} {l : Label} → AreValues f → IsRedex rule.GetFields (Term.Get (Term.Fields f) l)
  unpack_pack : {t u : Ty} {v e : Term} → IsValue v → IsRedex rule.UnpackPack (Term.Unpack (Term.Pack t v u) e)
  if_true : {b c : Term} → IsRedex rule.IfTrue (Term.If (Term.Bool true) b c)
  if_false : {b c : Term} → IsRedex rule.IfFalse (Term.If (Term.Bool false) b c)
  arith : {o : Op} {m n : ℤ} → IsRedex rule.Arith (Term.Arith o (Term.Int m) (Term.Int n))
  case_inj : {l : Label} {v : Term} {t u : Ty} {f : TermRow} → IsValue v → IsRedex rule.CaseInj (Term.Case (Term.Inj l v u) t f)
  unroll_roll : {v : Term} {t : Ty} → IsValue v → IsRedex rule.UnrollRoll (Term.Unroll (Term.Roll v t))

abbrev pub redex_term : Redex → Term
redex_term r = fill_ready r.form r.value

-- the redex in the frames is the term before; what it steps to is, in the same frames, the term after, which is one step on
pub record MakesStep (before : Term) (r : Redex) (after : Run) : Type 0 where
  pub stood : plug after.frames.items (redex_term r) ≡ before
  pub redex : IsRedex r.rule (redex_term r)
  pub contracts : Step (redex_term r) (term_in after.focus)
  pub steps : Step before (whole after)
  pub goes_on : IsUnderWay after

-- the redex in the frames is the term, and its fault is that of the term
pub record HasFault (e : Term) (x : Arith) (r : Redex) (fs : List Frame) : Type 0 where
  pub stands : plug fs (redex_term r) ≡ e
  pub redex : IsRedex r.rule (redex_term r)
  pub fails : Faults (redex_term r) (fault_of x)
  pub faults : Faults e (fault_of x)

abbrev pub Follows : Term → Next → Type 0
Follows e (next.Value v) = (v ≡ e) × IsValue v
Follows e (next.Step r run) = MakesStep e r run
Follows e (next.Fault x r fs) = HasFault e x r fs.items

-- ---- the rule of a redex, by its form

abbrev pub rule_of_call : (function : Term) → Rule
rule_of_call (Term.Fix t u e) = rule.CallFix
rule_of_call _ = rule.CallLam

abbrev pub rule_of_test : (test : Term) → Rule
rule_of_test (Term.Bool true) = rule.IfTrue
rule_of_test _ = rule.IfFalse

abbrev pub rule_of : Term → Rule
rule_of (Term.Call f a) = rule_of_call f
rule_of (Term.Inst e t) = rule.InstTyLam
rule_of (Term.Get e l) = rule.GetFields
rule_of (Term.Unpack p e) = rule.UnpackPack
rule_of (Term.If a b c) = rule_of_test a
rule_of (Term.Arith o a b) = rule.Arith
rule_of (Term.Case e t f) = rule.CaseInj
rule_of _ = rule.UnrollRoll
