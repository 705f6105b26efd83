-- The theorems, from the one on tasks.
-- Main results: each-answered, answers-exact, each-program.
use Rattle.std.specs.Prelude.{[], ◌≡◌, ◌⊎◌}
use Rattle.std.proofs.Common.{inl, inr}
use Rattle.std.proofs.Math.Path.{refl, sym, subst, ap, ◌∙◌}
use Rattle.omega_terms.specs.Term.{Term}
use Rattle.sig_definitions.specs.Signatures.Sig.{Module}
use Rattle.sig_definitions.specs.Packing.{Packed}
use Rattle.fing_syntax.specs.Phrase.{Binds}
use Rattle.elab_judgments.specs.Judgments.Program.{ProgramMeans}
use Rattle.elab_judgments.specs.Judgments.Meaning.{BindsMean}
use Rattle.sig_definitions.specs.Verdict.{Verdict, holds, refuses, One}
use Rattle.elab_judgments.specs.Refusals.Task.{Means, a_type, type_args, type_fields, an_exp, operands, args, fields, branches, a_sig, a_decl, decls, a_mod, a_bind, binds}
use Rattle.elab_exact.specs.Claims.{Exactly, EachAnswered, OutcomesEqual, Exclusive, RefusalsEqual, Total, Ok, Err, Mem, AnswersExact, StepsSayTheRules, ProgramExactly, EachProgram}
use Rattle.elab_laws.proofs.Kept.{binds_ok}
use Rattle.elab_exact.proofs.Rules.Generic.{runs-sound}
use Rattle.elab_exact.proofs.Rules.Complete.{means-runs}
use Rattle.elab_exact.proofs.Rules.Correct.{steps-sound}
use Rattle.elab_judgments.specs.Refusals.Steps.{steps}
use Rattle.sig_premise_laws.proofs.Determined.{packed-one}
use Rattle.elab_exact.proofs.Answered.{type-one, type_args-one, type_fields-one, exp-one, operands-one, args-one, fields-one, branches-one, sig-one, decl-one, decls-one, mod-one, bind-one, binds-one}

-- each task in a good environment has exactly one outcome or exactly one refusal
pub each-answered : EachAnswered
each-answered g (a_type a) h f = type-one g h a
each-answered g (type_args at t k rest) h f = type_args-one g h at t k rest f
each-answered g (type_fields before rest) h f = type_fields-one g h before rest
each-answered g (an_exp a) h f = exp-one g h a
each-answered g (operands at t e rest) h f = operands-one g h at t e rest
each-answered g (args at t e rest) h f = args-one g h at t e rest f
each-answered g (fields before rest) h f = fields-one g h before rest
each-answered g (branches w t before rest) h f = branches-one g h w t before rest f
each-answered g (a_sig a) h f = sig-one g h a
each-answered g (a_decl d) h f = decl-one g h d
each-answered g (decls before ds) h f = decls-one g h before ds
each-answered g (a_mod m) h f = mod-one g h m
each-answered g (a_bind b) h f = bind-one g h b
each-answered g (binds before bs) h f = binds-one g h before f bs

-- steps and rules
-- the steps of each task's rule give just what the inductive rules derive
pub steps-say-the-rules : StepsSayTheRules
steps-say-the-rules g a o = (means-runs g a o, runs-sound (steps g a) (Means g a) (steps-sound g a) o)

-- the four parts of a verdict

verdict-det : {A R : Type 0} {P : A → Type 0} {Q : R → Type 0} → Verdict P Q → (x y : A) → P x → P y → x ≡ y
verdict-det (holds z p only never) x y u v = only x u ∙ sym (only y v)
verdict-det (refuses r q only never) x y u v = absurd (never x u)

verdict-excl : {A R : Type 0} {P : A → Type 0} {Q : R → Type 0} → Verdict P Q → (x : A) (r : R) → P x → Q r → ⊥
verdict-excl (holds z p only never) x r u v = never r v
verdict-excl (refuses s q only never) x r u v = never x u

verdict-one : {A R : Type 0} {P : A → Type 0} {Q : R → Type 0} → Verdict P Q → (r s : R) → Q r → Q s → r ≡ s
verdict-one (holds z p only never) r s u v = absurd (never r u)
verdict-one (refuses t q only never) r s u v = only r u ∙ sym (only s v)

verdict-total : {A R : Type 0} {P : A → Type 0} {Q : R → Type 0} → Verdict P Q → ((x : A) × P x) ⊎ ((r : R) × Q r)
verdict-total (holds z p only never) = inl (z, p)
verdict-total (refuses t q only never) = inr (t, q)

-- the outcomes of a task are equal
pub outcomes-equal : OutcomesEqual
outcomes-equal g a h f o p u v = verdict-det (each-answered g a h f) o p u v

-- an outcome and a refusal of a task exclude each other
pub exclusive : Exclusive
exclusive g a h f o r u v = verdict-excl (each-answered g a h f) o r u v

-- the refusals of a task are equal
pub refusals-equal : RefusalsEqual
refusals-equal g a h f r q u v = verdict-one (each-answered g a h f) r q u v

-- each task has an outcome or a refusal
pub total : Total
total g a h f = verdict-total (each-answered g a h f)

-- what a program answers

-- an answer that follows the rules is what is meant or refused, unless memory runs out
pub answers-exact : AnswersExact
answers-exact g a h f (Ok o) u = ((λ p v. inl (ap Ok (outcomes-equal g a h f o p u v))), (λ r v. absurd (exclusive g a h f o r u v)))
answers-exact g a h f (Err r) u = ((λ o v. absurd (exclusive g a h f o r v u)), (λ q v. inl (ap Err (refusals-equal g a h f r q u v))))
answers-exact g a h f Mem u = ((λ o v. inr refl), (λ r v. inr refl))

-- programs

program-view : {bs : Binds} {m : Module} {e : Term} → ProgramMeans bs m e → BindsMean [] [] bs m × Packed [] m e
program-view (ProgramMeans.program p q) = (p, q)

-- each program has exactly one meaning or exactly one refusal
pub each-program : EachProgram
each-program bs = go (binds-one [] tt [] (tt, tt) bs)
  where
    go : Exactly [] (binds [] bs) → ProgramExactly bs
    go (refuses r q only never) = refuses r q only (λ o p. never o.0 (program-view p).0)
    go (holds M p only never) = holds (M, w.0) (ProgramMeans.program p w.1) same never
      where
        w : One (Packed [] M)
        w = packed-one [] M (binds_ok [] [] bs M tt tt p)

        same : (o : Module × Term) → ProgramMeans bs o.0 o.1 → o ≡ (M, w.0)
        same o q =
            let v = program-view q in
            let e = only o.0 v.0 in
            let d = w.2 o.1 (subst (λ N. Packed [] N o.1) e v.1) in
            λ i. (e i, d i)
