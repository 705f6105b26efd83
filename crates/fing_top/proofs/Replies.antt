-- A command has at most one reply to bytes.
-- Main results: one_reply.
use Rattle.std.proofs.Common.{◌≡◌, ℕ, Bool, false, List, [], refl, sym, ap, ap₂, subst, ◌∙◌}
use Rattle.std.specs.Prelude.{codes}
use Rattle.omega_types.specs.Ty.{Ty}
use Rattle.omega_terms.specs.Term.{Term}
use Rattle.omega_terms.specs.Steps.{End, Result, Outcome as Ends}
use Rattle.omega_terms.specs.Typing.{HasType}
use Rattle.omega_terms.specs.ValueText.{value_text}
use Rattle.omega_spelling.specs.Omega.{OmegaText}
use Rattle.omega_spelling.specs.Refused.{Refused}
use Rattle.omega_spelling.proofs.Texts.{one-tree}
use Rattle.omega_spelling.proofs.Refusing.{exclusive}
use Rattle.omega_spelling.proofs.Answering.{unrefused}
use Rattle.omega_laws.proofs.Runs.{outcome_unique}
use Rattle.fing_syntax.specs.Phrase.{Binds as Program}
use Rattle.fing_top.specs.Counts.{most_steps, bind_count, node_count, counts_line}
use Rattle.fing_top.specs.Meaning.{Form, one_program, separate_units, Meaning}
use Rattle.fing_top.specs.Refusing.{numbered}
use Rattle.fing_top.specs.declared.status.Status.{Status}
use Rattle.fing_top.specs.declared.status.Status.TheVariants as status
use Rattle.fing_words.specs.declared.command_line.CommandLine.TheVariants as command
use Rattle.fing_top.specs.Reply.{Reply, accepted, refused, reply_of, Telling, TellsSignature, TellsTerm, TellsOutcome, TellsCounts, fault_line, refusal_text, Refuses, ProgramReplies, VerifyReplies, text_line, OneReply}
use Rattle.fing_top.proofs.Meanings.{one_meant, one_refused, not_both}

-- ---- one reply of all commands but `verify`

-- one reply is told of one meaning
abbrev OneTold : Telling → Type 0
OneTold Tells = (m : Meaning) (r s : Reply) → Tells m r → Tells m s → s ≡ r

told_alike : (Tells : Telling) → OneTold Tells → (m n : Meaning) (r s : Reply) → m ≡ n → Tells m r → Tells n s → s ≡ r
told_alike Tells one m n r s same p q = one n r s (subst (λ (k : Meaning). Tells k r) same p) q

one_line : (form : Form) (bytes : List ℕ) (t u : List ℕ) → Refuses form bytes t → Refuses form bytes u → t ≡ u
one_line form bytes t u p q = p.2 ∙ (ap refusal_text (one_refused p.1 q.1) ∙ sym q.2)

program_one : (form : Form) (Tells : Telling) → OneTold Tells → (bytes : List ℕ) (r s : Reply) → ProgramReplies form Tells bytes r → ProgramReplies form Tells bytes s → s ≡ r
program_one form Tells one bytes r s (ProgramReplies.meant {m = m} p a) (ProgramReplies.meant {m = n} q b) = told_alike Tells one m n r s (one_meant p q) a b
program_one form Tells one bytes r s (ProgramReplies.meant p a) (ProgramReplies.refuses u) = absurd (not_both p u.1)
program_one form Tells one bytes r s (ProgramReplies.refuses u) (ProgramReplies.meant q a) = absurd (not_both q u.1)
program_one form Tells one bytes r s (ProgramReplies.refuses {text = t} a) (ProgramReplies.refuses {text = u} b) = ap refused (one_line form bytes u t b a)

one_signature : OneTold TellsSignature
one_signature m r s p q = q ∙ sym p

one_term : (simplify : Bool) → OneTold (TellsTerm simplify)
one_term simplify m r s p q = q ∙ sym p

-- the status and the line of an outcome
outcome_status : Result → Status
outcome_status (Result.ended (End.the_value v) steps) = status.Ok
outcome_status (Result.ended (End.the_fault why) steps) = status.Faulted
outcome_status Result.spent = status.Spent

outcome_text : ℕ → Result → List ℕ
outcome_text budget (Result.ended (End.the_value v) steps) = value_text v
outcome_text budget (Result.ended (End.the_fault why) steps) = fault_line why
outcome_text budget Result.spent = numbered (codes "spent ") budget

outcome_told : (budget : ℕ) (m : Meaning) (s : Reply) → TellsOutcome budget m s → (r : Result) × Ends m.whole budget r × (s ≡ reply_of m (outcome_status r) (outcome_text budget r))
unfolding outcome_status outcome_text
outcome_told budget m s (TellsOutcome.value {v = v} {steps = n} o) = (Result.ended (End.the_value v) n, o, refl)
outcome_told budget m s (TellsOutcome.fault {why = why} {steps = n} o) = (Result.ended (End.the_fault why) n, o, refl)
outcome_told budget m s (TellsOutcome.spent o) = (Result.spent, o, refl)

one_outcome_told : (budget : ℕ) → OneTold (TellsOutcome budget)
one_outcome_told budget m s r p q =
    let a = outcome_told budget m s p in
    let b = outcome_told budget m r q in
    b.2 ∙ ap (λ (o : Result). reply_of m (outcome_status o) (outcome_text budget o)) (outcome_unique b.1 a.1) ∙ sym a.2

-- the line of `gen` of an outcome
counts_text : ℕ → Program → Term → Result → List ℕ
counts_text budget bs e (Result.ended (End.the_value v) steps) = counts_line (bind_count bs) (node_count e) steps
counts_text budget bs e (Result.ended (End.the_fault why) steps) = fault_line why
counts_text budget bs e Result.spent = numbered (codes "spent ") budget

counts_told : (budget : ℕ) (m : Meaning) (s : Reply) → TellsCounts budget m s → (r : Result) × Ends m.whole budget r × (s ≡ reply_of m (outcome_status r) (counts_text budget m.program m.whole r))
unfolding outcome_status counts_text
counts_told budget m s (TellsCounts.counts {v = v} {steps = n} o) = (Result.ended (End.the_value v) n, o, refl)
counts_told budget m s (TellsCounts.no_value (TellsOutcome.value o) n) = absurd (n refl)
counts_told budget m s (TellsCounts.no_value (TellsOutcome.fault {why = why} {steps = n} o) _) = (Result.ended (End.the_fault why) n, o, refl)
counts_told budget m s (TellsCounts.no_value (TellsOutcome.spent o) _) = (Result.spent, o, refl)

one_counts_told : (budget : ℕ) → OneTold (TellsCounts budget)
one_counts_told budget m s r p q =
    let a = counts_told budget m s p in
    let b = counts_told budget m r q in
    b.2 ∙ ap (λ (o : Result). reply_of m (outcome_status o) (counts_text budget m.program m.whole o)) (outcome_unique b.1 a.1) ∙ sym a.2

-- a text is the text of one type and one term
text_one : {bytes : List ℕ} {t u : Ty} {e d : Term} → OmegaText bytes t e → OmegaText bytes u d → (t ≡ u) × (e ≡ d)
text_one {bytes} {t} {u} {e} {d} p q = one-tree bytes t u e d p q

typed_again : {bytes : List ℕ} {t u : Ty} {e d : Term} → OmegaText bytes t e → OmegaText bytes u d → HasType [] [] e t → HasType [] [] d u
typed_again {bytes} {t} {u} {e} {d} p q h = let same = text_one p q in subst (λ (v : Ty). HasType [] [] d v) same.0 (subst (λ (w : Term). HasType [] [] w t) same.1 h)

verify_one : (bytes : List ℕ) (r s : Reply) → VerifyReplies bytes r → VerifyReplies bytes s → s ≡ r
verify_one bytes r s (VerifyReplies.well_typed p _ h) (VerifyReplies.well_typed q _ i) = let same = text_one p q in sym (ap₂ (λ (t : Ty) (e : Term). accepted t e (codes "well typed\n")) same.0 same.1)
verify_one bytes r s (VerifyReplies.well_typed p _ h) (VerifyReplies.ill_typed q _ n) = absurd (n (typed_again p q h))
verify_one bytes r s (VerifyReplies.well_typed {t = t} {e = e} p d h) (VerifyReplies.no_text why w) = absurd (unrefused bytes t e p d why w)
verify_one bytes r s (VerifyReplies.ill_typed p _ n) (VerifyReplies.well_typed q _ i) = absurd (n (typed_again q p i))
verify_one bytes r s (VerifyReplies.ill_typed p _ n) (VerifyReplies.ill_typed q _ m) = refl
verify_one bytes r s (VerifyReplies.ill_typed {t = t} {e = e} p d n) (VerifyReplies.no_text why w) = absurd (unrefused bytes t e p d why w)
verify_one bytes r s (VerifyReplies.no_text why w) (VerifyReplies.well_typed {t = t} {e = e} q d i) = absurd (unrefused bytes t e q d why w)
verify_one bytes r s (VerifyReplies.no_text why w) (VerifyReplies.ill_typed {t = t} {e = e} q d n) = absurd (unrefused bytes t e q d why w)
verify_one bytes r s (VerifyReplies.no_text why w) (VerifyReplies.no_text other v) = ap (λ (x : Refused). refused (text_line x)) (exclusive bytes other why v w)

-- a command has at most one reply to bytes
pub one_reply : OneReply
one_reply command.Check bytes reply other p q = program_one one_program TellsSignature one_signature bytes reply other p q
one_reply (command.Emit simplify) bytes reply other p q = program_one one_program (TellsTerm simplify) (one_term simplify) bytes reply other p q
one_reply (command.Run budget) bytes reply other p q = program_one one_program (TellsOutcome budget) (one_outcome_told budget) bytes reply other p q
one_reply command.Verify bytes reply other p q = verify_one bytes reply other p q
one_reply (command.Gen size) bytes reply other p q = program_one one_program (TellsCounts most_steps) (one_counts_told most_steps) bytes reply other p q
one_reply command.Link bytes reply other p q = program_one separate_units (TellsTerm false) (one_term false) bytes reply other p q
