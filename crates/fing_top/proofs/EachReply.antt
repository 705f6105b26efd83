-- Each command has a reply to each string of bytes.
-- Main results: each_replied.
use Rattle.std.proofs.Common.{◌≡◌, ◌⊎◌, inl, inr, ℕ, List, [], Bool, true, false, Option, Some, None, refl}
use Rattle.std.specs.Prelude.{codes}
use Rattle.omega_kinds.specs.Kind.{Kind}
use Rattle.omega_types.specs.Ty.{Ty}
use Rattle.omega_terms.specs.Term.{Term}
use Rattle.omega_terms.specs.Steps.{End, Result, Outcome as Ends}
use Rattle.omega_terms.specs.Typing.{HasType}
use Rattle.omega_laws.proofs.Runs.{outcome}
use Rattle.omega_node_laws.specs.Found.{normal_at, synth_in}
use Rattle.omega_node_laws.specs.SameTy.{same_ty}
use Rattle.omega_node_laws.proofs.Exact.{unkinded, untyped, differs, typed}
use Rattle.omega_terms.specs.ValueText.{value_text}
use Rattle.omega_spelling.specs.Omega.{IsOmega}
use Rattle.omega_spelling.specs.Refusals.{is_too_deep}
use Rattle.omega_spelling.specs.Refused.{Refused as TextRefused, Refuses as TextRefuses}
use Rattle.omega_spelling.proofs.Answering.{answered as text_answered}
use Rattle.sig_definitions.specs.Signatures.Encoding.{enc_abs}
use Rattle.sig_definitions.specs.Verdict.{Verdict, holds, refuses}
use Rattle.elab_laws.proofs.TypedClaims.{whole_is_typed}
use Rattle.sig_text.specs.SigText.{elab_text}
use Rattle.fing_words.specs.declared.command_line.CommandLine.{CommandLine}
use Rattle.fing_words.specs.declared.command_line.CommandLine.TheVariants as command
use Rattle.fing_top.specs.Counts.{most_steps, bind_count, node_count, counts_line}
use Rattle.fing_top.specs.Meaning.{Form, one_program, separate_units, Meaning, BytesMean, BytesRefused}
use Rattle.fing_top.specs.Refusing.{numbered}
use Rattle.fing_top.specs.declared.status.Status.{Status}
use Rattle.fing_top.specs.declared.status.Status.TheVariants as status
use Rattle.fing_top.specs.Reply.{Reply, accepted, emitted, omega_reply, refused, reply_of, Telling, TellsSignature, TellsTerm, TellsOutcome, TellsCounts, fault_line, ProgramReplies, VerifyReplies, text_line, Replies, EachReplied}
use Rattle.fing_top.proofs.Meanings.{mean_or_refused}
use Rattle.fing_top.proofs.Replies.{one_reply}

-- ---- all commands but `verify`

-- some reply is told of a meaning
abbrev Told : Telling → Meaning → Type 0
Told Tells m = (r : Reply) × Tells m r

abbrev EachTold : Telling → Type 0
EachTold Tells = (m : Meaning) → HasType [] [] m.whole (enc_abs m.sig) → Told Tells m

-- a reply to the bytes of a source
abbrev AReply : Form → Telling → List ℕ → Type 0
AReply form Tells bytes = (r : Reply) × ProgramReplies form Tells bytes r

of_meaning : (form : Form) (Tells : Telling) → EachTold Tells → (bytes : List ℕ) → Verdict (BytesMean form bytes) (BytesRefused form bytes) → AReply form Tells bytes
of_meaning form Tells each bytes (holds m h only never) =
    let t = each m (whole_is_typed m.program m.effect m.sig m.types m.term m.whole h.derived) in
    (t.0, ProgramReplies.meant h t.1)
of_meaning form Tells each bytes (refuses r h only never) = (_, ProgramReplies.refuses (r, h, refl))

program_replied : (form : Form) (Tells : Telling) → EachTold Tells → (bytes : List ℕ) → AReply form Tells bytes
program_replied form Tells each bytes = of_meaning form Tells each bytes (mean_or_refused form bytes)

each_signature : EachTold TellsSignature
each_signature m h = (reply_of m status.Ok (elab_text m.effect m.sig), refl)

each_term : (simplify : Bool) → EachTold (TellsTerm simplify)
each_term simplify m h = (omega_reply (enc_abs m.sig) (emitted simplify m.whole), refl)

of_result : (budget : ℕ) (m : Meaning) (r : Result) → Ends m.whole budget r → Told (TellsOutcome budget) m
of_result budget m (Result.ended (End.the_value v) steps) o = (reply_of m status.Ok (value_text v), TellsOutcome.value o)
of_result budget m (Result.ended (End.the_fault why) steps) o = (reply_of m status.Faulted (fault_line why), TellsOutcome.fault o)
of_result budget m Result.spent o = (reply_of m status.Spent (numbered (codes "spent ") budget), TellsOutcome.spent o)

each_outcome : (budget : ℕ) → EachTold (TellsOutcome budget)
each_outcome budget m h = let o = outcome budget m.whole (enc_abs m.sig) h in of_result budget m o.0 o.1

count_of_result : (budget : ℕ) (m : Meaning) (r : Result) → Ends m.whole budget r → Told (TellsCounts budget) m
count_of_result budget m (Result.ended (End.the_value v) steps) o = (reply_of m status.Ok (counts_line (bind_count m.program) (node_count m.whole) steps), TellsCounts.counts o)
count_of_result budget m (Result.ended (End.the_fault why) steps) o = (reply_of m status.Faulted (fault_line why), TellsCounts.no_value (TellsOutcome.fault o) (λ e. cc))
count_of_result budget m Result.spent o = (reply_of m status.Spent (numbered (codes "spent ") budget), TellsCounts.no_value (TellsOutcome.spent o) (λ e. cc))

each_counts : (budget : ℕ) → EachTold (TellsCounts budget)
each_counts budget m h = let o = outcome budget m.whole (enc_abs m.sig) h in count_of_result budget m o.0 o.1

-- ---- `verify`

-- a closed term has a closed type by the typing rules, or it has not
typed_or_not : (e : Term) (t : Ty) → HasType [] [] e t ⊎ (HasType [] [] e t → ⊥)
typed_or_not e t = by (normal_at [] t Kind.Star) refl (synth_in [] [] e) refl
  where
    compared : (n s : Ty) → Some n ≡ normal_at [] t Kind.Star → Some s ≡ synth_in [] [] e → (b : Bool) → same_ty s n ≡ b → HasType [] [] e t ⊎ (HasType [] [] e t → ⊥)
    compared n s p q true d = inl (typed e t s n p q d)
    compared n s p q false d = inr (differs e t s n p q d)

    by : (o : Option Ty) → o ≡ normal_at [] t Kind.Star → (found : Option Ty) → found ≡ synth_in [] [] e → HasType [] [] e t ⊎ (HasType [] [] e t → ⊥)
    by None p found q = inr (unkinded e t None (λ n i. cc) p)
    by (Some n) p None q = inr (untyped e t None (λ s i. cc) q)
    by (Some n) p (Some s) q = compared n s p q (same_ty s n) refl

of_text : (bytes : List ℕ) → (IsOmega bytes × (is_too_deep bytes ≡ false)) ⊎ ((r : TextRefused) × TextRefuses bytes r) → (r : Reply) × VerifyReplies bytes r
of_text bytes (inr (why, h)) = (refused (text_line why), VerifyReplies.no_text why h)
of_text bytes (inl ((t, e, h), d)) = by (typed_or_not e t)
  where
    by : HasType [] [] e t ⊎ (HasType [] [] e t → ⊥) → (r : Reply) × VerifyReplies bytes r
    by (inl p) = (accepted t e (codes "well typed\n"), VerifyReplies.well_typed h d p)
    by (inr n) = (refused (codes "refused IllTyped\n"), VerifyReplies.ill_typed h d n)

-- ---- each command

replied : (c : CommandLine) (bytes : List ℕ) → (r : Reply) × Replies c bytes r
replied command.Check bytes = program_replied one_program TellsSignature each_signature bytes
replied (command.Emit simplify) bytes = program_replied one_program (TellsTerm simplify) (each_term simplify) bytes
replied (command.Run budget) bytes = program_replied one_program (TellsOutcome budget) (each_outcome budget) bytes
replied command.Verify bytes = of_text bytes (text_answered bytes)
replied (command.Gen size) bytes = program_replied one_program (TellsCounts most_steps) (each_counts most_steps) bytes
replied command.Link bytes = program_replied separate_units (TellsTerm false) (each_term false) bytes

-- a command has exactly one reply to each string of bytes
pub each_replied : EachReplied
each_replied c bytes = let r = replied c bytes in (r.0, record { replies = r.1; only = λ other p. one_reply c bytes r.0 other r.1 p })
