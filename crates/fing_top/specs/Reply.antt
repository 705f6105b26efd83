-- The one reply to a command and the bytes of a source.
use Rattle.std.specs.Prelude.{◌≡◌, ℕ, List, [], codes, Bool, true, false, Option, Some, None}
use Rattle.omega_types.specs.Ty.{Ty}
use Rattle.omega_terms.specs.Term.{Term}
use Rattle.omega_terms.specs.OmegaText.{omega_text}
use Rattle.omega_terms.specs.Steps.{Fault, End, Result, Outcome}
use Rattle.omega_terms.specs.Typing.{HasType}
use Rattle.omega_spelling.specs.Omega.{OmegaText}
use Rattle.omega_spelling.specs.Refusals.{is_too_deep}
use Rattle.omega_spelling.specs.Refused.{Refused, IsVersion, IsTooDeep, IsWide, IsNotOmega, Refuses as TextRefuses}
use Rattle.sig_definitions.specs.Signatures.Encoding.{enc_abs}
use Rattle.omega_checker.specs.Judgment.{Judgment}
use Rattle.omega_terms.specs.ValueText.{value_text}
use Rattle.sig_text.specs.SigText.{elab_text}
use Rattle.fing_refusals.specs.Line.{line}
use Rattle.omega_simplify_laws.specs.Simplified.{simplified}
use Rattle.fing_words.specs.declared.command_line.CommandLine.{CommandLine}
use Rattle.fing_words.specs.declared.command_line.CommandLine.TheVariants as command
use Rattle.fing_top.specs.Counts.{most_steps, bind_count, node_count, counts_line}
use Rattle.fing_top.specs.Meaning.{Form, one_program, separate_units, Meaning, BytesMean, BytesRefusal, BytesRefused}
use Rattle.fing_top.specs.Refusing.{lexical_line, syntax_line, numbered}
use Rattle.fing_top.specs.declared.status.Status.{Status}
use Rattle.fing_top.specs.declared.status.Status.TheVariants as status

-- a status, the text that is written, and the term and the type that the checker confirms for it
pub record Reply : Type 0 where
  pub status : Status
  pub text : List ℕ
  pub confirmed : Option Judgment

-- a reply that confirms a term and its type
abbrev pub answered : Status → Ty → Term → List ℕ → Reply
answered s t e text = record { status = s; text = text; confirmed = Some (record { term = e; ty = t }) }

abbrev pub accepted : Ty → Term → List ℕ → Reply
accepted = answered status.Ok

abbrev pub refused : List ℕ → Reply
refused line = record { status = status.Refused; text = line; confirmed = None }

-- a status and a text that are told of the whole term of a meaning, whose type is the encoded signature
abbrev pub reply_of : Meaning → Status → List ℕ → Reply
reply_of m s text = answered s (enc_abs m.sig) m.whole text

-- the reply of a program with its meaning
abbrev pub Telling : Type 1
Telling = Meaning → Reply → Type 0

-- `check`: the effect and the signature
abbrev pub TellsSignature : Telling
TellsSignature m reply = reply ≡ reply_of m status.Ok (elab_text m.effect m.sig)

-- a term and its type as Omega text, which are what is confirmed
abbrev pub omega_reply : Ty → Term → Reply
omega_reply t e = accepted t e (omega_text t e)

-- the term that is emitted for the whole term: itself, or the simplified one
abbrev pub emitted : Bool → Term → Term
emitted false e = e
emitted true e = simplified e

-- `emit` and `link`: the encoded signature and the whole term as Omega text; with `--simplify` the simplified term
abbrev pub TellsTerm : (simplify : Bool) → Telling
TellsTerm simplify m reply = reply ≡ omega_reply (enc_abs m.sig) (emitted simplify m.whole)

abbrev pub fault_line : Fault → List ℕ
fault_line Fault.Overflow = codes "fault Overflow\n"
fault_line Fault.DivideByZero = codes "fault DivideByZero\n"

-- `run`: the outcome of the whole term within the budget of steps
pub data TellsOutcome (budget : ℕ) (m : Meaning) : Reply → Type 0 where
  value : {v : Term} {steps : ℕ} → Outcome m.whole budget (Result.ended (End.the_value v) steps) → TellsOutcome budget m (reply_of m status.Ok (value_text v))
  fault : {why : Fault} {steps : ℕ} → Outcome m.whole budget (Result.ended (End.the_fault why) steps) → TellsOutcome budget m (reply_of m status.Faulted (fault_line why))
  spent : Outcome m.whole budget Result.spent → TellsOutcome budget m (reply_of m status.Spent (numbered (codes "spent ") budget))

-- `gen`: the numbers of bindings, of nodes of the whole term and of steps to its value; where it comes to none within the
-- budget, what `run` tells
pub data TellsCounts (budget : ℕ) (m : Meaning) : Reply → Type 0 where
  counts : {v : Term} {steps : ℕ} → Outcome m.whole budget (Result.ended (End.the_value v) steps) → TellsCounts budget m (reply_of m status.Ok (counts_line (bind_count m.program) (node_count m.whole) steps))
  no_value : {reply : Reply} → TellsOutcome budget m reply → (reply.status ≡ status.Ok → ⊥) → TellsCounts budget m reply

-- the line of a refusal
abbrev pub refusal_text : BytesRefusal → List ℕ
refusal_text (BytesRefusal.lexical why) = lexical_line why
refusal_text (BytesRefusal.syntactic at) = syntax_line at
refusal_text (BytesRefusal.of_program r) = line r

-- the bytes are refused with this line
abbrev pub Refuses : Form → List ℕ → List ℕ → Type 0
Refuses form bytes text = (why : BytesRefusal) × BytesRefused form bytes why × (text ≡ refusal_text why)

-- all commands but `verify`: what is told of the meaning of the bytes, or the line that refuses them
pub data ProgramReplies (form : Form) (Tells : Telling) (bytes : List ℕ) : Reply → Type 0 where
  meant : {m : Meaning} {reply : Reply} → BytesMean form bytes m → Tells m reply → ProgramReplies form Tells bytes reply
  refuses : {text : List ℕ} → Refuses form bytes text → ProgramReplies form Tells bytes (refused text)

-- the line of bytes that are no text, or that have too many parentheses open
abbrev pub text_line : Refused → List ℕ
text_line IsVersion = codes "refused Version\n"
text_line IsTooDeep = codes "refused TooDeep\n"
text_line IsWide = codes "refused Wide\n"
text_line IsNotOmega = codes "refused NotOmega\n"

-- `verify`: whether the text's term has the text's type by the typing rules, or the first refusal of the text
pub data VerifyReplies (bytes : List ℕ) : Reply → Type 0 where
  well_typed : {t : Ty} {e : Term} → OmegaText bytes t e → is_too_deep bytes ≡ false → HasType [] [] e t → VerifyReplies bytes (accepted t e (codes "well typed\n"))
  ill_typed : {t : Ty} {e : Term} → OmegaText bytes t e → is_too_deep bytes ≡ false → (HasType [] [] e t → ⊥) → VerifyReplies bytes (refused (codes "refused IllTyped\n"))
  no_text : (why : Refused) → TextRefuses bytes why → VerifyReplies bytes (refused (text_line why))

-- what a command answers and writes for its bytes
abbrev pub Replies : CommandLine → List ℕ → Reply → Type 0
Replies command.Check = ProgramReplies one_program TellsSignature
Replies (command.Emit simplify) = ProgramReplies one_program (TellsTerm simplify)
Replies (command.Run budget) = ProgramReplies one_program (TellsOutcome budget)
Replies command.Verify = VerifyReplies
Replies (command.Gen size) = ProgramReplies one_program (TellsCounts most_steps)
Replies command.Link = ProgramReplies separate_units (TellsTerm false)

-- it is the reply, and there is no other
pub record IsOnlyReply (c : CommandLine) (bytes : List ℕ) (reply : Reply) : Type 0 where
  pub replies : Replies c bytes reply
  pub only : (other : Reply) → Replies c bytes other → other ≡ reply

-- a command has at most one reply to bytes
abbrev pub OneReply : Type 0
OneReply = (c : CommandLine) (bytes : List ℕ) (reply other : Reply) → Replies c bytes reply → Replies c bytes other → other ≡ reply

-- a command has one reply to each string of bytes
abbrev pub EachReplied : Type 0
EachReplied = (c : CommandLine) (bytes : List ℕ) → (reply : Reply) × IsOnlyReply c bytes reply
