-- What `emit` and `link` write, as a source of `verify`.
use Rattle.std.specs.Prelude.{◌≡◌, ◌⊎◌, ◌≤◌, ◌^◌, ℕ, List, codes, Bool, false, Option, Some, None, Ok, Err, Result}
use Rattle.fing_text.specs.Writes.{Grew}
use Rattle.omega_types.specs.Ty.{Ty}
use Rattle.omega_types.specs.Height.{height}
use Rattle.omega_terms.specs.Term.{Term}
use Rattle.omega_terms.specs.Height.{term_height}
use Rattle.omega_spelling.specs.Omega.{OmegaText}
use Rattle.omega_spelling.specs.Refusals.{is_too_deep}
use Rattle.omega_read.specs.ReadAs.{ReadAs}
use Rattle.omega_read.specs.declared.whole.ReadRefusal.{ReadRefusal}
use Rattle.omega_read.specs.declared.whole.ReadRefusal.TheVariants as read
use Rattle.omega_checker.specs.Judgment.{Judgment}
use Rattle.fing_words.specs.CommandLines.{IsCommandLine}
use Rattle.fing_words.specs.declared.command_line.CommandLine.{CommandLine}
use Rattle.fing_words.specs.declared.command_line.CommandLine.TheVariants as command
use Rattle.fing_top.specs.declared.status.Status.{Status}
use Rattle.fing_top.specs.declared.status.Status.TheVariants as status
use Rattle.fing_top.specs.Reply.{accepted, Replies}
use Rattle.fing_top.specs.Answer.{Output}

-- each answer that `read` may give for the text is this type and this term, or out of memory
abbrev pub ReadsBack : List ℕ → Ty → Term → Type 0
ReadsBack text t e = (answer : Result (Ty × Term) ReadRefusal) → ReadAs text answer → (answer ≡ Ok (t, e)) ⊎ (answer ≡ Err read.Mem)

-- the text is one of the type and the term, `read` answers both for it, and `verify` finds both in it, and that the term has
-- the type
pub record IsVerified (text : List ℕ) (t : Ty) (e : Term) : Type 0 where
  pub spelled : OmegaText text t e
  pub read : ReadsBack text t e
  pub verified : Replies command.Verify text (accepted t e (codes "well typed\n"))

-- a text is verified in which no more than 4,000 parentheses are open; and however many are open, it is one of the type and the
-- term, as long as these are not so high that a level of a variable could be 2^64
pub record IsEmitted (text : List ℕ) (t : Ty) (e : Term) : Type 0 where
  pub verified : is_too_deep text ≡ false → IsVerified text t e
  pub spelled : height t ≤ 2 ^ 64 → term_height e ≤ 2 ^ 63 → OmegaText text t e

-- so is each text that the command writes, with the type and the term that are confirmed for it
abbrev pub WritesVerified : CommandLine → Type 0
WritesVerified c = (bytes text : List ℕ) (t : Ty) (e : Term) → Replies c bytes (accepted t e text) → IsEmitted text t e

-- for example, `emit` writes for `val x = 1` a text to which `verify` answers `well typed`
abbrev pub EmittedIsVerified : Type 0
EmittedIsVerified = ((simplify : Bool) → WritesVerified (command.Emit simplify)) × WritesVerified command.Link

-- no tree of the code is higher
abbrev pub IsLow : Option Judgment → Type 0
IsLow None = Unit {0}
IsLow (Some j) = (height j.ty ≤ 8192) × (term_height j.term ≤ 8192)

-- a term and its type were handed out, and the sink took a text of both, which is verified where no more than 4,000
-- parentheses are open in it
pub record HandsOutText (out : Output) : Type 0 where
  pub judgment : Judgment
  pub confirmed : out.confirmed.new ≡ Some judgment
  pub text : List ℕ
  pub written : Grew out.sink.old out.sink.new text
  pub spelled : OmegaText text judgment.ty judgment.term
  pub verified : is_too_deep text ≡ false → IsVerified text judgment.ty judgment.term

-- the commands that write Omega text
abbrev pub WritesText : CommandLine → Type 0
WritesText (command.Emit simplify) = Unit {0}
WritesText command.Link = Unit {0}
WritesText _ = ⊥

-- so it is where the words are the command line of `emit` or `link`, and the answer is `Ok`
abbrev pub HandsOut : List (List ℕ) → Output → Status → Type 0
HandsOut words out answer = (c : CommandLine) → IsCommandLine words c → WritesText c → answer ≡ status.Ok → HandsOutText out
