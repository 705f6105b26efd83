-- What the code makes of a source, and why it refuses one.
use Rattle.std.specs.Prelude.{◌≡◌, ℕ, Bool, List, Ok, Err, Result}
use Rattle.omega_types.specs.Ty.{Ty}
use Rattle.omega_terms.specs.Term.{Term}
use Rattle.omega_checker.specs.Judgment.{Judgment}
use Rattle.sig_definitions.specs.Signatures.Encoding.{enc_abs}
use Rattle.fing_syntax.specs.Phrase.{Binds as Program}
use Rattle.fing_top.specs.Counts.{bind_count}
use Rattle.fing_top.specs.Refusing.{refusal_line, HasLine}
use Rattle.fing_top.specs.Meaning.{Form, one_program, Meaning, BytesMean}
use Rattle.fing_words.specs.declared.command_line.CommandLine.{CommandLine}
use Rattle.fing_top.specs.Reply.{emitted, omega_reply, refused, Refuses, Replies}
use Rattle.fing_top.specs.declared.compiling.Compiled.{Compiled}
use Rattle.fing_top.specs.declared.refusing.Refused.{Refused}

-- the meaning of a program of which the code has the effect, the signature and the whole term
abbrev pub meaning_of : Compiled → Program → List Ty → Term → Meaning
meaning_of c program types term = record { program = program; effect = c.effect; sig = c.sig; types = types; term = term; whole = c.checked.term }

-- the bytes mean a program of so many bindings, of this effect, this signature and this whole term
pub record IsCompiled (bytes : List ℕ) (c : Compiled) : Type 0 where
  pub program : Program
  pub types : List Ty
  pub term : Term
  pub means : BytesMean one_program bytes (meaning_of c program types term)
  pub bindings : c.bindings ≡ bind_count program
  pub ty : c.checked.ty ≡ enc_abs c.sig

-- a refusal that has a line is the one of the bytes in this form
abbrev pub IsRefused : Form → (bytes : List ℕ) → Refused → Type 0
IsRefused form bytes why = HasLine why → Refuses form bytes (refusal_line why)

-- the bytes mean something, and the checker confirmed its whole term, or the simplified one, at its encoded signature
pub record IsConfirmed (form : Form) (simplify : Bool) (bytes : List ℕ) (j : Judgment) : Type 0 where
  pub meaning : Meaning
  pub means : BytesMean form bytes meaning
  pub term : j.term ≡ emitted simplify meaning.whole
  pub ty : j.ty ≡ enc_abs meaning.sig

-- a term and a type that were confirmed are the reply as Omega text, and so is the line of a refusal
abbrev pub IsEmission : CommandLine → (bytes : List ℕ) → Result Judgment Refused → Type 0
IsEmission c bytes (Ok j) = Replies c bytes (omega_reply j.ty j.term)
IsEmission c bytes (Err why) = HasLine why → Replies c bytes (refused (refusal_line why))
