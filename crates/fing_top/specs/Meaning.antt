-- What bytes mean as a program, and why they mean nothing.
use Rattle.std.specs.Prelude.{◌≡◌, ℕ, List}
use Rattle.omega_kinds.specs.declared.effect.Effect.{Effect}
use Rattle.omega_types.specs.Ty.{Ty}
use Rattle.omega_terms.specs.Term.{Term}
use Rattle.sig_definitions.specs.Signatures.Sig.{Abs, Module, made}
use Rattle.sig_definitions.specs.Verdict.{Verdict}
use Rattle.fing_lexer.specs.declared.lexer.LexRefusal.{LexRefusal}
use Rattle.fing_lexer.specs.declared.token.Token.{Token}
use Rattle.fing_lexer.specs.Tokens.{TokensOf, RefusalOf}
use Rattle.fing_syntax.specs.Phrase.{Binds as Program}
use Rattle.parse_grammar.specs.Grammar.{Class, Binds, Units}
use Rattle.parse_grammar.specs.Meaning.{Value}
use Rattle.parse_grammar.specs.Program.{Farthest}
use Rattle.parse_grammar.specs.Tree.{Phrase}
use Rattle.refusal_reasons.specs.Refusal.{Refusal}
use Rattle.elab_judgments.specs.Judgments.Program.{ProgramMeans, ProgramRefused}
use Rattle.unit_laws.specs.Units.{program_of}

-- what the bytes of a source are: one program, or separate units
pub data Form : Type 0 where
  one_program : Form
  separate_units : Form

abbrev pub class_of : Form → Class
class_of one_program = Binds
class_of separate_units = Units

-- the program for which a tree stands: itself, or for units the program that binds the name of each to its body, sealed by
-- its signature
abbrev pub stands_for : (form : Form) → Value (class_of form) → Program
stands_for one_program program = program
stands_for separate_units units = program_of units

-- the bytes spell the program: their one list of tokens is a phrase of the grammar whose tree stands for it
pub record Spells (form : Form) (bytes : List ℕ) (program : Program) : Type 0 where
  pub tokens : List Token
  pub lexed : TokensOf bytes tokens
  pub tree : Value (class_of form)
  pub phrase : Phrase (class_of form) tokens tree
  pub stands : stands_for form tree ≡ program

-- a program, its effect, its signature, the types that it hides, its term, and the whole term, into which they are packed
pub record Meaning : Type 0 where
  pub program : Program
  pub effect : Effect
  pub sig : Abs
  pub types : List Ty
  pub term : Term
  pub whole : Term

abbrev pub module_of : Meaning → Module
module_of m = made m.effect m.sig m.types m.term

-- the bytes spell the program, and the rules derive the rest for it
pub record BytesMean (form : Form) (bytes : List ℕ) (m : Meaning) : Type 0 where
  pub spelled : Spells form bytes m.program
  pub derived : ProgramMeans m.program (module_of m) m.whole

-- why bytes mean nothing: the first place that is refused, which has no token, or one that is too large or too deep; or the
-- length of the longest prefix of the tokens with which some text of the form begins; or the refusal of a program, with its
-- place, the number of type variables in scope there, and its reason
pub data BytesRefusal : Type 0 where
  lexical : LexRefusal → BytesRefusal
  syntactic : ℕ → BytesRefusal
  of_program : Refusal → BytesRefusal

-- the bytes have no list of tokens; or they have one that is no phrase of the form, and this is the length of its longest
-- prefix with which some phrase begins; or they spell a program that the rules refuse. For example, as one program
-- `val x = "` is refused with `lexical (BadText 8)`, `val x =` with `syntactic 3`, and `val x = y` with `of_program` and the
-- reason `Unbound y`; the bytes `val x = 1` have a meaning. As separate units the last two are refused with `syntactic 0`
pub data BytesRefused (form : Form) (bytes : List ℕ) : BytesRefusal → Type 0 where
  no_tokens : {why : LexRefusal} → RefusalOf bytes why → BytesRefused form bytes (BytesRefusal.lexical why)
  no_phrase : {tokens : List Token} {at : ℕ}
      → TokensOf bytes tokens
      → Farthest (class_of form) tokens at
      → ((tree : Value (class_of form)) → Phrase (class_of form) tokens tree → ⊥)
      → BytesRefused form bytes (BytesRefusal.syntactic at)
  no_meaning : {program : Program} {r : Refusal} → Spells form bytes program → ProgramRefused program r → BytesRefused form bytes (BytesRefusal.of_program r)

-- in each form each string of bytes has one meaning and no refusal, or one refusal and no meaning
abbrev pub MeanOrRefused : Type 0
MeanOrRefused = (form : Form) (bytes : List ℕ) → Verdict (BytesMean form bytes) (BytesRefused form bytes)
