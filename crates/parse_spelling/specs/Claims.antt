-- The theorems.
use Rattle.std.specs.Prelude.{◌≡◌, ◌≤◌, ◌^◌, ℕ, List, [], false, Some}
use Rattle.omega_kinds.specs.declared.effect.Effect.{Effect}
use Rattle.omega_types.specs.Ty.{Ty}
use Rattle.omega_types.specs.Height.{height}
use Rattle.omega_terms.specs.declared.version.Version.{Version}
use Rattle.omega_terms.specs.declared.version.Version.TheVariants.{Second}
use Rattle.omega_terms.specs.Term.{Term}
use Rattle.omega_terms.specs.Height.{term_height}
use Rattle.omega_terms.specs.Typing.{HasType}
use Rattle.omega_terms.specs.InScope.{TyInScope, TermInScope}
use Rattle.omega_terms.specs.OmegaText.{version_text, omega_text}
use Rattle.omega_spelling.specs.Omega.{TextIn, OmegaText, omega_at}
use Rattle.omega_spelling.specs.Refusals.{is_too_deep}
use Rattle.omega_simplify_laws.specs.Simplified.{simplified}
use Rattle.sig_definitions.specs.Signatures.Sig.{Abs, made}
use Rattle.sig_definitions.specs.Signatures.Encoding.{enc_abs}
use Rattle.fing_lexer.specs.declared.token.Token.{Token}
use Rattle.fing_lexer.specs.Tokens.{TokensOf}
use Rattle.fing_syntax.specs.Phrase.{Binds as Program}
use Rattle.fing_syntax.specs.Units.{UnitTree}
use Rattle.parse_grammar.specs.Grammar.{Class, Binds, Units}
use Rattle.parse_grammar.specs.Meaning.{Value}
use Rattle.parse_grammar.specs.Tree.{Phrase}
use Rattle.elab_judgments.specs.Judgments.Program.{ProgramMeans}
use Rattle.elab_spelling.specs.Phrases.{BindsSpelled}
use Rattle.parse_spelling.specs.Tokens.{TokensSpelled, KeywordsSpelled}
use Rattle.parse_spelling.specs.Values.{ValueSpelled, UnitsSpelled}

-- the names, numbers and texts of the tokens of bytes have a spelling
abbrev pub TokensAreSpelled : Type 0
TokensAreSpelled = (bytes : List ℕ) (tokens : List Token) → TokensOf bytes tokens → TokensSpelled tokens

-- in the second version so have the phrases of all keywords
abbrev pub KeywordsAreSpelled : Type 0
KeywordsAreSpelled = (tokens : List Token) → KeywordsSpelled Second tokens

-- what a phrase of such tokens gives has names, numbers and texts that have one, in a version that has the phrases of its keywords
abbrev pub PhrasesAreSpelled : Type 0
PhrasesAreSpelled = (v : Version) (n : Class) (tokens : List Token) (x : Value n) → TokensSpelled tokens → KeywordsSpelled v tokens → Phrase n tokens x
    → ValueSpelled v n x

-- so has a program, and so have units
abbrev pub ProgramsAreSpelled : Type 0
ProgramsAreSpelled = (v : Version) (bytes : List ℕ) (tokens : List Token) (program : Program) → TokensOf bytes tokens → KeywordsSpelled v tokens
    → Phrase Binds tokens program → BindsSpelled v program

abbrev pub UnitsAreSpelled : Type 0
UnitsAreSpelled = (v : Version) (bytes : List ℕ) (tokens : List Token) (units : List UnitTree) → TokensOf bytes tokens → KeywordsSpelled v tokens
    → Phrase Units tokens units → UnitsSpelled v units

-- a program whose names, numbers and texts have a spelling in a version means a module of this signature, with this whole term
pub record Compiles (v : Version) (x : Abs) (whole : Term) : Type 0 where
  pub program : Program
  pub spelled : BindsSpelled v program
  pub effect : Effect
  pub types : List Ty
  pub term : Term
  pub derived : ProgramMeans program (made effect x types term) whole

-- a program's whole term is emitted as it is, or simplified
pub data Emits (whole : Term) : Term → Type 0 where
  as_it_is : Emits whole whole
  simpler : Emits whole (simplified whole)

-- what is emitted has the encoding of the signature as its type
abbrev pub EmittedAreTyped : Type 0
EmittedAreTyped = (v : Version) (x : Abs) (whole e : Term) → Compiles v x whole → Emits whole e → HasType [] [] e (enc_abs x)

-- both have their variables in scope where they are not too high
abbrev pub EmittedInScope : Type 0
EmittedInScope = (v : Version) (x : Abs) (whole e : Term) → Compiles v x whole → Emits whole e → height (enc_abs x) ≤ 2 ^ 64
    → term_height e ≤ 2 ^ 63 → TyInScope 0 (enc_abs x) × TermInScope 0 0 e

-- in scope they have a text in each version in which the program is spelled
abbrev pub EmittedHaveText : Type 0
EmittedHaveText = (v : Version) (x : Abs) (whole e : Term) → Compiles v x whole → Emits whole e → TyInScope 0 (enc_abs x) → TermInScope 0 0 e
    → TextIn v (version_text v (enc_abs x) e) (enc_abs x) e

-- which gives them again where no more than 4,000 parentheses are open
abbrev pub EmittedReadBack : Type 0
EmittedReadBack = (v : Version) (x : Abs) (whole e : Term) → Compiles v x whole → Emits whole e → TyInScope 0 (enc_abs x) → TermInScope 0 0 e
    → is_too_deep (version_text v (enc_abs x) e) ≡ false → omega_at (version_text v (enc_abs x) e) ≡ Some (enc_abs x, e)

-- from the bytes of a source to the text that is written: what is emitted for the program that the bytes spell has a text
abbrev pub SourcesHaveText : Type 0
SourcesHaveText = (bytes : List ℕ) (tokens : List Token) (program : Program) (f : Effect) (x : Abs) (ts : List Ty) (d whole e : Term)
    → TokensOf bytes tokens → Phrase Binds tokens program → ProgramMeans program (made f x ts d) whole → Emits whole e
    → height (enc_abs x) ≤ 2 ^ 64 → term_height e ≤ 2 ^ 63 → OmegaText (omega_text (enc_abs x) e) (enc_abs x) e
