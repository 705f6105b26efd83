-- What is known of a page: it begins with the title of the one refusal or the effect of a program, or is an Omega text.
use Rattle.std.specs.Prelude.{◌≡◌, ◌++◌, ℕ, List, [], Option, Some, None, codes}
use Rattle.fing_lexer.specs.declared.lexer.LexRefusal.{LexRefusal}
use Rattle.fing_lexer.specs.declared.lexer.LexRefusal.TheVariants as lex
use Rattle.fing_lexer.specs.declared.token.Token.{Token}
use Rattle.fing_lexer.specs.Tokens.{TokensOf}
use Rattle.fing_syntax.specs.Phrase.{Binds as Program}
use Rattle.parse_grammar.specs.Grammar as the
use Rattle.parse_grammar.specs.Tree.{Phrase}
use Rattle.omega_kinds.specs.declared.effect.Effect.{Effect}
use Rattle.omega_kinds.specs.declared.effect.Effect.TheVariants.{Pure, Impure}
use Rattle.sig_definitions.specs.Matching.MatchRefusal.{Why}
use Rattle.omega_compact.specs.Spelling.{compacted}
use Rattle.omega_terms.specs.OmegaText.{omega_text}
use Rattle.sig_definitions.specs.Signatures.Encoding.{enc_abs}
use Rattle.refusal_reasons.specs.Refusal.{ElabWhy, Refusal, Refuse}
use Rattle.fing_refusals.specs.Inner.Plain.{plain_refusal}
use Rattle.fing_refusals.specs.declared.refusal.Refusal.{Refusal as CodeRefusal}
use Rattle.fing_elab.specs.Inner.Exactly.{Means, IsRefused}
use Rattle.fing_elab.specs.declared.whole.Elaborated.{Elaborated}
use Rattle.fing_show.specs.declared.showing.Verdict.{Verdict}
use Rattle.fing_show.specs.declared.showing.Verdict.TheVariants as verdict
use Rattle.fing_show.specs.declared.view.View.{View}
use Rattle.fing_show.specs.declared.view.View.TheVariants as view

-- the page has these bytes first
abbrev pub Begins : (head page : List ℕ) → Type 0
Begins head page = (rest : List ℕ) × (page ≡ head ++ rest)

-- ---- titles of refusals

abbrev pub clash_title : Why → List ℕ
clash_title Why.Missing = codes "a component is missing"
clash_title (Why.Types t u) = codes "the types of a component differ"
clash_title Why.Form = codes "a component is of another sort"
clash_title Why.Effects = codes "a generative functor"

abbrev pub title : ElabWhy → List ℕ
title (ElabWhy.Unbound name) = codes "unbound name"
title ElabWhy.NotStructure = codes "not a structure"
title (ElabWhy.NoPart name) = codes "no such component"
title ElabWhy.NotFunctor = codes "not a functor"
title ElabWhy.WrongPath = codes "wrong sort of name"
title ElabWhy.Escapes = codes "a hidden type escapes"
title (ElabWhy.NoRoot number path) = codes "a type is missing"
title (ElabWhy.Clash path why) = clash_title why
title (ElabWhy.NotArrow t) = codes "not a function"
title (ElabWhy.NotAll t) = codes "not polymorphic"
title (ElabWhy.NotRecord t) = codes "not a record"
title (ElabWhy.NotSum t) = codes "not a sum"
title (ElabWhy.NotData t) = codes "not a recursive type"
title (ElabWhy.NoField name) = codes "no such field or label"
title (ElabWhy.NoBranch name) = codes "a label without a branch"
title (ElabWhy.Differ t u) = codes "types differ"
title (ElabWhy.KindDiffer k j) = codes "kinds differ"
title ElabWhy.NotOperator = codes "not a type constructor"
title (ElabWhy.DuplicateField name) = codes "a field or label twice"
title (ElabWhy.Duplicate name) = codes "a name twice"
title (ElabWhy.NotAbstract path) = codes "not an abstract type"

-- the title of a reason of the code: of its plain one, or of no memory
abbrev pub title_of_reason : Option ElabWhy → List ℕ
title_of_reason (Some why) = title why
title_of_reason None = codes "out of memory"

abbrev pub title_of_refusal : Refusal → List ℕ
title_of_refusal (Refuse at n why) = title why

abbrev pub lexical_title : LexRefusal → List ℕ
lexical_title (lex.BadByte at) = codes "no token"
lexical_title (lex.BadText at) = codes "no string"
lexical_title (lex.Wide at) = codes "a number too large"
lexical_title (lex.TooDeep at) = codes "nested too deeply"
lexical_title lex.Mem = codes "out of memory"

-- ---- heads

-- the first line of the page of a refusal
abbrev pub refused_head : (title : List ℕ) → List ℕ
refused_head words = codes "error: " ++ (words ++ codes "\n")

-- the effect of a program in the syntax of a source, as text in the notation of the literature, and in LaTeX
abbrev pub source_head : Effect → List ℕ
source_head Pure = codes "pure\n"
source_head Impure = codes "impure\n"

abbrev pub paper_head : Effect → List ℕ
paper_head Pure = codes "P "
paper_head Impure = codes "I "

abbrev pub latex_head : Effect → List ℕ
latex_head Pure = codes "\\begin{array}{l}\n\\mathsf{P}\\ "
latex_head Impure = codes "\\begin{array}{l}\n\\mathsf{I}\\ "

-- what the page of an accepted program begins with: its effect, in the views of signatures
abbrev pub accepted_head : View → Effect → List ℕ
accepted_head view.Source effect = source_head effect
accepted_head view.Paper effect = paper_head effect
accepted_head view.Latex effect = latex_head effect
accepted_head _ effect = []

-- the page is of this meaning: it begins with the effect, or is made compact to the Omega text of its type and its term
abbrev pub ShowsMeaning : View → Elaborated → (page : List ℕ) → Type 0
ShowsMeaning view.TermOmega o page = compacted page ≡ compacted (omega_text (enc_abs o.sig) o.whole)
ShowsMeaning v o page = Begins (accepted_head v o.effect) page

-- ---- pages of sources

-- the page is that of the program's own meaning, or of its one refusal
pub data ShowsProgram (program : Program) (v : View) : Verdict → (page : List ℕ) → Type 0 where
  meant : {o : Elaborated} {page : List ℕ} → Means program o → ShowsMeaning v o page → ShowsProgram program v verdict.Accepted page
  refused : (e : CodeRefusal) → {r : Refusal} {page : List ℕ} → plain_refusal e ≡ Some r → IsRefused program r → Begins (refused_head (title_of_refusal r)) page
      → ShowsProgram program v (verdict.NoMeaning e.at) page

pub data ShowsTokens (tokens : List Token) (v : View) : Verdict → (page : List ℕ) → Type 0 where
  parsed : {program : Program} {w : Verdict} {page : List ℕ} → Phrase the.Binds tokens program → ShowsProgram program v w page → ShowsTokens tokens v w page
  unparsed : {at : ℕ} {page : List ℕ} → Begins (refused_head (codes "syntax")) page → ShowsTokens tokens v (verdict.NoProgram at) page

pub data Shows (bytes : List ℕ) (v : View) : Verdict → (page : List ℕ) → Type 0 where
  lexed : {tokens : List Token} {w : Verdict} {page : List ℕ} → TokensOf bytes tokens → ShowsTokens tokens v w page → Shows bytes v w page
  unlexed : {why : LexRefusal} {page : List ℕ} → Begins (refused_head (lexical_title why)) page → Shows bytes v (verdict.NoTokens why) page
