-- What a verdict says of a source, by the definitions of tokens, of programs and of what programs mean.
use Rattle.std.specs.Prelude.{◌≡◌, ℕ, List, Some}
use Rattle.fing_lexer.specs.declared.lexer.LexRefusal.{LexRefusal}
use Rattle.fing_lexer.specs.declared.token.Token.{Token}
use Rattle.fing_lexer.specs.Tokens.{TokensOf, RefusalOf}
use Rattle.fing_syntax.specs.Phrase.{Binds as Program}
use Rattle.parse_grammar.specs.Grammar as the
use Rattle.parse_grammar.specs.Program.{Farthest}
use Rattle.parse_grammar.specs.Tree.{Phrase}
use Rattle.refusal_reasons.specs.Refusal.{Refusal}
use Rattle.fing_refusals.specs.Inner.Plain.{plain_refusal}
use Rattle.fing_refusals.specs.declared.refusal.Refusal.{Refusal as CodeRefusal}
use Rattle.fing_elab.specs.Inner.Exactly.{Means, IsRefused}
use Rattle.fing_elab.specs.declared.whole.Elaborated.{Elaborated}
use Rattle.fing_show.specs.declared.showing.Verdict.{Verdict}
use Rattle.fing_show.specs.declared.showing.Verdict.TheVariants as verdict

-- a program is accepted exactly where it means something, and a refusal has the place of its one refusal
pub data JudgesProgram (program : Program) : Verdict → Type 0 where
  meant : {o : Elaborated} → Means program o → JudgesProgram program verdict.Accepted
  refused : (e : CodeRefusal) → {r : Refusal} → plain_refusal e ≡ Some r → IsRefused program r → JudgesProgram program (verdict.NoMeaning e.at)

-- tokens are judged as the program that they are, or they are no program, and this many begin one
pub data JudgesTokens (tokens : List Token) : Verdict → Type 0 where
  parsed : {program : Program} {v : Verdict} → Phrase the.Binds tokens program → JudgesProgram program v → JudgesTokens tokens v
  unparsed : {at : ℕ} → Farthest the.Binds tokens at → ((program : Program) → Phrase the.Binds tokens program → ⊥) → JudgesTokens tokens (verdict.NoProgram at)

-- bytes are judged as their tokens, or they have none, for this reason
pub data Judges (bytes : List ℕ) : Verdict → Type 0 where
  lexed : {tokens : List Token} {v : Verdict} → TokensOf bytes tokens → JudgesTokens tokens v → Judges bytes v
  unlexed : {why : LexRefusal} → RefusalOf bytes why → Judges bytes (verdict.NoTokens why)

-- a refusal of the code that is not out of memory is reported with its place
pub data IsReported (e : CodeRefusal) : Verdict → Type 0 where
  reported : {r : Refusal} → plain_refusal e ≡ Some r → IsReported e (verdict.NoMeaning e.at)
