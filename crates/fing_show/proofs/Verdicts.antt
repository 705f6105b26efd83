-- From what tokens, a parse and an elaboration say to the verdict.
-- Main results: no-program, no-meaning, reported.
use Rattle.std.proofs.Common.{◌≡◌, ◌⊎◌, inl, inr, ℕ, ◌+◌, ◌≤◌, List, [], ◌∷◌, length, Some, arith, refl, ap, subst}
use Rattle.std.specs.Prelude.{MatchOption}
use Rattle.fing_lexer.specs.declared.lexer.LexRefusal.{LexRefusal}
use Rattle.fing_lexer.specs.declared.lexer.LexRefusal.TheVariants as lex
use Rattle.fing_lexer.specs.declared.token.Token.{Token}
use Rattle.fing_lexer.specs.Tokens.{TokensOf, RefusalOf, Sliced}
use Rattle.fing_lexer.proofs.Slices.{sliced}
use Rattle.parse_grammar.specs.Grammar as the
use Rattle.parse_grammar.specs.Inner.Refusal.{Refuses}
use Rattle.parse_grammar.specs.declared.refusal.ParseRefusal.TheVariants as parse
use Rattle.fing_syntax.specs.Inner.Leaves.{place}
use Rattle.fing_syntax.specs.Phrase.{Binds as Program}
use Rattle.refusal_reasons.specs.Refusal.{ElabWhy, Refuse}
use Rattle.fing_refusals.specs.Inner.Plain.{Says, plain_reason, refused, want_of_memory}
use Rattle.fing_refusals.specs.declared.refusal.ElabWhy.{ElabWhy as CodeElabWhy}
use Rattle.fing_refusals.specs.declared.refusal.ElabWhy.TheVariants as reason
use Rattle.fing_refusals.specs.declared.refusal.Refusal.{Refusal as CodeRefusal}
use Rattle.fing_elab.specs.Inner.Exactly.{IsRefused}
use Rattle.fing_show.specs.Inner.Judged.{IsReported, Judges, JudgesProgram, JudgesTokens}
use Rattle.fing_show.specs.declared.showing.Verdict.{Verdict}
use Rattle.fing_show.specs.declared.showing.Verdict.TheVariants as verdict

-- bytes have no more tokens than bytes
few-sliced : (bytes : List ℕ) (at : ℕ) (ts : List Token) → at ≤ length bytes → Sliced bytes at ts → at + length ts ≤ length bytes
few-sliced bytes at [] h s = omega (arith, h)
few-sliced bytes at (t ∷ ts) h s = omega (arith, s.0, s.1, few-sliced bytes t.span.to ts s.2 s.4)

-- bytes within the limit have few enough tokens
pub few-tokens : (bytes : List ℕ) (ts : List Token) → length bytes ≤ 1048576 → TokensOf bytes ts → length ts ≤ 1048576
few-tokens bytes ts h t = omega (arith, h, few-sliced bytes 0 ts (omega arith) (sliced bytes ts t))

-- tokens that are no program are judged so
pub no-program : (tokens : List Token) (at : ℕ) → Refuses the.Binds tokens (parse.Syntax at) → JudgesTokens tokens (verdict.NoProgram at)
no-program tokens at r = JudgesTokens.unparsed r.0 r.1

-- a refusal of a program is its one refusal
pub no-meaning : (program : Program) (e : CodeRefusal) (v : Verdict) → Says e (IsRefused program) → IsReported e v → JudgesProgram program v
no-meaning program e _ s (IsReported.reported {r = r} p) = JudgesProgram.refused e p (subst (λ o. MatchOption o (e ≡ want_of_memory) (IsRefused program)) p s)

-- a reason that is not out of memory has a plain one
reasoned : (why : CodeElabWhy) → (why ≡ reason.Mem → ⊥) → (r : ElabWhy) × (plain_reason why ≡ Some r)
reasoned (reason.Unbound name) h = (_, refl)
reasoned reason.NotStructure h = (_, refl)
reasoned (reason.NoPart name) h = (_, refl)
reasoned reason.NotFunctor h = (_, refl)
reasoned reason.WrongPath h = (_, refl)
reasoned reason.Escapes h = (_, refl)
reasoned (reason.NoRoot number path) h = (_, refl)
reasoned (reason.Clash path why) h = (_, refl)
reasoned (reason.NotArrow t) h = (_, refl)
reasoned (reason.NotAll t) h = (_, refl)
reasoned (reason.NotRecord t) h = (_, refl)
reasoned (reason.NoField name) h = (_, refl)
reasoned (reason.NotSum t) h = (_, refl)
reasoned (reason.NotData t) h = (_, refl)
reasoned (reason.NoBranch name) h = (_, refl)
reasoned (reason.Differ t u) h = (_, refl)
reasoned (reason.KindDiffer k j) h = (_, refl)
reasoned reason.NotOperator h = (_, refl)
reasoned (reason.DuplicateField name) h = (_, refl)
reasoned (reason.Duplicate name) h = (_, refl)
reasoned (reason.NotAbstract path) h = (_, refl)
reasoned reason.Mem h = absurd (h refl)

-- a refusal that is not out of memory is reported with its place
pub reported : (e : CodeRefusal) → (e.why ≡ reason.Mem → ⊥) → IsReported e (verdict.NoMeaning e.at)
reported e h = let q = reasoned e.why h in IsReported.reported {r = Refuse (place e.at) e.types q.0} (ap (refused (place e.at) e.types) q.1)

-- bytes that have no tokens are judged so, with the reason
pub no-tokens : (bytes : List ℕ) (why : LexRefusal) → (why ≡ lex.Mem → ⊥) → (why ≡ lex.Mem) ⊎ RefusalOf bytes why → Judges bytes (verdict.NoTokens why)
no-tokens bytes why h (inl e) = absurd (h e)
no-tokens bytes why h (inr r) = Judges.unlexed r
