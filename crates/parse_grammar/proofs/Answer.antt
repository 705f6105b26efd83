-- Each list of tokens is a phrase of a class from which a text starts, or has the number at which it goes wrong; never both.
-- Main results: one_answer.
use Rattle.std.proofs.Common.{◌≡◌, ℕ, List, [], ◌∷◌, length, le_refl, inl, inr, ◌⊎◌}
use Rattle.parse_grammar.specs.Grammar.{Class, phrase}
use Rattle.fing_lexer.specs.declared.token.Token.{Token}
use Rattle.parse_grammar.specs.Meaning.{Value, Values}
use Rattle.parse_grammar.specs.Tree.{Phrase}
use Rattle.parse_grammar.specs.Program.{Start, Refused}
use Rattle.parse_grammar.specs.Reading.{got, run, need}
use Rattle.parse_grammar.proofs.Ends.{Ends, ends}
use Rattle.parse_grammar.proofs.Laws.{stop_is_farthest, rest_is_farthest, end_is_phrase}

-- a list of tokens is a phrase of a class from which a text starts, or goes wrong at a token
pub one_answer : (n : Class) → Start n → (ts : List Token) → ((p : Value n) × Phrase n ts p) ⊎ Refused n ts
one_answer n st ts = go (ends f (phrase n ∷ []) ts (le_refl f))
  where
    f : ℕ
    f = need (phrase n ∷ []) (length ts)

    got_one : (vs : Values (phrase n ∷ [])) (rest : List Token) → run f (phrase n ∷ []) ts ≡ got vs rest → ((p : Value n) × Phrase n ts p) ⊎ Refused n ts
    got_one vs [] e = inl (vs.0, end_is_phrase f ts vs e)
    got_one vs (t ∷ rest) e = let r = rest_is_farthest f ts vs t rest st e in inr (record { at = r.0; farthest = r.2; none = r.3 })

    go : Ends f (phrase n ∷ []) ts → ((p : Value n) × Phrase n ts p) ⊎ Refused n ts
    go (inl q) = got_one q.0 q.1 q.2
    go (inr q) = let r = stop_is_farthest f ts q.0 st q.1 in inr (record { at = r.0; farthest = r.2; none = r.3 })
