-- Reading phrases from the front of a list of tokens, with one token of look-ahead.
use Rattle.std.specs.Prelude.{ℕ, zero, suc, ◌+◌, ◌*◌, max, Bool, true, false, cond, eqb, List, [], ◌∷◌, length, Option, Some, None}
use Rattle.parse_grammar.specs.Grammar.{Terminal, kind_of, Class, Symbol, token, phrase, Rule, rhs}
use Rattle.fing_lexer.specs.declared.token.Token.{Token}
use Rattle.parse_grammar.specs.Meaning.{Value, Values, act}
use Rattle.parse_grammar.specs.Tables.{number_of, can_be_empty, rank, choose}

-- the trees and the tokens behind them, or the tokens from the first on that nothing can go on with
pub data Run (A : Type 0) : Type 0 where
  got : A → List Token → Run A
  stop : List Token → Run A
  spent : Run A

abbrev pub next : {A B : Type 0} → Run A → (A → List Token → Run B) → Run B
next (got a ts) f = f a ts
next (stop ts) f = stop ts
next spent f = spent

-- the next token as a number
abbrev pub ahead : List Token → ℕ
ahead [] = 0
ahead (t ∷ ts) = number_of (kind_of t)

abbrev pub by_token : {A : Type 0} → Bool → Run A → Token → List Token → Run (Token × A)
by_token true r t ts = next r (λ vs rest. got (t, vs) rest)
by_token false r t ts = stop (t ∷ ts)

abbrev pub by_rule : {n : Class} (ss : List Symbol) → ((ss : List Symbol) → List Token → Run (Values ss)) → Option (Rule n) → List Token → Run (Value n × Values ss)
by_rule ss go None ts = stop ts
by_rule ss go (Some r) ts = next (go (rhs r) ts) (λ ws mid. next (go ss mid) (λ vs rest. got (act r ws, vs) rest))

abbrev pub run : ℕ → (ss : List Symbol) → List Token → Run (Values ss)
run zero ss ts = spent
run (suc f) [] ts = got tt ts
run (suc f) (token k ∷ ss) [] = stop []
run (suc f) (token k ∷ ss) (t ∷ ts) = by_token (eqb (number_of (kind_of t)) (number_of k)) (run f ss ts) t ts
run (suc f) (phrase n ∷ ss) ts = by_rule ss (run f) (choose n (ahead ts)) ts

-- how many productions can be chosen one inside the other before a token is taken
abbrev pub lead : List Symbol → ℕ
lead [] = 0
lead (token t ∷ ss) = 0
lead (phrase n ∷ ss) = cond (can_be_empty n) (max (suc (rank n)) (lead ss)) (suc (rank n))

-- how deep a run can go
unfoldable pub need : List Symbol → ℕ → ℕ
need ss n = 100 * n + 12 * lead ss + length ss + 1

-- what is read from the front of the tokens
unfoldable pub reads : (ss : List Symbol) → List Token → Run (Values ss)
reads ss ts = run (need ss (length ts)) ss ts

-- one phrase of a class
unfoldable pub read_class : (n : Class) → List Token → Run (Value n)
read_class n ts = next (reads (phrase n ∷ []) ts) (λ vs rest. got vs.0 rest)

-- one token
abbrev pub read_token : Terminal → List Token → Run Token
read_token k [] = stop []
read_token k (t ∷ ts) = elim (eqb (number_of (kind_of t)) (number_of k)) [ true ↦ got t ts | false ↦ stop (t ∷ ts) ]

-- symbols in order
abbrev pub read_all : (ss : List Symbol) → List Token → Run (Values ss)
read_all [] ts = got tt ts
read_all (token k ∷ ss) ts = next (read_token k ts) (λ t mid. next (read_all ss mid) (λ vs rest. got (t, vs) rest))
read_all (phrase n ∷ ss) ts = next (read_class n ts) (λ v mid. next (read_all ss mid) (λ vs rest. got (v, vs) rest))

-- the production that the next token chooses
abbrev pub read_rule : {n : Class} → Option (Rule n) → List Token → Run (Value n)
read_rule None ts = stop ts
read_rule (Some r) ts = next (read_all (rhs r) ts) (λ ws rest. got (act r ws) rest)
