-- Moves played from the last to the first: a token is put on the stack, and a production takes its parts off
-- and puts what it gives in their place.
use Rattle.std.specs.Prelude.{List, [], ◌∷◌, Option, None, Some, option_map}
use Rattle.parse_grammar.specs.Grammar.{Class, Symbol, token, phrase, Rule, rhs}
use Rattle.parse_grammar.specs.Meaning.{Value, Values, act}
use Rattle.parse_grammar.specs.Inner.Moves.{Move, shift, by}
use Rattle.parse_grammar.specs.Inner.View.{Any, any}
use Rattle.parse_stack.specs.Inner.Item.{Item, TokenItem, item, as_token, as_value}

abbrev pub and_then : {A B : Type 0} → Option A → (A → Option B) → Option B
and_then None f = None
and_then (Some x) f = f x

-- the top item
abbrev pub uncons : List Item → Option (Item × List Item)
uncons [] = None
uncons (i ∷ is) = Some (i, is)

-- the top item as something, and the items below it
abbrev pub top : {A : Type 0} → (Item → Option A) → List Item → Option (A × List Item)
top f is = and_then (uncons is) (λ p. and_then (f p.0) (λ a. Some (a, p.1)))

-- the parts of a production from the top on, and the items below them
abbrev pub taken : (ss : List Symbol) → List Item → Option (Values ss × List Item)
taken [] is = Some (tt, is)
taken (token k ∷ ss) is = and_then (top as_token is) (λ p. and_then (taken ss p.1) (λ q. Some ((p.0, q.0), q.1)))
taken (phrase n ∷ ss) is = and_then (top (as_value n) is) (λ p. and_then (taken ss p.1) (λ q. Some ((p.0, q.0), q.1)))

-- what a production makes of the items
abbrev pub played : {n : Class} → Rule n → List Item → Option (List Item)
played {n} r is = and_then (taken (rhs r) is) (λ p. Some (item n (act r p.0) ∷ p.1))

abbrev pub played_any : Any → List Item → Option (List Item)
played_any (any r) is = played r is

abbrev pub play : Move → List Item → Option (List Item)
play (shift t) is = Some (TokenItem t ∷ is)
play (by r) is = played_any r is

abbrev pub play_all : List Move → List Item → Option (List Item)
play_all [] is = Some is
play_all (m ∷ ms) is = and_then (play m is) (λ js. play_all ms js)

-- what the moves, the last one first, make of a class: nothing where no phrase of the class stands on top at last
abbrev pub told : (n : Class) → List Move → Option (Value n)
told n ms = and_then (play_all ms []) (λ is. option_map (λ p. p.0) (top (as_value n) is))
