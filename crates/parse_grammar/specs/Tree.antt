-- Parse trees by the productions. This is the grammar as a relation: a list of tokens is a phrase exactly
-- where a parse tree spells it.
use Rattle.std.specs.Prelude.{◌≡◌, List, [], ◌∷◌, ◌++◌}
use Rattle.parse_grammar.specs.Grammar.{Terminal, kind_of, Class, Symbol, token, phrase, Rule, rhs}
use Rattle.fing_lexer.specs.declared.token.Token.{Token}
use Rattle.parse_grammar.specs.Meaning.{Value, Values, act}

-- one tree for each of these symbols in order
pub data Trees : List Symbol → Type 0 where
  end : Trees []
  leaf : {k : Terminal} {ss : List Symbol} → (t : Token) → kind_of t ≡ k → Trees ss → Trees (token k ∷ ss)
  node : {n : Class} {ss : List Symbol} → (r : Rule n) → Trees (rhs r) → Trees ss → Trees (phrase n ∷ ss)

-- the tokens of the trees
abbrev pub spelling : {ss : List Symbol} → Trees ss → List Token
spelling end = []
spelling (leaf t e ts) = t ∷ spelling ts
spelling (node r cs ts) = spelling cs ++ spelling ts

-- what the trees give
abbrev pub values : {ss : List Symbol} → Trees ss → Values ss
values end = tt
values (leaf t e ts) = (t, values ts)
values (node r cs ts) = (act r (values cs), values ts)

-- the tokens are one phrase of the class, and this is its tree
pub record Phrase (n : Class) (tokens : List Token) (tree : Value n) : Type 0 where
  pub parts : Trees (phrase n ∷ [])
  pub spelled : spelling parts ≡ tokens
  pub given : (values parts).0 ≡ tree
