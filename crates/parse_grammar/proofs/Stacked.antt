-- What is pushed last stands first.
-- Main results: wanted_push, moves_push.
use Rattle.std.proofs.Common.{◌≡◌, List, [], ◌∷◌, ◌++◌, length, map, refl, ap, arith}
use Rattle.std.proofs.lemmas.List.{reverse-append}
use Rattle.parse_grammar.specs.Inner.Steps.{move_in, moves, wanted}
use Rattle.parse_grammar.specs.Inner.View.{symbol_in}
use Rattle.parse_grammar.specs.declared.grammar.Symbol.{Symbol as SymbolIn}
use Rattle.parse_grammar.specs.declared.recogniser.Step.{Step}

-- the symbol that is pushed last is wanted first
pub wanted_push : (xs : List SymbolIn) (x : SymbolIn) → wanted (xs ++ x ∷ []) ≡ symbol_in x ∷ wanted xs
wanted_push xs x = ap (λ z. map symbol_in z) (reverse-append xs (x ∷ []))

-- the move that is pushed last is made first
pub moves_push : (xs : List Step) (x : Step) → moves (xs ++ x ∷ []) ≡ move_in x ∷ moves xs
moves_push xs x = ap (λ z. map move_in z) (reverse-append xs (x ∷ []))

pub before_last : {A B : Type 0} (f : A → B) (xs : List A) (x : A) (ys : List B) → map f (xs ++ x ∷ []) ++ ys ≡ map f xs ++ f x ∷ ys
before_last f [] x ys = refl
before_last f (y ∷ xs) x ys = ap (λ z. f y ∷ z) (before_last f xs x ys)

-- a list of length 0 is empty
pub no_items : {A : Type 0} (xs : List A) → length xs ≡ 0 → xs ≡ []
no_items [] e = refl
no_items (x ∷ xs) e = absurd (omega (arith, e))
