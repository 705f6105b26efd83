-- The moves that give a tree, played from the last to the first, leave what the tree gives.
-- Main results: told_is, told_some.
use Rattle.std.proofs.Common.{◌≡◌, List, [], ◌∷◌, ◌++◌, refl, sym, ◌∙◌, ap}
use Rattle.std.specs.Prelude.{Option, None, Some, option_map}
use Rattle.parse_grammar.specs.Grammar.{Class, Units, OneUnit, Binds, Bind, Decls, Decl, TypeOf, K, KArrow, KA, P, Dots, T, TArrow, TC, TArgs, TA, TFields, MoreTFields, S, SArrow, Wheres, SA, M, MArgs, Seals, MA, E, Lam, EBranches, MoreEBranches, Compare, ES, Sums, EM, Products, EP, Args, EA, Gets, EB, EFields, MoreEFields, Symbol, token, phrase, Rule, rhs}
use Rattle.parse_grammar.specs.Meaning.{Value, Values, act}
use Rattle.parse_grammar.specs.Inner.Moves.{Move, shift, by, track}
use Rattle.parse_grammar.specs.Tree.{Trees, end, leaf, node, spelling, values, Phrase}
use Rattle.fing_lexer.specs.declared.token.Token.{Token}
use Rattle.parse_grammar.specs.Inner.View.{any}
use Rattle.parse_stack.specs.Inner.Item.{Item, TokenItem, item, as_value}
use Rattle.parse_stack.specs.Inner.Play.{and_then, top, taken, played, play_all, told}

-- the items of values in order
abbrev all : (ss : List Symbol) → Values ss → List Item
all [] _ = []
all (token k ∷ ss) vs = TokenItem vs.0 ∷ all ss vs.1
all (phrase n ∷ ss) vs = item n vs.0 ∷ all ss vs.1

again : (n : Class) (v : Value n) → as_value n (item n v) ≡ Some v
again Units v = refl
again OneUnit v = refl
again Binds v = refl
again Bind v = refl
again Decls v = refl
again Decl v = refl
again TypeOf v = refl
again K v = refl
again KArrow v = refl
again KA v = refl
again P v = refl
again Dots v = refl
again T v = refl
again TArrow v = refl
again TC v = refl
again TArgs v = refl
again TA v = refl
again TFields v = refl
again MoreTFields v = refl
again S v = refl
again SArrow v = refl
again Wheres v = refl
again SA v = refl
again M v = refl
again MArgs v = refl
again Seals v = refl
again MA v = refl
again E v = refl
again Lam v = refl
again EBranches v = refl
again MoreEBranches v = refl
again Compare v = refl
again ES v = refl
again Sums v = refl
again EM v = refl
again Products v = refl
again EP v = refl
again Args v = refl
again EA v = refl
again Gets v = refl
again EB v = refl
again EFields v = refl
again MoreEFields v = refl

-- what stands on top is taken
takes : (ss : List Symbol) (vs : Values ss) (is : List Item) → taken ss (all ss vs ++ is) ≡ Some (vs, is)
takes [] vs is = refl
takes (token k ∷ ss) vs is = ap (λ (z : Option (Values ss × List Item)). and_then z (λ q. Some ((vs.0, q.0), q.1))) (takes ss vs.1 is)
takes (phrase n ∷ ss) vs is =
    let rest : List Item = all ss vs.1 ++ is in
    let at_top : top (as_value n) (item n vs.0 ∷ rest) ≡ Some (vs.0, rest)
    = ap (λ (z : Option (Value n)). and_then {B = Value n × List Item} z (λ a. Some (a, rest))) (again n vs.0) in
    ap (λ (z : Option (Value n × List Item)). and_then {B = Values (phrase n ∷ ss) × List Item} z (λ p. and_then (taken ss p.1) (λ q. Some ((p.0, q.0), q.1)))) at_top
    ∙ ap (λ (z : Option (Values ss × List Item)). and_then {B = Values (phrase n ∷ ss) × List Item} z (λ q. Some ((vs.0, q.0), q.1))) (takes ss vs.1 is)

plays_rule : {n : Class} (r : Rule n) (vs : Values (rhs r)) (is : List Item) → played r (all (rhs r) vs ++ is) ≡ Some (item n (act r vs) ∷ is)
plays_rule {n} r vs is = ap (λ z. and_then z (λ p. Some (item n (act r p.0) ∷ p.1))) (takes (rhs r) vs is)

plays : {ss : List Symbol} (c : Trees ss) (ms : List Move) (is : List Item) → play_all (track c ms) is ≡ play_all ms (all ss (values c) ++ is)
plays end ms is = refl
plays (leaf t e ts) ms is = plays ts (shift t ∷ ms) is
plays (node {ss = ss} r cs ts) ms is =
    let below : List Item = all ss (values ts) ++ is in
    plays ts (track cs (by (any r) ∷ ms)) is
    ∙ plays cs (by (any r) ∷ ms) below
    ∙ ap (λ z. and_then z (λ js. play_all ms js)) (plays_rule r (values cs) below)

-- the moves of a tree tell what it gives
pub tells : {n : Class} (d : Trees (phrase n ∷ [])) (ms : List Move) → track d [] ≡ ms → told n ms ≡ Some (values d).0
tells {n} d ms e =
    ap (told n) (sym e)
    ∙ ap (λ z. and_then z (λ is. option_map (λ p. p.0) (top (as_value n) is))) (plays d [] [])
    ∙ ap (λ (z : Option (Value n)). option_map (λ p. p.0) (and_then {B = Value n × List Item} z (λ a. Some (a, [])))) (again n (values d).0)

some_same : {A : Type 0} {x y : A} → Some x ≡ Some y → x ≡ y
some_same e = cc

-- what is told of the steps of a tree is the phrase of its tokens
pub told_is : {n : Class} {tokens : List Token} {ms : List Move} {v : Value n}
    → (d : Trees (phrase n ∷ [])) × (spelling d ≡ tokens) × (track d [] ≡ ms) → told n ms ≡ Some v → Phrase n tokens v
told_is {n} {tokens} {ms} {v} q e = record { parts = q.0; spelled = q.1; given = some_same (sym (tells q.0 ms q.2) ∙ e) }

-- of the moves that give a tree something is told
pub told_some : {n : Class} {tokens : List Token} {ms : List Move}
    → (d : Trees (phrase n ∷ [])) × (spelling d ≡ tokens) × (track d [] ≡ ms) → told n ms ≡ None → ⊥
told_some {ms = ms} q e = let h : None ≡ Some (values q.0).0 = sym e ∙ tells q.0 ms q.2 in absurd (cc)
