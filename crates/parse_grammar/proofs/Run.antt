-- Reading symbols from the front of a list of tokens, with one token of look-ahead.
-- Main results: complete.
use Rattle.std.proofs.Common.{◌≡◌, ℕ, zero, suc, ◌+◌, ◌≤◌, ◌&&◌, true, eqb, refl, sym, ◌∙◌, ap, subst, List, [], ◌∷◌, ◌++◌, append_assoc, eq-eqb, arith}
use Rattle.std.specs.Prelude.{Some}
use Rattle.parse_grammar.specs.Grammar.{kind_of, Class, Symbol, phrase, Rule, rhs}
use Rattle.fing_lexer.specs.declared.token.Token.{Token}
use Rattle.parse_grammar.specs.Meaning.{act}
use Rattle.parse_grammar.specs.Tree.{Trees, end, leaf, node, spelling, values}
use Rattle.parse_grammar.specs.Tables.{number_of, follow, predicted, is_in, choose}
use Rattle.parse_grammar.proofs.Sets.{all, starts, fits, begins, rule_ok, and-left, and-right, all_at, each_at, begins-starts, is_in-here}
use Rattle.parse_grammar.proofs.Checks.{rules_ok, predicts}
use Rattle.parse_grammar.specs.Choosing.{Chosen}
use Rattle.parse_grammar.specs.Reading.{got, next, ahead, by_token, by_rule, run}

-- how many nodes and leaves trees have
abbrev pub size : {ss : List Symbol} → Trees ss → ℕ
size end = 1
size (leaf t e ts) = suc (size ts)
size (node r cs ts) = suc (size cs + size ts)

-- what stands behind a class may follow it
follows : (n : Class) (ss : List Symbol) (k j : ℕ) → fits (phrase n ∷ ss) k ≡ true → is_in j (starts ss k) ≡ true → is_in j (follow n) ≡ true
follows n ss k j e h = all_at (λ i. is_in i (follow n)) (starts ss k) j (and-left (all (λ i. is_in i (follow n)) (starts ss k)) (fits ss k) e) h

rest_fits : (n : Class) (ss : List Symbol) (k : ℕ) → fits (phrase n ∷ ss) k ≡ true → fits ss k ≡ true
rest_fits n ss k e = and-right (all (λ i. is_in i (follow n)) (starts ss k)) (fits ss k) e

parts_fit : {n : Class} (r : Rule n) (k : ℕ) → is_in k (follow n) ≡ true → fits (rhs r) k ≡ true
parts_fit {n} r k w = and-left (fits (rhs r) k) (all (λ j. begins n k j && is_in j (predicted r)) (starts (rhs r) k)) (all_at (rule_ok r) (follow n) k (rules_ok r) w)

first_token : {n : Class} (r : Rule n) (k j : ℕ) → is_in k (follow n) ≡ true → is_in j (starts (rhs r) k) ≡ true → begins n k j && is_in j (predicted r) ≡ true
first_token {n} r k j w h =
    all_at (λ j. begins n k j && is_in j (predicted r)) (starts (rhs r) k) j
    (and-right (fits (rhs r) k) (all (λ j. begins n k j && is_in j (predicted r)) (starts (rhs r) k)) (all_at (rule_ok r) (follow n) k (rules_ok r) w)) h

-- what trees spell begins with a token that begins their symbols
pub first_in : {ss : List Symbol} (c : Trees ss) (x : List Token) → fits ss (ahead x) ≡ true → is_in (ahead (spelling c ++ x)) (starts ss (ahead x)) ≡ true
first_in end x e = is_in-here (ahead x) (ahead x) [] refl
first_in (leaf {k = k} t p ts) x e = is_in-here (number_of (kind_of t)) (number_of k) [] (ap number_of p)
first_in (node {n = n} {ss = ss} r cs ts) x e =
    let y : List Token = spelling ts ++ x in
    let here : is_in (ahead y) (starts ss (ahead x)) ≡ true = first_in ts x (rest_fits n ss (ahead x) e) in
    let w : is_in (ahead y) (follow n) ≡ true = follows n ss (ahead x) (ahead y) e here in
    let below : is_in (ahead (spelling cs ++ y)) (starts (rhs r) (ahead y)) ≡ true = first_in cs y (parts_fit r (ahead y) w) in
    let b : begins n (ahead y) (ahead (spelling cs ++ y)) ≡ true = and-left (begins n (ahead y) (ahead (spelling cs ++ y))) (is_in (ahead (spelling cs ++ y)) (predicted r)) (first_token r (ahead y) (ahead (spelling cs ++ y)) w below) in
    subst (λ z. is_in (ahead z) (starts (phrase n ∷ ss) (ahead x)) ≡ true) (sym (append_assoc (spelling cs) (spelling ts) x))
    (begins-starts n ss (ahead y) (ahead x) (ahead (spelling cs ++ y)) b here)

-- the next token chooses the production of the tree
pub chosen : {n : Class} (ss : List Symbol) (r : Rule n) (cs : Trees (rhs r)) (ts : Trees ss) (x : List Token) → fits (phrase n ∷ ss) (ahead x) ≡ true
    → choose n (ahead (spelling cs ++ (spelling ts ++ x))) ≡ Some r
chosen {n} ss r cs ts x e =
    let y : List Token = spelling ts ++ x in
    let w : is_in (ahead y) (follow n) ≡ true = follows n ss (ahead x) (ahead y) e (first_in ts x (rest_fits n ss (ahead x) e)) in
    let below : is_in (ahead (spelling cs ++ y)) (starts (rhs r) (ahead y)) ≡ true = first_in cs y (parts_fit r (ahead y) w) in
    each_at (λ j. choose n j ≡ Some r) (predicted r) (ahead (spelling cs ++ y)) (predicts r)
    (and-right (begins n (ahead y) (ahead (spelling cs ++ y))) (is_in (ahead (spelling cs ++ y)) (predicted r)) (first_token r (ahead y) (ahead (spelling cs ++ y)) w below))

-- where what follows may, each node of trees is chosen by the next token
pub each_chosen : {ss : List Symbol} (c : Trees ss) (x : List Token) → fits ss (ahead x) ≡ true → Chosen c x
each_chosen end x e = tt
each_chosen (leaf t p ts) x e = each_chosen ts x e
each_chosen (node {n = n} {ss = ss} r cs ts) x e =
    let y : List Token = spelling ts ++ x in
    let w : is_in (ahead y) (follow n) ≡ true = follows n ss (ahead x) (ahead y) e (first_in ts x (rest_fits n ss (ahead x) e)) in
    (chosen ss r cs ts x e, each_chosen cs y (parts_fit r (ahead y) w), each_chosen ts x (rest_fits n ss (ahead x) e))

-- what trees spell is read as these trees, whatever follows that may
pub complete : {ss : List Symbol} (c : Trees ss) (x : List Token) (f : ℕ) → size c ≤ f → fits ss (ahead x) ≡ true → run f ss (spelling c ++ x) ≡ got (values c) x
complete end x zero h e = absurd (omega arith)
complete end x (suc f) h e = refl
complete (leaf t p ts) x zero h e = absurd (omega arith)
complete (leaf {k = k} {ss = ss} t p ts) x (suc f) h e =
    let ih : run f ss (spelling ts ++ x) ≡ got (values ts) x = complete ts x f (omega arith) e in
    let q : eqb (number_of (kind_of t)) (number_of k) ≡ true = eq-eqb (number_of (kind_of t)) (number_of k) (ap number_of p) in
    ap (λ b. by_token b (run f ss (spelling ts ++ x)) t (spelling ts ++ x)) q ∙ ap (λ z. next z (λ vs rest. got (t, vs) rest)) ih
complete (node r cs ts) x zero h e = absurd (omega arith)
complete (node {n = n} {ss = ss} r cs ts) x (suc f) h e =
    let y : List Token = spelling ts ++ x in
    let w : is_in (ahead y) (follow n) ≡ true = follows n ss (ahead x) (ahead y) e (first_in ts x (rest_fits n ss (ahead x) e)) in
    let parts : run f (rhs r) (spelling cs ++ y) ≡ got (values cs) y = complete cs y f (omega arith) (parts_fit r (ahead y) w) in
    let rest : run f ss y ≡ got (values ts) x = complete ts x f (omega arith) (rest_fits n ss (ahead x) e) in
    ap (λ z. run (suc f) (phrase n ∷ ss) z) (append_assoc (spelling cs) (spelling ts) x)
    ∙ ap (λ o. by_rule ss (run f) o (spelling cs ++ y)) (chosen ss r cs ts x e)
    ∙ ap (λ z. next z (λ ws mid. next (run f ss mid) (λ vs rest. got (act r ws, vs) rest))) parts
    ∙ ap (λ z. next z (λ vs rest. got (act r (values cs), vs) rest)) rest
