-- A run with enough fuel ends.
-- Main results: ends, reads_phrase, reads_token.
use Rattle.std.proofs.Common.{◌≡◌, ℕ, zero, suc, max, ◌+◌, ◌<◌, ◌≤◌, ◌&&◌, ◌||◌, not, Bool, true, false, cond, eqb, leb, refl, sym, ◌∙◌, ap, subst, List, [], ◌∷◌, ◌++◌, length, length-append, leb-true, arith, inl, inr, ◌⊎◌}
use Rattle.std.specs.Prelude.{Option, Some, None}
use Rattle.parse_grammar.specs.Grammar.{Terminal, kind_of, Class, Symbol, token, phrase, Rule, rhs}
use Rattle.fing_lexer.specs.declared.token.Token.{Token}
use Rattle.parse_grammar.specs.Meaning.{Value, Values, act}
use Rattle.parse_grammar.specs.Tree.{Trees, end, leaf, node, spelling}
use Rattle.parse_grammar.specs.Tables.{number_of, choose, can_be_empty, rank}
use Rattle.parse_grammar.proofs.Sets.{all_empty, and-left, and-right}
use Rattle.parse_grammar.proofs.Checks.{leads_ok, ranks_ok}
use Rattle.parse_grammar.specs.Reading.{Run, got, stop, next, ahead, by_token, by_rule, run, lead, need, reads, read_all}
use Rattle.parse_grammar.proofs.Front.{Got, Stopped, sound, stopped}

-- a run ends: it gives values and the tokens left, or it stops
abbrev pub Ends : ℕ → List Symbol → List Token → Type 0
Ends f ss ts = ((vs : Values ss) × (rest : List Token) × (run f ss ts ≡ got vs rest)) ⊎ ((left : List Token) × (run f ss ts ≡ stop left))

-- the right side of a production leads no higher than the rank of its class
pub lead_rule : {n : Class} (r : Rule n) → lead (rhs r) ≤ rank n
lead_rule {n} r = leb-true _ _ (and-left (leb (lead (rhs r)) (rank n)) _ (leads_ok r))

-- the right side of a production has at most 11 symbols
pub length_rule : {n : Class} (r : Rule n) → length (rhs r) ≤ 11
length_rule {n} r = leb-true _ _ (and-left (leb (length (rhs r)) 11) (not (all_empty (rhs r)) || can_be_empty n) (and-right (leb (lead (rhs r)) (rank n)) _ (leads_ok r)))

-- a class with a production whose symbols may all be empty may be empty
pub empty_rule : {n : Class} (r : Rule n) → all_empty (rhs r) ≡ true → can_be_empty n ≡ true
empty_rule {n} r e = go (all_empty (rhs r)) e (and-right (leb (length (rhs r)) 11) (not (all_empty (rhs r)) || can_be_empty n) (and-right (leb (lead (rhs r)) (rank n)) _ (leads_ok r)))
  where
    go : (b : Bool) → b ≡ true → not b || can_be_empty n ≡ true → can_be_empty n ≡ true
    go true e h = h
    go false e h = absurd (cc)

both_true : (a b : Bool) → a ≡ true → b ≡ true → a && b ≡ true
both_true a b e h = rw (e, h) refl

-- symbols that spell nothing can be empty
pub empty_ok : {ss : List Symbol} (c : Trees ss) → length (spelling c) ≡ 0 → all_empty ss ≡ true
empty_ok end e = refl
empty_ok (leaf t p ts) e = absurd (omega arith)
empty_ok (node {n = n} {ss = ss} r cs ts) e =
    let l : length (spelling cs ++ spelling ts) ≡ length (spelling cs) + length (spelling ts) = length-append (spelling cs) (spelling ts) in
    both_true (can_be_empty n) (all_empty ss) (empty_rule r (empty_ok cs (omega arith))) (empty_ok ts (omega arith))

lead_small : (ss : List Symbol) → lead ss ≤ 7
lead_small [] = omega arith
lead_small (token k ∷ ss) = omega arith
lead_small (phrase n ∷ ss) = go (can_be_empty n) (lead_small ss)
  where
    go : (b : Bool) → lead ss ≤ 7 → cond b (max (suc (rank n)) (lead ss)) (suc (rank n)) ≤ 7
    go true h = omega (arith, leb-true _ _ (ranks_ok n))
    go false h = omega (arith, leb-true _ _ (ranks_ok n))

-- symbols that begin with a class lead higher than its rank
pub lead_above : (n : Class) (ss : List Symbol) → suc (rank n) ≤ lead (phrase n ∷ ss)
lead_above n ss = go (can_be_empty n)
  where
    go : (b : Bool) → suc (rank n) ≤ cond b (max (suc (rank n)) (lead ss)) (suc (rank n))
    go true = omega arith
    go false = omega arith

-- symbols lead no higher than those with a class before them that may be empty
pub lead_rest : (n : Class) (ss : List Symbol) → can_be_empty n ≡ true → lead ss ≤ lead (phrase n ∷ ss)
lead_rest n ss e = go (can_be_empty n) e
  where
    go : (b : Bool) → b ≡ true → lead ss ≤ cond b (max (suc (rank n)) (lead ss)) (suc (rank n))
    go true e = omega arith
    go false e = absurd (cc)

-- behind a class fewer tokens are left, or the class can be empty
left_behind : (f : ℕ) (n : Class) (ss : List Symbol) (r : Rule n) (ts mid : List Token) (ws : Values (rhs r)) → run f (rhs r) ts ≡ got ws mid
    → need ss (length mid) < need (phrase n ∷ ss) (length ts)
unfolding need
left_behind f n ss r ts mid ws e = go (length (spelling s.trees)) refl
  where
    s : Got f (rhs r) ts ws mid
    s = sound f (rhs r) ts ws mid e

    l : length (spelling s.trees) + length mid ≡ length ts
    l = sym (length-append (spelling s.trees) mid) ∙ ap length s.spelled

    go : (k : ℕ) → length (spelling s.trees) ≡ k → need ss (length mid) < need (phrase n ∷ ss) (length ts)
    go zero q = omega (arith, l, lead_rest n ss (empty_rule r (empty_ok s.trees q)))
    go (suc k) q = omega (arith, l, lead_small ss)

into_rule : {n : Class} (r : Rule n) (ss : List Symbol) (k : ℕ) → need (rhs r) k < need (phrase n ∷ ss) k
unfolding need
into_rule {n} r ss k = omega (arith, lead_rule r, length_rule r, lead_above n ss)

-- behind a token less fuel is needed
pub token_behind : (k : _) (ss : List Symbol) (n : ℕ) → need ss n < need (token k ∷ ss) (suc n)
unfolding need
token_behind k ss n = omega (arith, lead_small ss)

need_positive : (ss : List Symbol) (n : ℕ) → need ss n ≤ 0 → ⊥
unfolding need
need_positive ss n h = omega arith

-- a run with enough fuel ends
pub ends : (f : ℕ) (ss : List Symbol) (ts : List Token) → need ss (length ts) ≤ f → Ends f ss ts
ends zero ss ts h = absurd (need_positive ss (length ts) h)
ends (suc f) [] ts h = inl (tt, ts, refl)
ends (suc f) (token k ∷ ss) [] h = inr ([], refl)
ends (suc f) (token k ∷ ss) (t ∷ ts) h = go (eqb (number_of (kind_of t)) (number_of k)) (ends f ss ts (omega (arith, token_behind k ss (length ts))))
  where
    Ended : Run (Token × Values ss) → Type 0
    Ended x = ((vs : Token × Values ss) × (rest : List Token) × (x ≡ got vs rest)) ⊎ ((left : List Token) × (x ≡ stop left))

    go : (b : Bool) → Ends f ss ts → Ended (by_token b (run f ss ts) t ts)
    go true (inl q) = inl ((t, q.0), q.1, ap (λ z. next z (λ us m. got (t, us) m)) q.2)
    go true (inr q) = inr (q.0, ap (λ z. next z (λ us m. got (t, us) m)) q.1)
    go false q = inr (t ∷ ts, refl)
ends (suc f) (phrase n ∷ ss) ts h =
    go (choose n (ahead ts)) (λ r. ends f (rhs r) ts (omega (arith, into_rule r ss (length ts)))) (λ r ws mid q. ends f ss mid (omega (arith, left_behind f n ss r ts mid ws q)))
  where
    Ended : Run (Value n × Values ss) → Type 0
    Ended x = ((vs : Value n × Values ss) × (rest : List Token) × (x ≡ got vs rest)) ⊎ ((left : List Token) × (x ≡ stop left))

    last : (r : Rule n) (ws : Values (rhs r)) (mid : List Token) → Ends f ss mid → Ended (next (run f ss mid) (λ vs rest. got (act r ws, vs) rest))
    last r ws mid (inl q) = inl ((act r ws, q.0), q.1, ap (λ z. next z (λ vs rest. got (act r ws, vs) rest)) q.2)
    last r ws mid (inr q) = inr (q.0, ap (λ z. next z (λ vs rest. got (act r ws, vs) rest)) q.1)

    first : (r : Rule n) → Ends f (rhs r) ts → ((ws : Values (rhs r)) (mid : List Token) → run f (rhs r) ts ≡ got ws mid → Ends f ss mid)
        → Ended (next (run f (rhs r) ts) (λ ws mid. next (run f ss mid) (λ vs rest. got (act r ws, vs) rest)))
    first r (inl q) k = subst (λ z. Ended (next z (λ ws mid. next (run f ss mid) (λ vs rest. got (act r ws, vs) rest)))) (sym q.2) (last r q.0 q.1 (k q.0 q.1 q.2))
    first r (inr q) k = inr (q.0, ap (λ z. next z (λ ws mid. next (run f ss mid) (λ vs rest. got (act r ws, vs) rest))) q.1)

    go : (o : Option (Rule n)) → ((r : Rule n) → Ends f (rhs r) ts) → ((r : Rule n) (ws : Values (rhs r)) (mid : List Token) → run f (rhs r) ts ≡ got ws mid → Ends f ss mid)
        → Ended (by_rule ss (run f) o ts)
    go None a b = inr (ts, refl)
    go (Some r) a b = first r (a r) (b r)

pub stable : (f : ℕ) (ss : List Symbol) (ts : List Token) → need ss (length ts) ≤ f → run f ss ts ≡ reads ss ts
unfolding reads
stable f ss ts h = go (ends m ss ts (omega arith))
  where
    m : ℕ
    m = need ss (length ts)

    go : Ends m ss ts → run f ss ts ≡ run m ss ts
    go (inl q) =
        let s : Got m ss ts q.0 q.1 = sound m ss ts q.0 q.1 q.2 in
        ap (λ z. run f ss z) (sym s.spelled) ∙ s.other f q.1 h refl ∙ sym q.2
    go (inr q) =
        let s : Stopped m ss ts q.0 = stopped m ss ts q.0 q.1 in
        ap (λ z. run f ss z) (sym s.split) ∙ s.other f q.0 h refl ∙ sym q.1

-- reading no symbols takes no tokens
pub reads_none : (ts : List Token) → reads [] ts ≡ got tt ts
unfolding reads need
reads_none ts = sym (stable (suc (need [] (length ts))) [] ts (omega arith))

-- reading a token where none is left stops
pub reads_no_token : (k : Terminal) (ss : List Symbol) → reads (token k ∷ ss) [] ≡ stop []
unfolding reads need
reads_no_token k ss = sym (stable (suc (need (token k ∷ ss) 0)) (token k ∷ ss) [] (omega arith))

-- reading a token takes the first one if it is the wanted one, and stops otherwise
pub reads_token : (k : Terminal) (ss : List Symbol) (t : Token) (ts : List Token) → reads (token k ∷ ss) (t ∷ ts) ≡ by_token (eqb (number_of (kind_of t)) (number_of k)) (reads ss ts) t ts
reads_token k ss t ts =
    let f : ℕ = need ss (length ts) + need (token k ∷ ss) (suc (length ts)) in
    sym (stable (suc f) (token k ∷ ss) (t ∷ ts) (omega arith))
    ∙ ap (λ z. by_token (eqb (number_of (kind_of t)) (number_of k)) z t ts) (stable f ss ts (omega arith))

-- reading a class goes on with the production that is chosen, or stops
pub reads_phrase : (n : Class) (ss : List Symbol) (ts : List Token) → reads (phrase n ∷ ss) ts ≡ by_rule ss reads (choose n (ahead ts)) ts
reads_phrase n ss ts = sym (stable (suc f) (phrase n ∷ ss) ts (omega arith)) ∙ go (choose n (ahead ts))
  where
    f : ℕ
    f = need (phrase n ∷ ss) (length ts)

    inside : (r : Rule n) → by_rule ss (run f) (Some r) ts ≡ by_rule ss reads (Some r) ts
    inside r = cases (ends f (rhs r) ts (omega (arith, into_rule r ss (length ts))))
      where
        same : run f (rhs r) ts ≡ reads (rhs r) ts
        same = stable f (rhs r) ts (omega (arith, into_rule r ss (length ts)))

        K : (go : (ss : List Symbol) → List Token → Run (Values ss)) → Run (Values (rhs r)) → Run (Value n × Values ss)
        K go z = next z (λ ws mid. next (go ss mid) (λ vs rest. got (act r ws, vs) rest))

        L : (ws : Values (rhs r)) → Run (Values ss) → Run (Value n × Values ss)
        L ws z = next z (λ vs rest. got (act r ws, vs) rest)

        cases : Ends f (rhs r) ts → by_rule ss (run f) (Some r) ts ≡ by_rule ss reads (Some r) ts
        cases (inl q) =
            ap (K (run f)) q.2
            ∙ ap (L q.0) (stable f ss q.1 (omega (arith, left_behind f n ss r ts q.1 q.0 q.2)))
            ∙ ap (K reads) (sym q.2 ∙ same)
        cases (inr q) = ap (K (run f)) q.1 ∙ ap (K reads) (sym q.1 ∙ same)

    go : (o : Option (Rule n)) → by_rule ss (run f) o ts ≡ by_rule ss reads o ts
    go None = refl
    go (Some r) = inside r

-- symbol by symbol the same is read
abbrev SameAll : List Symbol → List Token → Type 0
SameAll ss ts = read_all ss ts ≡ reads ss ts
