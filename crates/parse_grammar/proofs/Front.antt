-- What a run says of the tokens that it took, and of all other tokens behind them.
-- Main results: sound, stopped.
use Rattle.std.proofs.Common.{◌≡◌, ℕ, zero, suc, ◌≤◌, Bool, true, false, eqb, refl, sym, ◌∙◌, ap, ap₂, subst, List, [], ◌∷◌, ◌++◌, append_assoc, eqb-true, arith, inl, inr, ◌⊎◌}
use Rattle.std.specs.Prelude.{Option, Some, None}
use Rattle.parse_grammar.specs.Grammar.{Terminal, kind_of, Class, Symbol, token, phrase, Rule, rhs}
use Rattle.fing_lexer.specs.declared.token.Token.{Token}
use Rattle.parse_grammar.specs.Meaning.{Values, act}
use Rattle.parse_grammar.specs.Tree.{Trees, end, leaf, node, spelling, values}
use Rattle.parse_grammar.specs.Tables.{number_of, choose}
use Rattle.parse_grammar.proofs.Checks.{same_terminal, number_positive}
use Rattle.parse_grammar.proofs.Samples.{any_token, any_kind, any_phrase}
use Rattle.parse_grammar.specs.Reading.{Run, got, stop, spent, next, ahead, by_token, by_rule, run}

-- a run that gave trees: they spell the tokens taken, and more fuel or another rest with the same next token change nothing
pub record Got (f : ℕ) (ss : List Symbol) (ts : List Token) (vs : Values ss) (rest : List Token) : Type 0 where
  pub trees : Trees ss
  pub spelled : spelling trees ++ rest ≡ ts
  pub given : values trees ≡ vs
  pub other : (g : ℕ) (x : List Token) → f ≤ g → ahead x ≡ ahead rest → run g ss (spelling trees ++ x) ≡ got vs x

-- a run that stopped: the tokens taken begin a spelling, and whatever begins with them and the same next token stops there
pub record Stopped (f : ℕ) (ss : List Symbol) (ts left : List Token) : Type 0 where
  pub taken : List Token
  pub split : taken ++ left ≡ ts
  pub trees : Trees ss
  pub more : List Token
  pub begins : spelling trees ≡ taken ++ more
  pub other : (g : ℕ) (x : List Token) → f ≤ g → ahead x ≡ ahead left → run g ss (taken ++ x) ≡ stop x

pub next_got : {A B : Type 0} (r : Run A) (k : A → List Token → Run B) (v : B) (x : List Token) → next r k ≡ got v x
    → (a : A) × (m : List Token) × (r ≡ got a m) × (k a m ≡ got v x)
next_got (got a m) k v x e = (a, m, refl, e)
next_got (stop m) k v x e = absurd (cc)
next_got spent k v x e = absurd (cc)

pub next_stop : {A B : Type 0} (r : Run A) (k : A → List Token → Run B) (x : List Token) → next r k ≡ stop x
    → (r ≡ stop x) ⊎ ((a : A) × (m : List Token) × (r ≡ got a m) × (k a m ≡ stop x))
next_stop (got a m) k x e = inr (a, m, refl, e)
next_stop {A} (stop m) k x e = inl (let q : m ≡ x = cc in ap (λ z. stop z) q)
next_stop spent k x e = absurd (cc)

-- runs that end with the same outcome leave the same tokens
pub got_rest : {A : Type 0} {a b : A} {x y : List Token} → got a x ≡ got b y → x ≡ y
got_rest e = cc

-- runs that end with the same outcome have the same value
pub got_value : {A : Type 0} {a b : A} {x y : List Token} → got a x ≡ got b y → a ≡ b
got_value e = cc

-- a run that ends is none that stops
pub got_not_stop : {A : Type 0} {a : A} {x y : List Token} → got a x ≡ stop y → ⊥
got_not_stop e = cc

pub ahead_same : (a x y : List Token) → ahead x ≡ ahead y → ahead (a ++ x) ≡ ahead (a ++ y)
ahead_same [] x y e = e
ahead_same (t ∷ a) x y e = refl

pub any_trees : (ss : List Symbol) → Trees ss
any_trees [] = end
any_trees (token k ∷ ss) = leaf (any_token k) (any_kind k) (any_trees ss)
any_trees (phrase n ∷ ss) = join (any_phrase n) (any_trees ss)
  where
    join : Trees (phrase n ∷ []) → Trees ss → Trees (phrase n ∷ ss)
    join (node r cs e) ts = node r cs ts

step_token : (f : ℕ) (k : Terminal) (ss : List Symbol) (t : Token) (ts : List Token) (us : Values ss) (vs : Values (token k ∷ ss)) (rest : List Token)
    → eqb (number_of (kind_of t)) (number_of k) ≡ true → (t, us) ≡ vs → Got f ss ts us rest → Got (suc f) (token k ∷ ss) (t ∷ ts) vs rest
step_token f k ss t ts us vs rest p ev i = record {
  trees = leaf t (same_terminal (kind_of t) k (eqb-true _ _ p)) i.trees;
  spelled = ap (λ z. t ∷ z) i.spelled;
  given = ap (λ z. (t, z)) i.given ∙ ev;
  other = other;
}
  where
    other : (g : ℕ) (x : List Token) → suc f ≤ g → ahead x ≡ ahead rest → run g (token k ∷ ss) (t ∷ (spelling i.trees ++ x)) ≡ got vs x
    other zero x h a = absurd (omega arith)
    other (suc g) x h a =
        ap (λ b. by_token b (run g ss (spelling i.trees ++ x)) t (spelling i.trees ++ x)) p
        ∙ ap (λ z. next z (λ us m. got (t, us) m)) (i.other g x (omega arith) a)
        ∙ ap (λ z. got z x) ev

-- the choice is the same for whatever begins alike
same_choice : {n : Class} (r : Rule n) (a ts rest x : List Token) → choose n (ahead ts) ≡ Some r → a ++ rest ≡ ts → ahead x ≡ ahead rest → choose n (ahead (a ++ x)) ≡ Some r
same_choice {n} r a ts rest x p s q = ap (λ j. choose n j) (ahead_same a x rest q ∙ ap ahead s) ∙ p

step_rule : (f : ℕ) (n : Class) (ss : List Symbol) (ts : List Token) (r : Rule n) (ws : Values (rhs r)) (mid : List Token) (us : Values ss) (vs : Values (phrase n ∷ ss)) (rest : List Token)
    → choose n (ahead ts) ≡ Some r → (act r ws, us) ≡ vs → Got f (rhs r) ts ws mid → Got f ss mid us rest → Got (suc f) (phrase n ∷ ss) ts vs rest
step_rule f n ss ts r ws mid us vs rest p ev i1 i2 = record {
  trees = node r i1.trees i2.trees;
  spelled = append_assoc a b rest ∙ ap (λ z. a ++ z) i2.spelled ∙ i1.spelled;
  given = ap₂ (λ z w. (act r z, w)) i1.given i2.given ∙ ev;
  other = other;
}
  where
    a : List Token
    a = spelling i1.trees

    b : List Token
    b = spelling i2.trees

    other : (g : ℕ) (x : List Token) → suc f ≤ g → ahead x ≡ ahead rest → run g (phrase n ∷ ss) ((spelling i1.trees ++ spelling i2.trees) ++ x) ≡ got vs x
    other zero x h q = absurd (omega arith)
    other (suc g) x h q =
        let bq : ahead (spelling i2.trees ++ x) ≡ ahead mid = ahead_same (spelling i2.trees) x rest q ∙ ap ahead i2.spelled in
        ap (λ z. run (suc g) (phrase n ∷ ss) z) (append_assoc (spelling i1.trees) (spelling i2.trees) x)
        ∙ ap (λ o. by_rule ss (run g) o (spelling i1.trees ++ (spelling i2.trees ++ x))) (same_choice r (spelling i1.trees) ts mid (spelling i2.trees ++ x) p i1.spelled bq)
        ∙ ap (λ z. next z (λ ws mid. next (run g ss mid) (λ vs rest. got (act r ws, vs) rest))) (i1.other g (spelling i2.trees ++ x) (omega arith) bq)
        ∙ ap (λ z. next z (λ vs rest. got (act r ws, vs) rest)) (i2.other g x (omega arith) q)
        ∙ ap (λ z. got z x) ev

-- what a run gives is the trees that the tokens which it took spell
pub sound : (f : ℕ) (ss : List Symbol) (ts : List Token) (vs : Values ss) (rest : List Token) → run f ss ts ≡ got vs rest → Got f ss ts vs rest
sound zero ss ts vs rest e = absurd (cc)
sound (suc f) [] ts vs rest e = record { trees = end; spelled = sym (got_rest e); given = got_value e; other = λ g x h q. at_end g x h }
  where
    at_end : (g : ℕ) (x : List Token) → suc f ≤ g → run g [] x ≡ got vs x
    at_end zero x h = absurd (omega arith)
    at_end (suc g) x h = ap (λ z. got z x) (got_value e)
sound (suc f) (token k ∷ ss) [] vs rest e = absurd (cc)
sound (suc f) (token k ∷ ss) (t ∷ ts) vs rest e = go (eqb (number_of (kind_of t)) (number_of k)) refl e (λ us q. sound f ss ts us rest q)
  where
    go : (b : Bool) → eqb (number_of (kind_of t)) (number_of k) ≡ b → by_token b (run f ss ts) t ts ≡ got vs rest
        → ((us : Values ss) → run f ss ts ≡ got us rest → Got f ss ts us rest) → Got (suc f) (token k ∷ ss) (t ∷ ts) vs rest
    go true p e ih =
        let q : (us : Values ss) × (m : List Token) × (run f ss ts ≡ got us m) × (got (t, us) m ≡ got vs rest) = next_got (run f ss ts) (λ us m. got (t, us) m) vs rest e in
        let em : q.1 ≡ rest = got_rest q.3 in
        step_token f k ss t ts q.0 vs rest p (got_value q.3) (ih q.0 (subst (λ z. run f ss ts ≡ got q.0 z) em q.2))
    go false p e ih = absurd (cc)
sound (suc f) (phrase n ∷ ss) ts vs rest e = go (choose n (ahead ts)) refl e (λ r us m q. sound f (rhs r) ts us m q) (λ m us q. sound f ss m us rest q)
  where
    go : (o : Option (Rule n)) → choose n (ahead ts) ≡ o → by_rule ss (run f) o ts ≡ got vs rest
        → ((r : Rule n) (us : Values (rhs r)) (m : List Token) → run f (rhs r) ts ≡ got us m → Got f (rhs r) ts us m)
        → ((m : List Token) (us : Values ss) → run f ss m ≡ got us rest → Got f ss m us rest)
        → Got (suc f) (phrase n ∷ ss) ts vs rest
    go None p e ih1 ih2 = absurd (cc)
    go (Some r) p e ih1 ih2 =
        let q : (ws : Values (rhs r)) × (m : List Token) × (run f (rhs r) ts ≡ got ws m) × (next (run f ss m) (λ us x. got (act r ws, us) x) ≡ got vs rest)
        = next_got (run f (rhs r) ts) (λ ws m. next (run f ss m) (λ us x. got (act r ws, us) x)) vs rest e in
        let w : (us : Values ss) × (m : List Token) × (run f ss q.1 ≡ got us m) × (got (act r q.0, us) m ≡ got vs rest)
        = next_got (run f ss q.1) (λ us x. got (act r q.0, us) x) vs rest q.3 in
        step_rule f n ss ts r q.0 q.1 w.0 vs rest p (got_value w.3) (ih1 r q.0 q.1 q.2) (ih2 q.1 w.0 (subst (λ z. run f ss q.1 ≡ got w.0 z) (got_rest w.3) w.2))

no_token : (k : Terminal) (ss : List Symbol) (g : ℕ) (x : List Token) → 1 ≤ g → eqb (ahead x) (number_of k) ≡ false → run g (token k ∷ ss) x ≡ stop x
no_token k ss zero x h e = absurd (omega arith)
no_token k ss (suc g) [] h e = refl
no_token k ss (suc g) (t ∷ x) h e = ap (λ b. by_token b (run g ss x) t x) e

stop_token : (f : ℕ) (k : Terminal) (ss : List Symbol) (ts : List Token) → eqb (ahead ts) (number_of k) ≡ false → Stopped (suc f) (token k ∷ ss) ts ts
stop_token f k ss ts e = record {
  taken = [];
  split = refl;
  trees = any_trees (token k ∷ ss);
  more = spelling (any_trees (token k ∷ ss));
  begins = refl;
  other = λ g x h q. no_token k ss g x (omega arith) (ap (λ j. eqb j (number_of k)) q ∙ e);
}

later_token : (f : ℕ) (k : Terminal) (ss : List Symbol) (t : Token) (ts left : List Token)
    → eqb (number_of (kind_of t)) (number_of k) ≡ true → Stopped f ss ts left → Stopped (suc f) (token k ∷ ss) (t ∷ ts) left
later_token f k ss t ts left p i = record {
  taken = t ∷ i.taken;
  split = ap (λ z. t ∷ z) i.split;
  trees = leaf t (same_terminal (kind_of t) k (eqb-true _ _ p)) i.trees;
  more = i.more;
  begins = ap (λ z. t ∷ z) i.begins;
  other = other;
}
  where
    other : (g : ℕ) (x : List Token) → suc f ≤ g → ahead x ≡ ahead left → run g (token k ∷ ss) (t ∷ (i.taken ++ x)) ≡ stop x
    other zero x h a = absurd (omega arith)
    other (suc g) x h a =
        ap (λ b. by_token b (run g ss (i.taken ++ x)) t (i.taken ++ x)) p
        ∙ ap (λ z. next z (λ us m. got (t, us) m)) (i.other g x (omega arith) a)

no_rule : (f : ℕ) (n : Class) (ss : List Symbol) (ts : List Token) → choose n (ahead ts) ≡ None → Stopped (suc f) (phrase n ∷ ss) ts ts
no_rule f n ss ts e = record {
  taken = [];
  split = refl;
  trees = any_trees (phrase n ∷ ss);
  more = spelling (any_trees (phrase n ∷ ss));
  begins = refl;
  other = other;
}
  where
    other : (g : ℕ) (x : List Token) → suc f ≤ g → ahead x ≡ ahead ts → run g (phrase n ∷ ss) x ≡ stop x
    other zero x h a = absurd (omega arith)
    other (suc g) x h a = ap (λ o. by_rule ss (run g) o x) (ap (λ j. choose n j) a ∙ e)

stop_in_rule : (f : ℕ) (n : Class) (ss : List Symbol) (ts left : List Token) (r : Rule n)
    → choose n (ahead ts) ≡ Some r → Stopped f (rhs r) ts left → Stopped (suc f) (phrase n ∷ ss) ts left
stop_in_rule f n ss ts left r p i = record {
  taken = i.taken;
  split = i.split;
  trees = node r i.trees (any_trees ss);
  more = i.more ++ spelling (any_trees ss);
  begins = ap (λ z. z ++ spelling (any_trees ss)) i.begins ∙ append_assoc i.taken i.more (spelling (any_trees ss));
  other = other;
}
  where
    other : (g : ℕ) (x : List Token) → suc f ≤ g → ahead x ≡ ahead left → run g (phrase n ∷ ss) (i.taken ++ x) ≡ stop x
    other zero x h a = absurd (omega arith)
    other (suc g) x h a =
        ap (λ o. by_rule ss (run g) o (i.taken ++ x)) (same_choice r i.taken ts left x p i.split a)
        ∙ ap (λ z. next z (λ ws mid. next (run g ss mid) (λ vs rest. got (act r ws, vs) rest))) (i.other g x (omega arith) a)

stop_behind : (f : ℕ) (n : Class) (ss : List Symbol) (ts : List Token) (r : Rule n) (ws : Values (rhs r)) (mid left : List Token)
    → choose n (ahead ts) ≡ Some r → Got f (rhs r) ts ws mid → Stopped f ss mid left → Stopped (suc f) (phrase n ∷ ss) ts left
stop_behind f n ss ts r ws mid left p i1 i2 = record {
  taken = spelling i1.trees ++ i2.taken;
  split = append_assoc (spelling i1.trees) i2.taken left ∙ ap (λ z. spelling i1.trees ++ z) i2.split ∙ i1.spelled;
  trees = node r i1.trees i2.trees;
  more = i2.more;
  begins = ap (λ z. spelling i1.trees ++ z) i2.begins ∙ sym (append_assoc (spelling i1.trees) i2.taken i2.more);
  other = other;
}
  where
    other : (g : ℕ) (x : List Token) → suc f ≤ g → ahead x ≡ ahead left → run g (phrase n ∷ ss) ((spelling i1.trees ++ i2.taken) ++ x) ≡ stop x
    other zero x h q = absurd (omega arith)
    other (suc g) x h q =
        let bq : ahead (i2.taken ++ x) ≡ ahead mid = ahead_same i2.taken x left q ∙ ap ahead i2.split in
        ap (λ z. run (suc g) (phrase n ∷ ss) z) (append_assoc (spelling i1.trees) i2.taken x)
        ∙ ap (λ o. by_rule ss (run g) o (spelling i1.trees ++ (i2.taken ++ x))) (same_choice r (spelling i1.trees) ts mid (i2.taken ++ x) p i1.spelled bq)
        ∙ ap (λ z. next z (λ ws mid. next (run g ss mid) (λ vs rest. got (act r ws, vs) rest))) (i1.other g (i2.taken ++ x) (omega arith) bq)
        ∙ ap (λ z. next z (λ vs rest. got (act r ws, vs) rest)) (i2.other g x (omega arith) q)

abbrev stop_of : (A : Type 0) → List Token → Run A
stop_of A x = stop x

stop_is : (A : Type 0) {x y : List Token} → stop_of A x ≡ stop_of A y → x ≡ y
stop_is A e = cc

-- where a run stops, the tokens taken begin a spelling, and others that begin so, with the same next one, stop there
pub stopped : (f : ℕ) (ss : List Symbol) (ts left : List Token) → run f ss ts ≡ stop left → Stopped f ss ts left
stopped zero ss ts left e = absurd (cc)
stopped (suc f) [] ts left e = absurd (cc)
stopped (suc f) (token k ∷ ss) [] left e = subst (λ z. Stopped (suc f) (token k ∷ ss) [] z) (stop_is (Values (token k ∷ ss)) e) (stop_token f k ss [] (number_positive k))
stopped (suc f) (token k ∷ ss) (t ∷ ts) left e = go (eqb (number_of (kind_of t)) (number_of k)) refl e (λ q. stopped f ss ts left q)
  where
    go : (b : Bool) → eqb (number_of (kind_of t)) (number_of k) ≡ b → by_token b (run f ss ts) t ts ≡ stop left
        → (run f ss ts ≡ stop left → Stopped f ss ts left) → Stopped (suc f) (token k ∷ ss) (t ∷ ts) left
    go true p e ih =
        elim (next_stop (run f ss ts) (λ us m. got (t, us) m) left e) [
          | inl q ↦ later_token f k ss t ts left p (ih q)
          | inr q ↦ absurd (got_not_stop q.3)
        ]
    go false p e ih = subst (λ z. Stopped (suc f) (token k ∷ ss) (t ∷ ts) z) (stop_is (Values (token k ∷ ss)) e) (stop_token f k ss (t ∷ ts) p)
stopped (suc f) (phrase n ∷ ss) ts left e = go (choose n (ahead ts)) refl e (λ r q. stopped f (rhs r) ts left q) (λ m q. stopped f ss m left q)
  where
    go : (o : Option (Rule n)) → choose n (ahead ts) ≡ o → by_rule ss (run f) o ts ≡ stop left
        → ((r : Rule n) → run f (rhs r) ts ≡ stop left → Stopped f (rhs r) ts left)
        → ((m : List Token) → run f ss m ≡ stop left → Stopped f ss m left)
        → Stopped (suc f) (phrase n ∷ ss) ts left
    go None p e ih1 ih2 = subst (λ z. Stopped (suc f) (phrase n ∷ ss) ts z) (stop_is (Values (phrase n ∷ ss)) e) (no_rule f n ss ts p)
    go (Some r) p e ih1 ih2 =
        elim (next_stop (run f (rhs r) ts) (λ ws m. next (run f ss m) (λ us x. got (act r ws, us) x)) left e) [
          | inl q ↦ stop_in_rule f n ss ts left r p (ih1 r q)
          | inr q ↦ elim (next_stop (run f ss q.1) (λ us x. got (act r q.0, us) x) left q.3) [
            | inl w ↦ stop_behind f n ss ts r q.0 q.1 left p (sound f (rhs r) ts q.0 q.1 q.2) (ih2 q.1 w)
            | inr w ↦ absurd (got_not_stop w.3)
          ]
        ]
