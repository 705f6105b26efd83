-- The laws of the grammar: at most one tree, and where a list of tokens that has none goes wrong.
-- Main results: one_tree, stop_is_farthest, rest_is_farthest, one_farthest.
use Rattle.std.proofs.Common.{◌≡◌, ℕ, zero, suc, ◌+◌, ◌<◌, ◌≤◌, true, refl, sym, ◌∙◌, ap, subst, List, [], ◌∷◌, ◌++◌, length, take, append_assoc, append-nil, length-append, arith, inl, inr, ◌⊎◌}
use Rattle.parse_grammar.specs.Grammar.{kind_of, Class, Units, Binds, phrase}
use Rattle.fing_lexer.specs.declared.token.Token.{Token}
use Rattle.parse_grammar.specs.Meaning.{Value, Values}
use Rattle.parse_grammar.specs.Tree.{spelling, values, Phrase}
use Rattle.parse_grammar.specs.Program.{Start, programs, units, Begins, Farthest}
use Rattle.parse_grammar.specs.Tables.{number_of}
use Rattle.parse_grammar.proofs.Sets.{fits}
use Rattle.parse_grammar.proofs.Checks.{behind_ok}
use Rattle.parse_grammar.proofs.Samples.{behind}
use Rattle.parse_grammar.specs.Reading.{got, stop, ahead, run}
use Rattle.parse_grammar.proofs.Run.{size, complete}
use Rattle.parse_grammar.proofs.Front.{Got, Stopped, sound, stopped, got_value, got_rest, got_not_stop}

-- two fronts of one list that are phrases of one class, each with something behind it that may follow, are the same
pub one_front : {n : Class} {u v : Value n} {a b : List Token} (x y : List Token) → fits (phrase n ∷ []) (ahead x) ≡ true → fits (phrase n ∷ []) (ahead y) ≡ true
    → Phrase n a u → Phrase n b v → a ++ x ≡ b ++ y → (u ≡ v) × (x ≡ y)
one_front {n} {u} {v} {a} {b} x y ex ey p q e =
    let g : ℕ = size p.parts + size q.parts in
    let one : run g (phrase n ∷ []) (a ++ x) ≡ got (values p.parts) x = ap (λ z. run g (phrase n ∷ []) (z ++ x)) (sym p.spelled) ∙ complete p.parts x g (omega arith) ex in
    let two : run g (phrase n ∷ []) (b ++ y) ≡ got (values q.parts) y = ap (λ z. run g (phrase n ∷ []) (z ++ y)) (sym q.spelled) ∙ complete q.parts y g (omega arith) ey in
    let both : got (values p.parts) x ≡ got (values q.parts) y = sym one ∙ ap (λ z. run g (phrase n ∷ []) z) e ∙ two in
    (sym p.given ∙ ap (λ z. z.0) (got_value both) ∙ q.given, got_rest both)

-- a list of tokens is a phrase of a class in at most one way
pub one_tree : {n : Class} {u v : Value n} {a : List Token} → Phrase n a u → Phrase n a v → u ≡ v
one_tree {n} {u} {v} {a} p q = (one_front {a = a} {b = a} (behind n) (behind n) (behind_ok n) (behind_ok n) p q refl).0

-- what a longer front of a list is
longer : (a l : List Token) (k : ℕ) → length a < k → k ≤ length (a ++ l) → (t : Token) × (x : List Token) × (take k (a ++ l) ≡ a ++ t ∷ x) × (number_of (kind_of t) ≡ ahead l)
longer [] l zero h w = absurd (omega arith)
longer [] [] (suc k) h w = absurd (omega arith)
longer [] (t ∷ l) (suc k) h w = (t, take k l, refl, refl)
longer (b ∷ a) l zero h w = absurd (omega arith)
longer (b ∷ a) l (suc k) h w =
    let ih : (t : Token) × (x : List Token) × (take k (a ++ l) ≡ a ++ t ∷ x) × (number_of (kind_of t) ≡ ahead l) = longer a l k (omega arith) (omega arith) in
    (ih.0, ih.1, ap (λ z. b ∷ z) ih.2, ih.3)

take_front : (a l : List Token) → take (length a) (a ++ l) ≡ a
take_front [] l = refl
take_front (b ∷ a) l = ap (λ z. b ∷ z) (take_front a l)

-- the end may stand behind a class from which a text starts
pub start_ok : {n : Class} → Start n → fits (phrase n ∷ []) (ahead []) ≡ true
start_ok programs = behind_ok Binds
start_ok units = behind_ok Units

whole_run : {n : Class} {p : Value n} {ts : List Token} (g : ℕ) → Start n → (w : Phrase n ts p) → size w.parts ≤ g → run g (phrase n ∷ []) ts ≡ got (values w.parts) []
whole_run {n} {p} {ts} g st w h =
    ap (λ z. run g (phrase n ∷ []) z) (sym (ap (λ z. z ++ []) w.spelled ∙ append-nil ts)) ∙ complete w.parts [] g h (start_ok st)

-- a run that stops shows where
pub stop_is_farthest : {n : Class} (f : ℕ) (ts left : List Token) → Start n → run f (phrase n ∷ []) ts ≡ stop left
    → (at : ℕ) × (at + length left ≡ length ts) × Farthest n ts at × ((p : Value n) → Phrase n ts p → ⊥)
stop_is_farthest {n} f ts left st e = (length s.taken, lengths, record { within = omega (arith, lengths); begins = begins; longest = longest }, none)
  where
    s : Stopped f (phrase n ∷ []) ts left
    s = stopped f (phrase n ∷ []) ts left e

    lengths : length s.taken + length left ≡ length ts
    lengths = sym (length-append s.taken left) ∙ ap length s.split

    never : (x : List Token) (p : Value n) → ahead x ≡ ahead left → Phrase n (s.taken ++ x) p → ⊥
    never x p a w = got_not_stop (sym (whole_run (f + size w.parts) st w (omega arith)) ∙ s.other (f + size w.parts) x (omega arith) a)

    begins : Begins n (take (length s.taken) ts)
    begins = subst (λ z. Begins n z) (sym (ap (λ z. take (length s.taken) z) (sym s.split) ∙ take_front s.taken left))
        (record { more = s.more; tree = (values s.trees).0; whole = record { parts = s.trees; spelled = s.begins; given = refl } })

    longest : (k : ℕ) → length s.taken < k → k ≤ length ts → Begins n (take k ts) → ⊥
    longest k h w b =
        let l : (t : Token) × (x : List Token) × (take k (s.taken ++ left) ≡ s.taken ++ t ∷ x) × (number_of (kind_of t) ≡ ahead left)
        = longer s.taken left k h (subst (λ z. k ≤ length z) (sym s.split) w) in
        let eq : take k ts ++ b.more ≡ s.taken ++ (l.0 ∷ (l.1 ++ b.more)) =
        ap (λ z. take k z ++ b.more) (sym s.split) ∙ ap (λ z. z ++ b.more) l.2 ∙ append_assoc s.taken (l.0 ∷ l.1) b.more in
        never (l.0 ∷ (l.1 ++ b.more)) b.tree l.3 (subst (λ z. Phrase n z b.tree) eq b.whole)

    none : (p : Value n) → Phrase n ts p → ⊥
    none p w = never left p refl (subst (λ z. Phrase n z p) (sym s.split) w)

-- a run that leaves tokens shows where the text goes wrong
pub rest_is_farthest : {n : Class} (f : ℕ) (ts : List Token) (vs : Values (phrase n ∷ [])) (t : Token) (rest : List Token) → Start n → run f (phrase n ∷ []) ts ≡ got vs (t ∷ rest)
    → (at : ℕ) × (at + length (t ∷ rest) ≡ length ts) × Farthest n ts at × ((p : Value n) → Phrase n ts p → ⊥)
rest_is_farthest {n} f ts vs t rest st e = (length taken, lengths, record { within = omega (arith, lengths); begins = begins; longest = longest }, none)
  where
    s : Got f (phrase n ∷ []) ts vs (t ∷ rest)
    s = sound f (phrase n ∷ []) ts vs (t ∷ rest) e

    taken : List Token
    taken = spelling s.trees

    lengths : length taken + length (t ∷ rest) ≡ length ts
    lengths = sym (length-append taken (t ∷ rest)) ∙ ap length s.spelled

    never : (u : Token) (x : List Token) (p : Value n) → number_of (kind_of u) ≡ number_of (kind_of t) → Phrase n (taken ++ u ∷ x) p → ⊥
    never u x p a w = not_empty (got_rest (sym (whole_run (f + size w.parts) st w (omega arith)) ∙ s.other (f + size w.parts) (u ∷ x) (omega arith) a))
      where
        not_empty : [] ≡ u ∷ x → ⊥
        not_empty q = cc

    begins : Begins n (take (length taken) ts)
    begins = subst (λ z. Begins n z) (sym (ap (λ z. take (length taken) z) (sym s.spelled) ∙ take_front taken (t ∷ rest)))
        (record { more = []; tree = (values s.trees).0; whole = record { parts = s.trees; spelled = sym (append-nil taken); given = refl } })

    longest : (k : ℕ) → length taken < k → k ≤ length ts → Begins n (take k ts) → ⊥
    longest k h w b =
        let l : (u : Token) × (x : List Token) × (take k (taken ++ t ∷ rest) ≡ taken ++ u ∷ x) × (number_of (kind_of u) ≡ number_of (kind_of t))
        = longer taken (t ∷ rest) k h (subst (λ z. k ≤ length z) (sym s.spelled) w) in
        let eq : take k ts ++ b.more ≡ taken ++ (l.0 ∷ (l.1 ++ b.more)) =
        ap (λ z. take k z ++ b.more) (sym s.spelled) ∙ ap (λ z. z ++ b.more) l.2 ∙ append_assoc taken (l.0 ∷ l.1) b.more in
        never l.0 (l.1 ++ b.more) b.tree l.3 (subst (λ z. Phrase n z b.tree) eq b.whole)

    none : (p : Value n) → Phrase n ts p → ⊥
    none p w = never t rest p refl (subst (λ z. Phrase n z p) (sym s.spelled) w)

-- a run to the end gives the phrase
pub end_is_phrase : {n : Class} (f : ℕ) (ts : List Token) (vs : Values (phrase n ∷ [])) → run f (phrase n ∷ []) ts ≡ got vs [] → Phrase n ts vs.0
end_is_phrase {n} f ts vs e =
    let s : Got f (phrase n ∷ []) ts vs [] = sound f (phrase n ∷ []) ts vs [] e in
    record { parts = s.trees; spelled = sym (append-nil (spelling s.trees)) ∙ s.spelled; given = ap (λ z. z.0) s.given }

-- a text goes wrong at one place at most
pub one_farthest : {n : Class} (ts : List Token) (a b : ℕ) → Farthest n ts a → Farthest n ts b → a ≡ b
one_farthest ts a b p q = go (order a b)
  where
    order : (a b : ℕ) → (a < b) ⊎ ((b < a) ⊎ (a ≡ b))
    order a b = grind arith

    go : (a < b) ⊎ ((b < a) ⊎ (a ≡ b)) → a ≡ b
    go (inl h) = absurd (p.longest b h q.within q.begins)
    go (inr (inl h)) = absurd (q.longest a h p.within p.begins)
    go (inr (inr h)) = h
