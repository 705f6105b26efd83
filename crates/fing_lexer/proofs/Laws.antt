-- Each text has one outcome: its tokens, or one refusal.
-- Main results: has_one_outcome.
use Rattle.std.proofs.Common.{◌≡◌, ℕ, zero, suc, ◌+◌, ◌<◌, ◌≤◌, Bool, true, false, refl, sym, ◌∙◌, ap, ap₂, subst, subst₂, List, [], ◌∷◌, length, take, drop, length-drop, arith, inl, inr, ◌⊎◌}
use Rattle.std.specs.Prelude.{Option, Some, None, nat_le, if◌then◌else◌}
use Rattle.fing_lexer.specs.declared.token.Token.{Token}
use Rattle.fing_lexer.specs.Lexeme.{lexeme}
use Rattle.fing_lexer.specs.Nest.{Nest, whole_file, counted, opened, total}
use Rattle.fing_lexer.specs.Tokens.{skipped, Longest, BeginsNone, begins_with, Front, End, Skip, Found, NoText, NoByte, Stands, Outcome, Bad, Step, Done, Go, step, prepend, Lexes, done, go, OneOutcome, is_in_range, token_at}
use Rattle.fing_lexer.specs.declared.token.What.{What}
use Rattle.fing_lexer.specs.declared.lexer.LexRefusal.TheVariants.{Wide, TooDeep}

-- the empty string of bytes is no token
pub no_empty : lexeme [] ≡ None
unfolding lexeme
no_empty = refl

skip_none : skipped [] ≡ 0
unfolding skipped
skip_none = refl

-- an option is not both a value and none
pub some_none : {A : Type 0} {a : A} {o : Option A} → o ≡ Some a → o ≡ None → ⊥
some_none e h = cc

-- one length is the longest, and it is one token
longest_once : (bytes : List ℕ) (n m : ℕ) (l k : What) → Longest bytes n l → Longest bytes m k → Found n l ≡ Found m k
longest_once bytes n m l k p q = order (grind arith)
  where
    order : (n < m) ⊎ ((m < n) ⊎ (n ≡ m)) → Found n l ≡ Found m k
    order (inl h) = absurd (some_none q.is (p.longest m h q.within))
    order (inr (inl h)) = absurd (some_none p.is (q.longest n h p.within))
    order (inr (inr e)) =
        let same : Some l ≡ Some k = sym p.is ∙ ap (λ i. lexeme (take i bytes)) e ∙ q.is in
        let lk : l ≡ k = cc in
        cc

longest_not_none : (bytes : List ℕ) (n : ℕ) (l : What) → Longest bytes n l → BeginsNone bytes → ⊥
longest_not_none bytes n l p q = some_none p.is (q n p.within)

found_in_none : (bytes : List ℕ) (n : ℕ) (l : What) → bytes ≡ [] → Longest bytes n l → ⊥
found_in_none bytes n l p q = some_none (sym (ap (λ b. lexeme (take n b)) p) ∙ q.is) (empty n)
  where
    empty : (n : ℕ) → lexeme (take n []) ≡ None
    empty zero = no_empty
    empty (suc n) = no_empty

-- what stands at the start of bytes
pub stands_once : (bytes : List ℕ) (f g : Front) → Stands bytes f → Stands bytes g → f ≡ g
stands_once bytes End End p q = refl
stands_once bytes End (Skip n) p q = absurd (let z : skipped bytes ≡ 0 = ap skipped p ∙ skip_none in omega (arith, z, q.0, q.1))
stands_once bytes End (Found n l) p q = absurd (found_in_none bytes n l p q.1)
stands_once bytes End NoText p q = absurd (let z : begins_with 34 [] ≡ true = ap (begins_with 34) (sym p) ∙ q.1 in cc)
stands_once bytes End NoByte p q = absurd (let z : length bytes ≡ 0 = ap length p in omega (arith, z, q.1))
stands_once bytes (Skip n) End p q = absurd (let z : skipped bytes ≡ 0 = ap skipped q ∙ skip_none in omega (arith, z, p.0, p.1))
stands_once bytes (Skip n) (Skip m) p q = ap (λ i. Skip i) (sym p.1 ∙ q.1)
stands_once bytes (Skip n) (Found m l) p q = absurd (omega (arith, p.0, p.1, q.0))
stands_once bytes (Skip n) NoText p q = absurd (omega (arith, p.0, p.1, q.0))
stands_once bytes (Skip n) NoByte p q = absurd (omega (arith, p.0, p.1, q.0))
stands_once bytes (Found n l) End p q = absurd (found_in_none bytes n l q p.1)
stands_once bytes (Found n l) (Skip m) p q = absurd (omega (arith, p.0, q.0, q.1))
stands_once bytes (Found n l) (Found m k) p q = longest_once bytes n m l k p.1 q.1
stands_once bytes (Found n l) NoText p q = absurd (longest_not_none bytes n l p.1 q.2)
stands_once bytes (Found n l) NoByte p q = absurd (longest_not_none bytes n l p.1 q.3)
stands_once bytes NoText End p q = absurd (let z : begins_with 34 [] ≡ true = ap (begins_with 34) (sym q) ∙ p.1 in cc)
stands_once bytes NoText (Skip m) p q = absurd (omega (arith, p.0, q.0, q.1))
stands_once bytes NoText (Found m k) p q = absurd (longest_not_none bytes m k q.1 p.2)
stands_once bytes NoText NoText p q = refl
stands_once bytes NoText NoByte p q = absurd (let z : true ≡ false = sym p.1 ∙ q.2 in cc)
stands_once bytes NoByte End p q = absurd (let z : length bytes ≡ 0 = ap length q in omega (arith, z, p.1))
stands_once bytes NoByte (Skip m) p q = absurd (omega (arith, p.0, q.0, q.1))
stands_once bytes NoByte (Found m k) p q = absurd (longest_not_none bytes m k q.1 p.3)
stands_once bytes NoByte NoText p q = absurd (let z : true ≡ false = sym q.1 ∙ p.2 in cc)
stands_once bytes NoByte NoByte p q = refl

-- the longest token is found by trying
search_longest : (bytes : List ℕ) (n : ℕ) → n ≤ length bytes → ((m : ℕ) → n < m → m ≤ length bytes → lexeme (take m bytes) ≡ None)
    → ((k : ℕ) × (l : What) × Longest bytes k l) ⊎ BeginsNone bytes
search_longest bytes zero h above = inr (λ m w. at m w)
  where
    at : (m : ℕ) → m ≤ length bytes → lexeme (take m bytes) ≡ None
    at zero w = no_empty
    at (suc m) w = above (suc m) (omega arith) w
search_longest bytes (suc n) h above = try (lexeme (take (suc n) bytes)) refl (λ e. search_longest bytes n (omega arith) (λ m a b. below e m a b))
  where
    below : lexeme (take (suc n) bytes) ≡ None → (m : ℕ) → n < m → m ≤ length bytes → lexeme (take m bytes) ≡ None
    below e m a b = pick (grind arith)
      where
        pick : (suc n ≡ m) ⊎ (suc n < m) → lexeme (take m bytes) ≡ None
        pick (inl q) = subst (λ i. lexeme (take i bytes) ≡ None) q e
        pick (inr q) = above m q b

    try : (o : Option What) → lexeme (take (suc n) bytes) ≡ o → (lexeme (take (suc n) bytes) ≡ None → ((k : ℕ) × (l : What) × Longest bytes k l) ⊎ BeginsNone bytes)
        → ((k : ℕ) × (l : What) × Longest bytes k l) ⊎ BeginsNone bytes
    try None e ih = ih e
    try (Some l) e ih = inl (suc n, l, record { within = h; is = e; longest = above })

pub stands_some : (bytes : List ℕ) → (f : Front) × Stands bytes f
stands_some [] = (End, refl)
stands_some (b ∷ bs) = by_skip (skipped (b ∷ bs)) refl
  where
    none : skipped (b ∷ bs) ≡ 0 → BeginsNone (b ∷ bs) → (q : Bool) → begins_with 34 (b ∷ bs) ≡ q → (f : Front) × Stands (b ∷ bs) f
    none z n true e = (NoText, (z, e, n))
    none z n false e = (NoByte, (z, omega arith, e, n))

    by_token : skipped (b ∷ bs) ≡ 0 → ((k : ℕ) × (l : What) × Longest (b ∷ bs) k l) ⊎ BeginsNone (b ∷ bs) → (f : Front) × Stands (b ∷ bs) f
    by_token z (inl q) = (Found q.0 q.1, (z, q.2))
    by_token z (inr n) = none z n (begins_with 34 (b ∷ bs)) refl

    by_skip : (k : ℕ) → skipped (b ∷ bs) ≡ k → (f : Front) × Stands (b ∷ bs) f
    by_skip zero z = by_token z (search_longest (b ∷ bs) (length (b ∷ bs)) (omega arith) (λ m u v. absurd (omega arith)))
    by_skip (suc k) z = (Skip (suc k), (omega arith, z))

done_is : {o p : Outcome} → Done o ≡ Done p → o ≡ p
done_is e = cc

-- a step does not both end and go on
pub not_both : {o : Outcome} {n : ℕ} {add : List Token} {nest : Nest} → Done o ≡ Go n add nest → ⊥
not_both e = cc

-- a text has at most one outcome
pub one_outcome : {at : ℕ} {nest : Nest} {bytes : List ℕ} {o p : Outcome} → Lexes at nest bytes o → Lexes at nest bytes p → o ≡ p
one_outcome {at} {nest} {bytes} (done f s e) (done g t h) = done_is (sym e ∙ ap (step at nest) (stands_once bytes f g s t) ∙ h)
one_outcome {at} {nest} {bytes} (done f s e) (go g n add m rest t h k q) = absurd (not_both (sym e ∙ ap (step at nest) (stands_once bytes f g s t) ∙ h))
one_outcome {at} {nest} {bytes} (go f n add m rest s e k q) (done g t h) = absurd (not_both (sym h ∙ ap (step at nest) (stands_once bytes g f t s) ∙ e))
one_outcome {at} {nest} {bytes} (go f n add m rest s e k q) (go g n' add' m' rest' t h k' q') =
    let same : Go n add m ≡ Go n' add' m' = sym e ∙ ap (step at nest) (stands_once bytes f g s t) ∙ h in
    let ns : n ≡ n' = cc in
    let adds : add ≡ add' = cc in
    let ms : m ≡ m' = cc in
    let P : ℕ → Nest → Type 0 = λ i w. Lexes (at + i) w (drop i bytes) rest' in
    let ih : rest ≡ rest' = one_outcome k (subst₂ P (sym ns) (sym ms) k') in
    q ∙ ap₂ prepend adds ih ∙ sym q'

-- a text goes on behind at least one byte
shorter : (bytes : List ℕ) (f : Front) (n : ℕ) (add : List Token) (at : ℕ) (nest m : Nest) → Stands bytes f → step at nest f ≡ Go n add m → length (drop n bytes) < length bytes
shorter bytes End n add at nest m s e = absurd (not_both e)
shorter bytes (Skip k) n add at nest m s e = some_bytes bytes (let q : k ≡ n = cc in subst (λ i. 0 < i) q s.0) (let q : k ≡ n = cc in s.1 ∙ q)
  where
    some_bytes : (bytes : List ℕ) → 0 < n → skipped bytes ≡ n → length (drop n bytes) < length bytes
    some_bytes [] h z = absurd (let w : skipped [] ≡ 0 = skip_none in omega (arith, w, h, z))
    some_bytes (b ∷ bs) h z = omega (arith, length-drop n (b ∷ bs))
shorter bytes (Found k l) n add at nest m s e = go_on (is_in_range l) (nat_le (total (counted nest l)) 1000) e
  where
    positive : (k : ℕ) → Longest bytes k l → 0 < k
    positive zero q = absurd (some_none q.is no_empty)
    positive (suc k) q = omega arith

    go_on : (a b : Bool) → (if a then (if b then Go k (token_at at k l ∷ []) (opened (counted nest l) l) else Done (Bad (TooDeep at))) else Done (Bad (Wide at))) ≡ Go n add m
        → length (drop n bytes) < length bytes
    go_on true true e = let q : k ≡ n = cc in omega (arith, length-drop n bytes, positive k s.1, s.1.within, q)
    go_on true false e = absurd (not_both e)
    go_on false b e = absurd (not_both e)
shorter bytes NoText n add at nest m s e = absurd (not_both e)
shorter bytes NoByte n add at nest m s e = absurd (not_both e)

-- each text has an outcome
pub some_outcome : (fuel at : ℕ) (nest : Nest) (bytes : List ℕ) → length bytes < fuel → (o : Outcome) × Lexes at nest bytes o
some_outcome zero at nest bytes h = absurd (omega arith)
some_outcome (suc fuel) at nest bytes h = by_front (stands_some bytes) (λ i m b w. some_outcome fuel i m b w)
  where
    by_step : (f : Front) → Stands bytes f → (t : Step) → step at nest f ≡ t → ((n : ℕ) (add : List Token) (m : Nest) → step at nest f ≡ Go n add m → (o : Outcome) × Lexes (at + n) m (drop n bytes) o) → (o : Outcome) × Lexes at nest bytes o
    by_step f s (Done o) e ih = (o, done f s e)
    by_step f s (Go n add m) e ih = let r = ih n add m e in (prepend add r.0, go f n add m r.0 s e r.1 refl)

    by_front : (f : Front) × Stands bytes f → ((i : ℕ) (m : Nest) (b : List ℕ) → length b < fuel → (o : Outcome) × Lexes i m b o) → (o : Outcome) × Lexes at nest bytes o
    by_front q rec = by_step q.0 q.1 (step at nest q.0) refl (λ n add m e. rec (at + n) m (drop n bytes) (omega (arith, shorter bytes q.0 n add at nest m q.1 e)))

-- a text has its tokens or one refusal, and not both
pub has_one_outcome : (bytes : List ℕ) → OneOutcome bytes
has_one_outcome bytes =
    let r : (o : Outcome) × Lexes 0 whole_file bytes o = some_outcome (suc (length bytes)) 0 whole_file bytes (omega arith) in
    record { outcome = r.0; holds = r.1; only = λ o h. one_outcome h r.1 }
