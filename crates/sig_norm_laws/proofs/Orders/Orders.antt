-- An order of quantifiers takes each variable exactly once.
-- Main results: place-nth, nth-place, stages, renumber-own.
use Rattle.std.specs.Prelude.{ℕ, zero, suc, ◌<◌, ◌≤◌, List, [], ◌∷◌, ◌≡◌, ◌≢◌, ◌==◌, ◌⊎◌, nat_lt, length, cond, Bool, true, false}
use Rattle.std.proofs.Common.{arith}
use Rattle.std.proofs.Math.Decide.{ℕ_discrete}
use Rattle.std.proofs.Math.Path.{refl, sym, ◌∙◌, ap}
use Rattle.std.proofs.lemmas.List.{length-map}
use mathlib.Core.Logic.{inl, inr}
use Rattle.std.proofs.lemmas.Bool.{eqb-true, eq-eqb, false_from_ne_true, cond-true, lt-ltb, ltb-true}
use Rattle.omega_kinds.specs.Kind.{Kind}
use Rattle.omega_types.specs.Normaliser.{kind_at}
use Rattle.omega_types.specs.Binders.{extend, past, own}
use Rattle.sig_definitions.specs.Signatures.Sig.{Sig}
use Rattle.sig_definitions.specs.Explicit.SigPath.{SigPath}
use Rattle.sig_definitions.specs.Explicit.RootPath.{Rooted, ParamsAvoid}
use Rattle.sig_definitions.specs.QuantifierOrder.{Untaken, counts, Taking, done, next, NewOrder, reordered, place, renumber}
use Rattle.sig_laws.proofs.Algebra.BinderLaws.{past-length}
use Rattle.sig_laws.proofs.Algebra.Own.{split_index}
use Rattle.sig_norm_laws.proofs.Orders.OrderUnique.{counts-untaken, same-own}
use Rattle.sig_laws.proofs.Formed.NormGood.{order-length}

abbrev choose : {P : Type 0} → Dec P → ℕ → ℕ → ℕ
choose (yes e) a b = a
choose (no h) a b = b

-- a map of the numbers below m to those below n that keeps them apart
pub pigeonhole : (n m : ℕ) (f : ℕ → ℕ) → ((k : ℕ) → k < m → f k < n) → ((k j : ℕ) → k < m → j < m → f k ≡ f j → k ≡ j) → m ≤ n
pigeonhole zero zero f b i = omega arith
pigeonhole zero (suc m) f b i = let e = b zero (omega arith) in absurd (omega (arith, e))
pigeonhole (suc n) zero f b i = omega arith
pigeonhole (suc n) (suc m) f b i = let h = pigeonhole n m (λ k. choose (ℕ_discrete (f k) n) (f m) (f k)) (λ k lt. bound-if k lt (ℕ_discrete (f k) n)) (λ k j lk lj q. apart-if k j lk lj (ℕ_discrete (f k) n) (ℕ_discrete (f j) n) q) in omega (arith, h)
  where
    bound-if : (k : ℕ) → k < m → (d : Dec (f k ≡ n)) → choose d (f m) (f k) < n
    bound-if k lt (yes e) = go (ℕ_discrete (f m) n)
      where
        go : Dec (f m ≡ n) → f m < n
        go (yes g) = let c = i k m (omega arith) (omega arith) (e ∙ sym g) in absurd (omega (arith, c, lt))
        go (no g) = let c = b m (omega arith) in grind (arith, c, g)
    bound-if k lt (no h) = let c = b k (omega arith) in grind (arith, c, h)

    apart-if : (k j : ℕ) → k < m → j < m → (c : Dec (f k ≡ n)) (d : Dec (f j ≡ n)) → choose c (f m) (f k) ≡ choose d (f m) (f j) → k ≡ j
    apart-if k j lk lj (yes e) (yes g) q = i k j (omega arith) (omega arith) (e ∙ sym g)
    apart-if k j lk lj (yes e) (no h) q = let c = i m j (omega arith) (omega arith) q in absurd (omega (arith, c, lj))
    apart-if k j lk lj (no h) (yes e) q = let c = i k m (omega arith) (omega arith) q in absurd (omega (arith, c, lk))
    apart-if k j lk lj (no h) (no g) q = i k j (omega arith) (omega arith) q

-- each number in a list is below n
abbrev pub AllBelow : ℕ → List ℕ → Type 0
AllBelow n [] = Unit {0}
AllBelow n (i ∷ is) = (i < n) × AllBelow n is

-- the number at a place
abbrev pub nth : List ℕ → ℕ → ℕ
nth [] k = zero
nth (i ∷ order) zero = i
nth (i ∷ order) (suc k) = nth order k

-- the place of the first number of an order is the first
pub place-same : (i : ℕ) (order : List ℕ) → place (i ∷ order) i ≡ zero
place-same i order = go (i == i) (eq-eqb i i refl)
  where
    go : (b : Bool) → b ≡ true → cond b zero (suc (place order i)) ≡ zero
    go true e = refl
    go false e = absurd (cc e)

-- any other number has its place one further than in the rest
pub place-other : (i j : ℕ) (order : List ℕ) → j ≢ i → place (i ∷ order) j ≡ suc (place order j)
place-other i j order h = go (j == i) (false_from_ne_true (j == i) (λ e. h (eqb-true j i e)))
  where
    go : (b : Bool) → b ≡ false → cond b zero (suc (place order j)) ≡ suc (place order j)
    go false e = refl
    go true e = absurd (cc e)

-- each number of an order is none of those taken before
pub nth-untaken : {ctx ks : List Kind} {s : Sig} {taken order : List ℕ} (k : ℕ) → Taking ctx ks s taken order → k < length order → Untaken ks taken (nth order k)
nth-untaken k (done h) lt = absurd (omega (arith, lt))
nth-untaken zero (next c g t) lt = counts-untaken c
nth-untaken {taken = taken} (suc k) (next {order = o} {number = i} c g t) lt = let u = nth-untaken k t (omega (arith, lt)) in (u.0, u.1.1)

-- the place of the number at a place is this place
pub place-nth : {ctx ks : List Kind} {s : Sig} {taken order : List ℕ} (k : ℕ) → Taking ctx ks s taken order → k < length order → place order (nth order k) ≡ k
place-nth k (done h) lt = absurd (omega (arith, lt))
place-nth zero (next {order = o} {number = i} c g t) lt = place-same i o
place-nth {taken = taken} (suc k) (next {order = o} {number = i} c g t) lt =
    place-other i (nth o k) o ((nth-untaken k t (omega (arith, lt))).1.0) ∙ ap suc (place-nth k t (omega (arith, lt)))

-- each number that is not taken has a place in the order, where it stands
pub nth-place : {ctx ks : List Kind} {s : Sig} {taken order : List ℕ} (v : ℕ) → Taking ctx ks s taken order → Untaken ks taken v → (place order v < length order) × (nth order (place order v) ≡ v)
nth-place v (done h) u = absurd (h v u)
nth-place {ks = ks} {taken = taken} v (next {order = o} {number = i} c g t) u = go (ℕ_discrete v i) (nth-place v t)
  where
    go : Dec (v ≡ i) → (Untaken ks (i ∷ taken) v → (place o v < length o) × (nth o (place o v) ≡ v)) → (place (i ∷ o) v < length (i ∷ o)) × (nth (i ∷ o) (place (i ∷ o) v) ≡ v)
    go (yes e) ih = let q = ap (place (i ∷ o)) e ∙ place-same i o in (omega (arith, q), ap (nth (i ∷ o)) q ∙ sym e)
    go (no h) ih = let q = place-other i v o h in let w : (place o v < length o) × (nth o (place o v) ≡ v) = ih (u.0, (h, u.1)) in (omega (arith, q, w.0), ap (nth (i ∷ o)) q ∙ w.1)

-- what Counts says of the number at a place
pub data Stage (ctx ks : List Kind) (s : Sig) (order : List ℕ) (k : ℕ) : Type 0 where
  stage : {p : SigPath} → Rooted (extend ctx ks) s (own ks (nth order k)) p → ((j : ℕ) → k ≤ j → j < length order → ParamsAvoid (extend ctx ks) s p (own ks (nth order j))) → Stage ctx ks s order k

-- at each place of an order stands a number that is rooted at a path whose parameters avoid it and those after it
pub stages : {ctx ks : List Kind} {s : Sig} {taken order : List ℕ} (k : ℕ) → Taking ctx ks s taken order → k < length order → Stage ctx ks s order k
stages k (done h) lt = absurd (omega (arith, lt))
stages {ctx} {ks} {s} {taken} zero (next {order = o} {number = i} {p = p} (counts u r a) g t) lt = stage r go
  where
    go : (j : ℕ) → zero ≤ j → j < length (i ∷ o) → ParamsAvoid (extend ctx ks) s p (own ks (nth (i ∷ o) j))
    go zero le h = a i u
    go (suc j) le h = let w = nth-untaken j t (omega (arith, h)) in a (nth o j) (w.0, w.1.1)
stages {ctx} {ks} {s} (suc k) (next {order = o} {number = i} c g t) lt = go (stages k t (omega (arith, lt)))
  where
    go : Stage ctx ks s o k → Stage ctx ks s (i ∷ o) (suc k)
    go (stage {p = p} r a) = stage r later
      where
        later : (j : ℕ) → suc k ≤ j → j < length (i ∷ o) → ParamsAvoid (extend ctx ks) s p (own ks (nth (i ∷ o) j))
        later zero le h = absurd (omega (arith, le))
        later (suc j) le h = a j (omega (arith, le)) (omega (arith, h))

-- where the variables of binders stand

-- the number of the index of a number, and the index of the number of an index, are the same again
pub own-own : (ks : List Kind) (i : ℕ) → i < length ks → own ks (own ks i) ≡ i
own-own ks i h = omega arith

-- the kind at a place of the new order is that of the number there
pub kind_at-reordered : (ks : List Kind) (order : List ℕ) (k : ℕ) → k < length order → kind_at (reordered ks order) k ≡ kind_at ks (nth order k)
kind_at-reordered ks [] k h = absurd (omega (arith, h))
kind_at-reordered ks (i ∷ order) zero h = refl
kind_at-reordered ks (i ∷ order) (suc k) h = kind_at-reordered ks order k (omega (arith, h))

-- the kinds in the new order are as many as before
pub reordered-length : {ctx ks : List Kind} {s : Sig} {order : List ℕ} → NewOrder ctx ks s order → length (reordered ks order) ≡ length ks
reordered-length {ks = ks} {order = order} t = length-map order (kind_at ks) ∙ order-length t

-- renumbering takes an index of the binders to that of its new place
pub renumber-below : (ks : List Kind) (order : List ℕ) (i : ℕ) → i < length ks → renumber ks order i ≡ own ks (place order (own ks i))
renumber-below ks order i h = cond-true (nat_lt i (length ks)) (own ks (place order (own ks i))) i (lt-ltb i (length ks) h)

-- renumbering takes the variable of a number to that of its new place
pub renumber-own : (ks : List Kind) (order : List ℕ) (v : ℕ) → v < length ks → renumber ks order (own ks v) ≡ own ks (place order v)
renumber-own ks order v h = renumber-below ks order (own ks v) (omega (arith, h)) ∙ ap (λ n. own ks (place order n)) (own-own ks v h)

-- renumbering leaves an index from outside as it is
pub renumber-past : (ks : List Kind) (order : List ℕ) (i : ℕ) → renumber ks order (past ks i) ≡ past ks i
renumber-past ks order i = go (nat_lt (past ks i) (length ks)) (false_from_ne_true (nat_lt (past ks i) (length ks)) (λ e. let h = ltb-true (past ks i) (length ks) e in let p = past-length ks i in omega (arith, h, p)))
  where
    go : (b : Bool) → b ≡ false → cond b (own ks (place order (own ks (past ks i)))) (past ks i) ≡ past ks i
    go false e = refl
    go true e = absurd (cc e)

-- only one index becomes a variable of the new binders
pub renumber-only : {ctx ks : List Kind} {s : Sig} {order : List ℕ} → NewOrder ctx ks s order → (j : ℕ) → j < length order → (x : ℕ) → renumber ks order x ≡ own ks j → x ≡ own ks (nth order j)
renumber-only {ctx} {ks} {s} {order} t j h x e = go (split_index ks x)
  where
    go : (x < length ks) ⊎ ((i : ℕ) × (x ≡ past ks i)) → x ≡ own ks (nth order j)
    go (inl g) =
        let lv : own ks x < length ks = omega (arith, g) in
        let w = nth-place (own ks x) t (lv, tt) in
        let l = order-length t in
        let f : place order (own ks x) ≡ j = same-own (length ks) (place order (own ks x)) j (omega (arith, l, w.0)) (omega (arith, l, h)) (sym (renumber-below ks order x g) ∙ e) in
        sym (own-own ks x g) ∙ ap (own ks) (sym w.1 ∙ ap (nth order) f)
    go (inr (i, f)) =
        let p = past-length ks i in
        let l = order-length t in
        let q : past ks i ≡ own ks j = sym (renumber-past ks order i) ∙ (ap (renumber ks order) (sym f) ∙ e) in
        absurd (omega (arith, p, q, l, h))
