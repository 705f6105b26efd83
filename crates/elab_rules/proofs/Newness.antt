-- Names that are new among those of parts.
-- Main results: new-reverse, new-unreverse, new-step.
use Rattle.std.proofs.lemmas.Grind.{reverse_onto}
use Rattle.std.proofs.Common.{IsTrue, false, ◌≡◌, ◌≢◌, ◌∙◌, ℕ, zero, suc, ◌+◌, ◌<◌, List, [], ◌∷◌, ◌++◌, length, take, map, reverse, get_or, sym, ap, subst, arith, add-one}
use Rattle.omega_kinds.specs.Name.{Name}
use Rattle.sig_definitions.specs.Signatures.RecordOrder.{IsNew}

pub new-append : (l : Name) (xs ys : List Name) → IsNew l xs → IsNew l ys → IsNew l (xs ++ ys)
new-append l [] ys h i = i
new-append l (x ∷ xs) ys h i = (h.0, new-append l xs ys h.1 i)

pub new-front : (l : Name) (xs ys : List Name) → IsNew l (xs ++ ys) → IsNew l xs
new-front l [] ys h = tt
new-front l (x ∷ xs) ys h = (h.0, new-front l xs ys h.1)

pub new-back : (l : Name) (xs ys : List Name) → IsNew l (xs ++ ys) → IsNew l ys
new-back l [] ys h = h
new-back l (x ∷ xs) ys h = new-back l xs ys h.1

-- a name that is new among names is new among them in reverse order
pub new-reverse : (l : Name) (xs : List Name) → IsNew l xs → IsNew l (reverse xs)
new-reverse l [] h = tt
new-reverse l (x ∷ xs) h = subst (IsNew l) (sym (reverse_onto xs x [])) (new-append l (reverse xs) (x ∷ []) (new-reverse l xs h.1) (h.0, tt))

-- a name that is new among names in reverse order is new among them
pub new-unreverse : (l : Name) (xs : List Name) → IsNew l (reverse xs) → IsNew l xs
new-unreverse l [] h = tt
new-unreverse l (x ∷ xs) h =
    let w : IsNew l (reverse xs ++ (x ∷ [])) = subst (IsNew l) (reverse_onto xs x []) h in
    ((new-back l (reverse xs) (x ∷ []) w).0, new-unreverse l xs (new-front l (reverse xs) (x ∷ []) w))

step : {T : Type 0} (l : Name) (n : ℕ) (xs : List (Name × T)) (x : Name × T) → n < length xs → x ≡ get_or xs n x → IsNew l (map (λ p. p.0) (take n xs)) → l ≢ x.0 → IsNew l (map (λ p. p.0) (take (suc n) xs))
step l n [] x b e h d = absurd (omega arith)
step l zero (y ∷ ys) x b e h d = (subst (λ z. l ≢ z.0) e d, tt)
step l (suc n) (y ∷ ys) x b e h d = (h.0, step l n ys x (omega arith) e h.1 d)

-- a name that is new among the first names and is not the next one is new with this one among them
pub new-step : {T : Type 0} (l : Name) (n : ℕ) (xs : List (Name × T)) (x : Name × T) → n < length xs → x ≡ get_or xs n x → IsNew l (map (λ p. p.0) (take n xs)) → l ≢ x.0 → IsNew l (map (λ p. p.0) (take (n + 1) xs))
new-step l n xs x b e h d = rw add-one (step l n xs x b e h d)

-- a name that is one of a list is not new among the list
pub old-here : {T : Type 0} (l : Name) (n : ℕ) (xs : List (Name × T)) (x : Name × T) → n < length xs → x ≡ get_or xs n x → l ≡ x.0 → IsNew l (map (λ p. p.0) xs) → ⊥
old-here l n [] x b e s h = absurd (omega arith)
old-here l zero (y ∷ ys) x b e s h = h.0 (s ∙ ap (λ z. z.0) e)
old-here l (suc n) (y ∷ ys) x b e s h = old-here l n ys x (omega arith) e s h.1

-- what implies a false test does not hold
pub not-true : {P : Type 0} → (P → IsTrue false) → P → ⊥
not-true f p = let h : IsTrue false = f p in cc
