-- Lists of paths that are found, one part of the walk after the other.
-- Main results: merged-twice, find-put, walk-after, start-get.
use Rattle.std.specs.Prelude.{ℕ, zero, suc, ◌-◌, ◌<◌, ◌≡◌, List, [], ◌∷◌, ◌++◌, length, map, reverse, Option, Some, None, nat_eq, true, false, Bool as Truth, slice_get}
use Rattle.std.proofs.Common.{arith, set, get_or, append_assoc}
use Rattle.std.proofs.lemmas.Bool.Decides.{nat_tests}
use Rattle.std.proofs.lemmas.List.{get_or-reverse, length-reverse}
use Rattle.std.proofs.lemmas.Option.{slice_get_within, get_or_from_slice_get, slice_get-get_or}
use Rattle.std.proofs.Math.Path.{refl, sym, ap, ap₂, ◌∙◌}
use Rattle.sig_definitions.specs.Explicit.SigPath.{SigPath, Item}
use Rattle.sig_match_laws.specs.RootSearch.{after, or_else}
use Rattle.sig_roots.specs.Inner.Seek.{is_open, unless_barred, ends, behind, merged}

-- of each hidden type the path that is found, if any
abbrev pub Found : Type 0
Found = List (Option SigPath)

or_else-none : (a : Option SigPath) → or_else a None ≡ a
or_else-none None = refl
or_else-none (Some p) = refl

or_else-assoc : (a b c : Option SigPath) → or_else (or_else a b) c ≡ or_else a (or_else b c)
or_else-assoc None b c = refl
or_else-assoc (Some p) b c = refl

pub merged-none : (f : ℕ → Option SigPath) (xs : Found) → ((own : ℕ) → f own ≡ None) → merged f xs ≡ xs
merged-none f [] h = refl
merged-none f (o ∷ xs) h = ap₂ ◌∷◌ (ap (or_else o) (h zero) ∙ or_else-none o) (merged-none (λ own. f (suc own)) xs (λ own. h (suc own)))

-- paths merged by functions that agree are the same
pub merged-same : (f g : ℕ → Option SigPath) (xs : Found) → ((own : ℕ) → f own ≡ g own) → merged f xs ≡ merged g xs
merged-same f g [] h = refl
merged-same f g (o ∷ xs) h = ap₂ ◌∷◌ (ap (or_else o) (h zero)) (merged-same (λ own. f (suc own)) (λ own. g (suc own)) xs (λ own. h (suc own)))

-- paths merged twice have, of each variable, what was found before, else first, else second
pub merged-twice : (f g : ℕ → Option SigPath) (xs : Found) → merged g (merged f xs) ≡ merged (λ own. or_else (f own) (g own)) xs
merged-twice f g [] = refl
merged-twice f g (o ∷ xs) = ap₂ ◌∷◌ (or_else-assoc o (f zero) (g zero)) (merged-twice (λ own. f (suc own)) (λ own. g (suc own)) xs)

-- merging keeps how many variables there are
pub length-merged : (f : ℕ → Option SigPath) (xs : Found) → length (merged f xs) ≡ length xs
length-merged f [] = refl
length-merged f (o ∷ xs) = ap suc (length-merged (λ own. f (suc own)) xs)

-- one path that is found

ends-other : (own other : ℕ) → (other ≡ own → ⊥) → ends (Some own) other ≡ None
ends-other own other n = go (nat_eq own other) refl
  where
    go : (b : Truth) → nat_eq own other ≡ b → ends (Some own) other ≡ None
    go true e = absurd (n (sym (grind (arith, nat_tests))))
    go false e = rw e refl

pub ends-same : (own : ℕ) → ends (Some own) own ≡ Some []
ends-same own = grind (arith, nat_tests)

merged-put : (f : ℕ → Option SigPath) (xs : Found) (i : ℕ) (p : SigPath) → slice_get xs i ≡ Some None → f i ≡ Some p → ((own : ℕ) → (own ≡ i → ⊥) → f own ≡ None) → set xs i (Some p) ≡ merged f xs
merged-put f [] i p e g h = absurd (cc)
merged-put f (o ∷ xs) zero p e g h =
    let n : o ≡ None = cc in
    ap₂ ◌∷◌ (sym (ap₂ or_else n g)) (sym (merged-none (λ own. f (suc own)) xs (λ own. h (suc own) (λ q. absurd (omega (arith, q))))))
merged-put f (o ∷ xs) (suc i) p e g h =
    ap₂ ◌∷◌ (sym (ap (or_else o) (h zero (λ q. absurd (omega (arith, q)))) ∙ or_else-none o)) (merged-put (λ own. f (suc own)) xs i p e g (λ own n. h (suc own) (λ q. n (omega (arith, q)))))

merged-kept : (f : ℕ → Option SigPath) (xs : Found) (i : ℕ) → (slice_get xs i ≡ Some None → ⊥) → ((own : ℕ) → (own ≡ i → ⊥) → f own ≡ None) → merged f xs ≡ xs
merged-kept f [] i n h = refl
merged-kept f (None ∷ xs) zero n h = absurd (n refl)
merged-kept f (Some p ∷ xs) zero n h = ap (◌∷◌ (Some p)) (merged-none (λ own. f (suc own)) xs (λ own. h (suc own) (λ q. absurd (omega (arith, q)))))
merged-kept f (o ∷ xs) (suc i) n h =
    ap₂ ◌∷◌ (ap (or_else o) (h zero (λ q. absurd (omega (arith, q)))) ∙ or_else-none o) (merged-kept (λ own. f (suc own)) xs i n (λ own m. h (suc own) (λ q. m (omega (arith, q)))))

behind-none : (steps : SigPath) (o : Option SigPath) → o ≡ None → behind steps o ≡ None
behind-none steps None e = refl
behind-none steps (Some p) e = absurd (cc)

append-end : (steps : SigPath) → steps ++ [] ≡ steps
append-end [] = refl
append-end (a ∷ steps) = ap (◌∷◌ a) (append-end steps)

-- a path that is put in for a variable without one is merged
pub find-put : (steps : SigPath) (xs : Found) (own : ℕ) → slice_get xs own ≡ Some None → set xs own (Some steps) ≡ merged (λ other. behind steps (ends (Some own) other)) xs
find-put steps xs own e =
    merged-put (λ other. behind steps (ends (Some own) other)) xs own steps e
    (ap (behind steps) (ends-same own) ∙ ap Some (append-end steps))
    (λ other n. behind-none steps (ends (Some own) other) (ends-other own other n))

-- a variable that has a path keeps it, as if merged
pub find-kept : (steps : SigPath) (xs : Found) (own : ℕ) → (slice_get xs own ≡ Some None → ⊥) → xs ≡ merged (λ other. behind steps (ends (Some own) other)) xs
find-kept steps xs own n =
    sym (merged-kept (λ other. behind steps (ends (Some own) other)) xs own n (λ other m. behind-none steps (ends (Some own) other) (ends-other own other m)))

-- a type that bars the others, and the steps to a part

barred-either : (bar : Option ℕ) (own : ℕ) (a b : Option SigPath) → unless_barred bar own (or_else a b) ≡ or_else (unless_barred bar own a) (unless_barred bar own b)
barred-either bar own a b = go (is_open own bar) refl
  where
    go : (t : Truth) → is_open own bar ≡ t → unless_barred bar own (or_else a b) ≡ or_else (unless_barred bar own a) (unless_barred bar own b)
    go true e = rw e refl
    go false e = rw e refl

behind-either : (steps : SigPath) (a b : Option SigPath) → behind steps (or_else a b) ≡ or_else (behind steps a) (behind steps b)
behind-either steps None b = refl
behind-either steps (Some p) b = refl

behind-after : (steps : SigPath) (a : Item) (o : Option SigPath) → behind steps (after a o) ≡ behind (steps ++ a ∷ []) o
behind-after steps a None = refl
behind-after steps a (Some p) = ap Some (sym (append_assoc steps (a ∷ []) p))

barred-after : (bar : Option ℕ) (own : ℕ) (a : Item) (o : Option SigPath) → unless_barred bar own (after a o) ≡ after a (unless_barred bar own o)
barred-after bar own a o = go (is_open own bar) refl
  where
    go : (t : Truth) → is_open own bar ≡ t → unless_barred bar own (after a o) ≡ after a (unless_barred bar own o)
    go true e = rw e refl
    go false e = rw e refl

-- a path found behind one more step, where it is not barred, is behind the steps with this one
pub walk-after : (steps : SigPath) (a : Item) (bar : Option ℕ) (own : ℕ) (o : Option SigPath) → behind (steps ++ a ∷ []) (unless_barred bar own o) ≡ behind steps (unless_barred bar own (after a o))
walk-after steps a bar own o = sym (ap (behind steps) (barred-after bar own a o) ∙ behind-after steps a (unless_barred bar own o))

-- what is found here or there behind the same steps, where it is not barred
pub walk-either : (steps : SigPath) (bar : Option ℕ) (own : ℕ) (a b : Option SigPath) → or_else (behind steps (unless_barred bar own a)) (behind steps (unless_barred bar own b)) ≡ behind steps (unless_barred bar own (or_else a b))
walk-either steps bar own a b = sym (ap (behind steps) (barred-either bar own a b) ∙ behind-either steps (unless_barred bar own a) (unless_barred bar own b))

-- where nothing is found, merging leaves the paths as they are
pub walk-none : (steps : SigPath) (bar : Option ℕ) (xs : Found) → xs ≡ merged (λ own. behind steps (unless_barred bar own None)) xs
walk-none steps bar xs = sym (merged-none (λ own. behind steps (unless_barred bar own None)) xs (λ own. go own (is_open own bar) refl))
  where
    go : (own : ℕ) (t : Truth) → is_open own bar ≡ t → behind steps (unless_barred bar own None) ≡ None
    go own true e = rw e refl
    go own false e = rw e refl

-- the lesser of two bars

-- what is found in the end

-- what is found of a variable when the walk begins with no paths
pub start-get : {A : Type 0} (f : ℕ → Option SigPath) (ks : List A) (own : ℕ) (o : Option SigPath) → slice_get (merged f (map (λ k. None) ks)) own ≡ Some o → (own < length ks) × (f own ≡ o)
start-get f [] own o e = absurd (cc)
start-get f (k ∷ ks) zero o e = (omega arith, cc)
start-get f (k ∷ ks) (suc own) o e = let q = start-get (λ own. f (suc own)) ks own o e in (omega (arith, q.0), q.1)

-- what stands at a number in the reversed list is what stands at the place counted from the end
pub reversed-get : (xs : Found) (number : ℕ) (o : Option SigPath) → slice_get (reverse xs) number ≡ Some o → (number < length xs) × (slice_get xs (length xs - suc number) ≡ Some o)
reversed-get xs number o e =
    let l = length-reverse xs in
    let lt : number < length xs = omega (arith, slice_get_within (reverse xs) number o e, l) in
    let here : get_or (reverse xs) number o ≡ o = get_or_from_slice_get (reverse xs) number o o e in
    let there : get_or xs (length xs - suc number) o ≡ o = ap (λ i. get_or xs i o) (omega arith) ∙ (sym (get_or-reverse xs number o lt) ∙ here) in
    (lt, slice_get-get_or xs (length xs - suc number) o (omega (arith, lt)) ∙ ap Some there)
