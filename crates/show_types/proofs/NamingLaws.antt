-- Namings with one variable more or less, and that what is written for two variables differs.
-- Main results: names-differ.
use Rattle.std.proofs.Common.{◌≡◌, ◌⊎◌, inl, inr, ℕ, zero, suc, ◌+◌, ◌<◌, ◌^◌, List, [], ◌∷◌, ◌++◌, Option, Some, None, length, arith, refl, sym, ap, subst, ◌∙◌}
use Rattle.std.specs.Prelude.{decimal, get_or}
use Rattle.std.proofs.lemmas.Fmt.{decimal_injective}
use Rattle.show_types.specs.Namings.{mark, written_as, Adds, Free, IsNaming, NamesDiffer}

pub none_naming : IsNaming []
none_naming = record { distinct = λ i j x p q. absurd (cc); plain = λ i x p m. absurd (cc) }

-- a name in a naming with one variable more is another's, or that one's
push-cases : (names : List (Option (List ℕ))) (o : Option (List ℕ)) (i : ℕ) (x : List ℕ) → get_or (names ++ o ∷ []) i None ≡ Some x → (get_or names i None ≡ Some x) ⊎ ((i ≡ length names) × (o ≡ Some x))
push-cases [] o zero x p = inr (refl, p)
push-cases [] o (suc i) x p = absurd (cc)
push-cases (n ∷ names) o zero x p = inl p
push-cases (n ∷ names) o (suc i) x p = elim (push-cases names o i x p) [
  | inl h ↦ inl h
  | inr h ↦ inr (omega (arith, h.0), h.1)
]

kept : (names : List (Option (List ℕ))) (o : Option (List ℕ)) (i : ℕ) (x : List ℕ) → get_or names i None ≡ Some x → get_or (names ++ o ∷ []) i None ≡ Some x
kept [] o i x p = absurd (cc)
kept (n ∷ names) o zero x p = p
kept (n ∷ names) o (suc i) x p = kept names o i x p

push-distinct : (names : List (Option (List ℕ))) (o : Option (List ℕ)) → IsNaming names → ((y : List ℕ) → o ≡ Some y → Free names y) → (i j : ℕ) (x : List ℕ)
    → (get_or names i None ≡ Some x) ⊎ ((i ≡ length names) × (o ≡ Some x)) → (get_or names j None ≡ Some x) ⊎ ((j ≡ length names) × (o ≡ Some x)) → i ≡ j
push-distinct names o n free i j x (inl h) (inl k) = n.distinct i j x h k
push-distinct names o n free i j x (inl h) (inr k) = absurd ((free x k.1).new i h)
push-distinct names o n free i j x (inr h) (inl k) = absurd ((free x h.1).new j k)
push-distinct names o n free i j x (inr h) (inr k) = h.0 ∙ sym k.0

push-plain : (names : List (Option (List ℕ))) (o : Option (List ℕ)) → IsNaming names → ((y : List ℕ) → o ≡ Some y → Free names y) → (i : ℕ) (x : List ℕ)
    → (get_or names i None ≡ Some x) ⊎ ((i ≡ length names) × (o ≡ Some x)) → get_or x 0 0 ≡ mark → ⊥
push-plain names o n free i x (inl h) m = n.plain i x h m
push-plain names o n free i x (inr h) m = (free x h.1).plain m

-- one more variable, with no name or with a free one
pub push_naming : (names : List (Option (List ℕ))) (o : Option (List ℕ)) → IsNaming names → ((y : List ℕ) → o ≡ Some y → Free names y) → IsNaming (names ++ o ∷ [])
push_naming names o n free = record {
  distinct = λ i j x p q. push-distinct names o n free i j x (push-cases names o i x p) (push-cases names o j x q);
  plain = λ i x p m. push-plain names o n free i x (push-cases names o i x p) m;
}

-- one more variable gets no name where the one that is given is taken, or none is given
pub adds_none : (names new : List (Option (List ℕ))) (o : Option (List ℕ)) → ((x : List ℕ) → o ≡ Some x → Free names x → ⊥) → new ≡ names ++ None ∷ [] → Adds names o new
adds_none names new (Some x) taken p = subst (λ n. Adds names (Some x) n) (sym p) (Adds.taken (taken x refl))
adds_none names new None taken p = subst (λ n. Adds names None n) (sym p) Adds.unnamed

-- one more variable gets what is given where it may
pub adds_given : (names new : List (Option (List ℕ))) (o : Option (List ℕ)) → ((x : List ℕ) → o ≡ Some x → Free names x) → new ≡ names ++ o ∷ [] → Adds names o new
adds_given names new (Some x) free p = subst (λ n. Adds names (Some x) n) (sym p) (Adds.named (free x refl))
adds_given names new None free p = subst (λ n. Adds names None n) (sym p) Adds.unnamed

-- a list with one more item is longer by one
pub one-more : {A : Type 0} (xs : List A) (x : A) → length (xs ++ x ∷ []) ≡ length xs + 1
one-more [] x = refl
one-more (y ∷ xs) x = omega (arith, one-more xs x)

-- a naming with one variable more is longer by one
pub added-length : {names new : List (Option (List ℕ))} {o : Option (List ℕ)} → Adds names o new → length new ≡ length names + 1
added-length {names = names} (Adds.named {x = x} f) = one-more names (Some x)
added-length {names = names} (Adds.taken f) = one-more names None
added-length {names = names} Adds.unnamed = one-more names None

-- one variable less
pub pop_naming : (names : List (Option (List ℕ))) (o : Option (List ℕ)) → IsNaming (names ++ o ∷ []) → IsNaming names
pop_naming names o n = record {
  distinct = λ i j x p q. n.distinct i j x (kept names o i x p) (kept names o j x q);
  plain = λ i x p m. n.plain i x (kept names o i x p) m;
}

abbrev rest : List ℕ → List ℕ
rest [] = []
rest (x ∷ xs) = xs

differ : (names : List (Option (List ℕ))) → IsNaming names → (l m : ℕ) → l < 2 ^ 64 → m < 2 ^ 64 → (o : Option (List ℕ)) → get_or names l None ≡ o
    → (q : Option (List ℕ)) → get_or names m None ≡ q → written_as o l ≡ written_as q m → l ≡ m
differ names n l m hl hm (Some x) p (Some y) q e = n.distinct l m x p (q ∙ ap Some (sym e))
differ names n l m hl hm (Some x) p None q e = absurd (n.plain l x p (ap (λ (z : List ℕ). get_or z 0 0) e))
differ names n l m hl hm None p (Some y) q e = absurd (n.plain m y q (ap (λ (z : List ℕ). get_or z 0 0) (sym e)))
differ names n l m hl hm None p None q e = decimal_injective l m hl hm (ap rest e)

-- what is written for two variables differs
pub names-differ : NamesDiffer
names-differ names l m n hl hm e = differ names n l m hl hm (get_or names l None) refl (get_or names m None) refl e
