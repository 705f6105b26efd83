-- What is remembered stays right.
-- Main results: known-shift, known-filled, memos-more, noted-first, noted-rest.
use Rattle.std.proofs.Common.{◌≡◌, ◌⊎◌, inl, inr, ℕ, List, Bool as Truth, true, false, ◌&&◌, ◌==◌, cond, Option, None, Some, IfSome, refl, sym, ap, ap₂, ◌∙◌}
use Rattle.std.proofs.Common.{subst, arith}
use Rattle.std.proofs.lemmas.Bool.{eqb-true, and_parts}
use Rattle.std.specs.Map.{lookup}
use Rattle.omega_types.specs.Index.{shift}
use Rattle.omega_types.specs.Ty.{Ty}
use Rattle.type_store.specs.Trees.{at, Begins, Holds}
use Rattle.type_store.proofs.TreeLaws.{begins-at, begins-length, holds-more}
use Rattle.type_store.specs.declared.memo.First.{First}
use Rattle.type_store.specs.declared.memo.Memo.{Memo}
use Rattle.type_store.specs.Inner.Memo.{Key, key_eq, filled, first_at, IsNoted, IsShift, IsFilled, AreAll, AreShifts, AreFilled, Remembers}

pub key-yes : (p q : Key) → key_eq p q ≡ true → p ≡ q
key-yes p q e =
    let m = and_parts (p.0 == q.0 && p.1 == q.1) (p.2 == q.2) e in
    let n = and_parts (p.0 == q.0) (p.1 == q.1) m.0 in
    λ i. (eqb-true p.0 q.0 n.0 i, eqb-true p.1 q.1 n.1 i, eqb-true p.2 q.2 m.1 i)

shift-more : (ts us : List Ty) (k : Key) (v : ℕ) → Begins ts us → IsShift ts k v → IsShift us k v
shift-more ts us k v b h = record {
  within = let l = begins-length ts us b in omega (arith, l, h.within);
  value = subst (λ t. Holds us v (shift k.2 k.1 t)) (sym (begins-at ts us k.0 b h.within)) (holds-more ts us v (shift k.2 k.1 (at ts k.0)) b h.value);
}

filled-more : (ts us : List Ty) (k : Key) (v : ℕ) → Begins ts us → IsFilled ts k v → IsFilled us k v
filled-more ts us k v b h = record {
  within = let l = begins-length ts us b in omega (arith, l, h.within);
  arg_within = let l = begins-length ts us b in omega (arith, l, h.arg_within);
  value =
      subst (Holds us v) (ap₂ (filled k.1) (sym (begins-at ts us k.2 b h.arg_within)) (sym (begins-at ts us k.0 b h.within)))
      (holds-more ts us v (filled k.1 (at ts k.2) (at ts k.0)) b h.value);
}

-- more types keep what is remembered
pub memos-more : (ts us : List Ty) (shifts fills : Memo) → Begins ts us → AreShifts ts shifts × AreFilled ts fills → AreShifts us shifts × AreFilled us fills
memos-more ts us shifts fills b h =
    (record { each = λ k v e. shift-more ts us k v b (h.0.each k v e) }, record { each = λ k v e. filled-more ts us k v b (h.1.each k v e) })

-- one more result
pub noted : (Is : List Ty → Key → ℕ → Type 0) (ts : List Ty) (old new : Memo) (key : Key) (value : ℕ) → AreAll Is ts old → Is ts key value
    → IsNoted old new key value → AreAll Is ts new
noted Is ts old new key value h s n = record { each = λ k v e. by k v (n.only k v e) }
  where
    by : (k : Key) (v : ℕ) → Remembers old k v ⊎ ((k ≡ key) × (v ≡ value)) → Is ts k v
    by k v (inl e) = h.each k v e
    by k v (inr e) = subst (λ q. Is ts q v) (sym e.0) (subst (Is ts key) (sym e.1) s)

-- one more result in the map
pub noted-rest : (old new : Memo) (key : Key) (value : ℕ) → ((i : ℕ) → first_at new.firsts.items i ≡ first_at old.firsts.items i)
    → ((q : Key) → lookup (key_eq q) new.rest.entries ≡ cond (key_eq key q) (Some value) (lookup (key_eq q) old.rest.entries))
    → IsNoted old new key value
noted-rest old new key value f u = record { only = by }
  where
    at_key : (k : Key) (v : ℕ) (b : Truth) → key_eq key k ≡ b → cond (key_eq key k) (Some value) (lookup (key_eq k) old.rest.entries) ≡ Some v
        → Remembers old k v ⊎ ((k ≡ key) × (v ≡ value))
    at_key k v true p e =
        let same : value ≡ v = let f : Some value ≡ Some v = sym (ap (λ b. cond b (Some value) (lookup (key_eq k) old.rest.entries)) p) ∙ e in cc in
        inr (sym (key-yes key k p), sym same)
    at_key k v false p e = inl (inl (sym (ap (λ b. cond b (Some value) (lookup (key_eq k) old.rest.entries)) p) ∙ e))

    by : (k : Key) (v : ℕ) → Remembers new k v → Remembers old k v ⊎ ((k ≡ key) × (v ≡ value))
    by k v (inl e) = at_key k v (key_eq key k) refl (sym (u k) ∙ e)
    by k v (inr e) = inl (inr (e.0, sym (f k.0) ∙ e.1))

one-first : (f g : First) → Some f ≡ Some g → f ≡ g
one-first f g e = cc

-- one more result in the list
pub noted-first : (old new : Memo) (key : Key) (value : ℕ) → new.rest ≡ old.rest → key.1 ≡ 0
    → ((i : ℕ) → (first_at new.firsts.items i ≡ first_at old.firsts.items i)
    ⊎ ((i ≡ key.0) × (first_at new.firsts.items i ≡ Some (record { with = key.2; value = value }))))
    → IsNoted old new key value
noted-first old new key value r z f = record { only = by }
  where
    there : (k : Key) (v : ℕ) → k.1 ≡ 0 → first_at new.firsts.items k.0 ≡ Some (record { with = k.2; value = v })
        → (first_at new.firsts.items k.0 ≡ first_at old.firsts.items k.0)
        ⊎ ((k.0 ≡ key.0) × (first_at new.firsts.items k.0 ≡ Some (record { with = key.2; value = value })))
        → Remembers old k v ⊎ ((k ≡ key) × (v ≡ value))
    there k v y e (inl same) = inl (inr (y, sym same ∙ e))
    there k v y e (inr here) =
        let f : First = record { with = k.2; value = v } in
        let g : First = record { with = key.2; value = value } in
        let same : f ≡ g = one-first f g (sym e ∙ here.1) in
        let w : k.2 ≡ key.2 = ap (λ h. h.with) same in
        inr ((λ i. (here.0 i, (y ∙ sym z) i, w i)), ap (λ h. h.value) same)

    by : (k : Key) (v : ℕ) → Remembers new k v → Remembers old k v ⊎ ((k ≡ key) × (v ≡ value))
    by k v (inl e) = inl (inl (sym (ap (λ m. lookup (key_eq k) m.entries) r) ∙ e))
    by k v (inr e) = there k v e.0 e.1 (f k.0)

-- the same result in both
pub noted-then : (old mid new : Memo) (key : Key) (value : ℕ) → IsNoted old mid key value → IsNoted mid new key value → IsNoted old new key value
noted-then old mid new key value p q = record { only = λ k v e. by k v (q.only k v e) }
  where
    by : (k : Key) (v : ℕ) → Remembers mid k v ⊎ ((k ≡ key) × (v ≡ value)) → Remembers old k v ⊎ ((k ≡ key) × (v ≡ value))
    by k v (inl e) = p.only k v e
    by k v (inr e) = inr e

-- a result that is found is right
pub known-shift : (ts us : List Ty) (m : Memo) (key : Key) (r : Option ℕ) → AreShifts ts m → ts ≡ us → IfSome r (λ v. Remembers m key v)
    → IfSome r (λ v. Holds us v (shift key.2 key.1 (at us key.0)))
known-shift ts us m key None h e p = tt
known-shift ts us m key (Some v) h e p = subst (λ xs. Holds xs v (shift key.2 key.1 (at xs key.0))) e (h.each key v p).value

-- a substitution that is found in the memory has the right result: the number of the type with the other one put in
pub known-filled : (ts us : List Ty) (m : Memo) (key : Key) (r : Option ℕ) → AreFilled ts m → ts ≡ us → IfSome r (λ v. Remembers m key v)
    → IfSome r (λ v. Holds us v (filled key.1 (at us key.2) (at us key.0)))
known-filled ts us m key None h e p = tt
known-filled ts us m key (Some v) h e p = subst (λ xs. Holds xs v (filled key.1 (at xs key.2) (at xs key.0))) e (h.each key v p).value
