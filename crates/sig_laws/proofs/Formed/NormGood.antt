-- Norm keeps good signatures: the new order takes each variable once, so each gets a place of its kind.
-- Main results: norm-good, reorder-maps, order-length.
use Rattle.std.specs.Prelude.{ℕ, zero, suc, ◌<◌, ◌≤◌, List, [], ◌∷◌, ◌≡◌, ◌≢◌, ◌⊎◌, ◌==◌, nat_lt, Bool, true, false, cond, length, map}
use Rattle.std.proofs.Math.Path.{refl, sym, ◌∙◌, ap, ap₂, subst}
use Rattle.std.proofs.Math.Logic.{inl, inr}
use Rattle.std.proofs.Common.{arith}
use Rattle.std.proofs.lemmas.Bool.{true≢false, ne_eqb, eqb-false, eqb-true, eq-eqb, lt-ltb, le-ltb, cases_order}
use Rattle.std.proofs.lemmas.List.{length-map}
use Rattle.omega_kinds.specs.Kind.{Kind}
use Rattle.omega_kinds.specs.Name.{Name}
use Rattle.omega_types.specs.Kinding.{Lookup, here}
use Rattle.omega_types.specs.Normaliser.{kind_at}
use Rattle.omega_types.specs.Normalises.{Maps}
use Rattle.omega_types.specs.Binders.{extend, past, own}
use Rattle.omega_types.proofs.BinderPuts.{past-lookup, past-plus, placed, Placed}
use Rattle.sig_definitions.specs.Signatures.Sig.{Sig, Abs, SigRow, NoField}
use Rattle.sig_definitions.specs.Signatures.Alike.{NormalSig, NormalAbs, NormalSigRow}
use Rattle.sig_definitions.specs.QuantifierOrder.{IsNoneOf, Untaken, Counts, Taking, NewOrder, reordered, place, renumber, NormSig, Norm, NormRow}
use Rattle.sig_laws.proofs.Encoded.EncodingTyping.{Shape, ShapeAbs, ShapeRow, shape-rename, shape_abs-rename, GoodAbs}
use Rattle.omega_types.proofs.Hereditary.{lookup-kind_at}
use Rattle.sig_laws.proofs.Algebra.AlikeLaws.{normal_sig-rename, normal_abs-rename}

-- whether a number is taken

abbrev mem : ℕ → List ℕ → Bool
mem j [] = false
mem j (i ∷ is) = cond (j == i) true (mem j is)

mem-skip : (j i : ℕ) (is : List ℕ) → j ≢ i → mem j (i ∷ is) ≡ mem j is
mem-skip j i is d = ap (λ b. cond b true (mem j is)) (ne_eqb j i d)

mem-same : (j : ℕ) (is : List ℕ) → mem j (j ∷ is) ≡ true
mem-same j is = ap (λ b. cond b true (mem j is)) (eq-eqb j j refl)

mem-other : (j : ℕ) (is : List ℕ) → IsNoneOf j is → mem j is ≡ false
mem-other j [] h = refl
mem-other j (i ∷ is) h = mem-skip j i is h.0 ∙ mem-other j is h.1

other-mem : (j : ℕ) (is : List ℕ) → mem j is ≡ false → IsNoneOf j is
other-mem j [] e = tt
other-mem j (i ∷ is) e = go (j == i) refl e (other-mem j is)
  where
    go : (b : Bool) → (j == i) ≡ b → cond b true (mem j is) ≡ false → (mem j is ≡ false → IsNoneOf j is) → IsNoneOf j (i ∷ is)
    go true d e f = absurd (true≢false e)
    go false d e f = (eqb-false j i d, f e)

-- how many numbers below m are not taken

abbrev free : ℕ → List ℕ → ℕ
free zero is = zero
free (suc m) is = cond (mem m is) (free m is) (suc (free m is))

free-none : (m : ℕ) → free m [] ≡ m
free-none zero = refl
free-none (suc m) = ap suc (free-none m)

free-above : (m number : ℕ) (is : List ℕ) → m ≤ number → free m (number ∷ is) ≡ free m is
free-above zero number is h = refl
free-above (suc m) number is h = ap₂ (λ b f. cond b f (suc f)) (mem-skip m number is (λ e. absurd (omega (arith, h, e)))) (free-above m number is (omega (arith, h)))

one-less : (b : Bool) {m n : ℕ} → suc m ≡ n → suc (cond b m (suc m)) ≡ cond b n (suc n)
one-less true e = e
one-less false e = ap suc e

free-taken : (m number : ℕ) (is : List ℕ) → number < m → mem number is ≡ false → suc (free m (number ∷ is)) ≡ free m is
free-taken zero number is h e = absurd (omega (arith, h))
free-taken (suc m) number is h e = go (cases_order number m) (free-taken m number is)
  where
    at_last : number ≡ m → suc (free (suc m) (number ∷ is)) ≡ free (suc m) is
    at_last d =
        subst (λ x. mem x is ≡ false → suc (free (suc m) (x ∷ is)) ≡ free (suc m) is) (sym d)
        (λ g. ap suc (ap (λ b. cond b (free m (m ∷ is)) (suc (free m (m ∷ is)))) (mem-same m is) ∙ free-above m m is (omega arith)) ∙ sym (ap (λ b. cond b (free m is) (suc (free m is))) g)) e

    go : (number ≡ m) ⊎ ((number < m) ⊎ (m < number)) → (number < m → mem number is ≡ false → suc (free m (number ∷ is)) ≡ free m is) → suc (free (suc m) (number ∷ is)) ≡ free (suc m) is
    go (inl d) f = at_last d
    go (inr (inl l)) f = ap (λ b. suc (cond b (free m (number ∷ is)) (suc (free m (number ∷ is))))) (mem-skip m number is (λ d. absurd (omega (arith, l, d)))) ∙ one-less (mem m is) (f l e)
    go (inr (inr l)) f = absurd (omega (arith, h, l))

free-done : (m : ℕ) (is : List ℕ) → ((j : ℕ) → j < m → mem j is ≡ true) → free m is ≡ zero
free-done zero is f = refl
free-done (suc m) is f = ap (λ b. cond b (free m is) (suc (free m is))) (f m (omega arith)) ∙ free-done m is (λ j h. f j (omega (arith, h)))

-- the order takes each variable once

taking-length : {ctx ks : List Kind} {s : Sig} {taken order : List ℕ} → Taking ctx ks s taken order → length order ≡ free (length ks) taken
taking-length {ks = ks} (Taking.done {taken = taken} f) = sym (free-done (length ks) taken (λ j h. go j h (mem j taken) refl))
  where
    go : (j : ℕ) → j < length ks → (b : Bool) → mem j taken ≡ b → mem j taken ≡ true
    go j h true e = e
    go j h false e = absurd (f j (h, other-mem j taken e))
taking-length {ks = ks} (Taking.next {taken = taken} {number = number} (Counts.counts u r a) l t) = ap suc (taking-length t) ∙ free-taken (length ks) number taken u.0 (mem-other number taken u.1)

-- a new order of hidden types has as many numbers as there are types
pub order-length : {ctx ks : List Kind} {s : Sig} {order : List ℕ} → NewOrder ctx ks s order → length order ≡ length ks
order-length {ks = ks} t = taking-length t ∙ free-none (length ks)

abbrev IsPlaced : List Kind → List ℕ → ℕ → ℕ → Type 0
IsPlaced ks order j p = (p < length order) × (kind_at (map (kind_at ks) order) p ≡ kind_at ks j)

taking-place : {ctx ks : List Kind} {s : Sig} {taken order : List ℕ} → Taking ctx ks s taken order → (j : ℕ) → Untaken ks taken j → IsPlaced ks order j (place order j)
taking-place (Taking.done f) j u = absurd (f j u)
taking-place {ks = ks} (Taking.next {taken = taken} {order = order} {number = number} c l t) j u = go (j == number) refl (taking-place t j)
  where
    go : (b : Bool) → (j == number) ≡ b → (Untaken ks (number ∷ taken) j → IsPlaced ks order j (place order j)) → IsPlaced ks (number ∷ order) j (cond b zero (suc (place order j)))
    go true e f = (omega arith, ap (kind_at ks) (sym (eqb-true j number e)))
    go false e f =
        let r = f (u.0, (eqb-false j number e, u.1)) in
        let h = r.0 in
        (omega (arith, h), r.1)

-- the renumbering leads each variable to one of its kind

-- the variable of a hidden type has the kind that the binders give it
pub own-lookup : (ctx ks : List Kind) (p : ℕ) → p < length ks → Lookup (extend ctx ks) (own ks p) (kind_at ks p)
own-lookup ctx [] p h = absurd (omega (arith, h))
own-lookup ctx (k ∷ ks) zero h =
    let f = past-plus ks zero in
    let e : past ks zero ≡ own (k ∷ ks) zero = omega (arith, f) in
    subst (λ i. Lookup (extend (k ∷ ctx) ks) i k) e (past-lookup ks here)
own-lookup ctx (k ∷ ks) (suc p) h =
    let e : own ks p ≡ own (k ∷ ks) (suc p) = omega arith in
    subst (λ i. Lookup (extend (k ∷ ctx) ks) i (kind_at ks p)) e (own-lookup (k ∷ ctx) ks p (omega (arith, h)))

-- renumbering takes each variable to one of its kind in the new order
pub reorder-maps : {inner ks : List Kind} {s : Sig} {order : List ℕ} → NewOrder inner ks s order → (ctx : List Kind) → Maps (extend ctx ks) (extend ctx (reordered ks order)) (renumber ks order)
reorder-maps {ks = ks} {order = order} t ctx i k x = go x (placed ks x)
  where
    same : length (reordered ks order) ≡ length ks
    same = length-map order (kind_at ks) ∙ order-length t

    go : {i : ℕ} → Lookup (extend ctx ks) i k → Placed ctx ks k i → Lookup (extend ctx (reordered ks order)) (renumber ks order i) k
    go z (Placed.outer {i = j} y) =
        let e = past-plus ks j in
        let f = past-plus (reordered ks order) j in
        let g = same in
        let b : nat_lt (past ks j) (length ks) ≡ false = le-ltb (past ks j) (length ks) (omega (arith, e)) in
        let p : past (reordered ks order) j ≡ past ks j = omega (arith, e, f, g) in
        subst (λ n. Lookup (extend ctx (reordered ks order)) n k) (p ∙ sym (ap (λ c. cond c (own ks (place order (own ks (past ks j)))) (past ks j)) b)) (past-lookup (reordered ks order) y)
    go {i} z (Placed.own h) =
        let v : ℕ = own ks i in
        let r = taking-place t v (omega (arith, h), tt) in
        let p : ℕ = place order v in
        let g = same in
        let q = order-length t in
        let l = r.0 in
        let back : own ks v ≡ i = omega (arith, h) in
        let move : own (reordered ks order) p ≡ own ks p = omega (arith, g) in
        let kv : k ≡ kind_at ks v = lookup-kind_at z ∙ sym (lookup-kind_at (own-lookup ctx ks v (omega (arith, h))) ∙ ap (kind_at (extend ctx ks)) back) in
        let w = own-lookup ctx (reordered ks order) p (omega (arith, l, g, q)) in
        let at : renumber ks order i ≡ own ks p = ap (λ c. cond c (own ks p) i) (lt-ltb i (length ks) h) in
        subst (λ n. Lookup (extend ctx (reordered ks order)) n k) (move ∙ sym at)
        (subst (λ j. Lookup (extend ctx (reordered ks order)) (own (reordered ks order) p) j) (r.1 ∙ sym kv) w)

-- norm

mutual
  pub norm_sig-good : {ctx : List Kind} {s t : Sig} → NormSig ctx s t → NormalSig ctx s → Shape s → NormalSig ctx t × Shape t
  norm_sig-good NormSig.val n h = (n, h)
  norm_sig-good NormSig.typ n h = (n, h)
  norm_sig-good (NormSig.meta a) n h = norm_abs-good a n h
  norm_sig-good (NormSig.str a) n h = let r = norm_row-good a n h in (r.0, r.1)
  norm_sig-good (NormSig.pure a b) n h = let p = norm_sig-good a n.0 h.0 in let q = norm_sig-good b n.1 h.1 in ((p.0, q.0), (p.1, q.1, tt))
  norm_sig-good {ctx} (NormSig.impure {ks = ks} {t = t} {y = y} {order = order} a o b) n h =
      let p = norm_sig-good a n.0 h.0 in
      let q = norm_abs-good b n.1 h.1 in
      let m = reorder-maps o ctx in
      ((normal_sig-rename (renumber ks order) m t p.0, normal_abs-rename (renumber ks order) m y q.0), (shape-rename (renumber ks order) t p.1, shape_abs-rename (renumber ks order) y q.1, tt))

  -- the norm of a normal signature of the right shape is so too
  pub norm_abs-good : {ctx : List Kind} {x y : Abs} → Norm ctx x y → NormalAbs ctx x → ShapeAbs x → NormalAbs ctx y × ShapeAbs y
  norm_abs-good {ctx} (Norm.ex {ks = ks} {t = t} {order = order} a o) n h =
      let p = norm_sig-good a n h in
      (normal_sig-rename (renumber ks order) (reorder-maps o ctx) t p.0, shape-rename (renumber ks order) t p.1)

  pub norm_row-good : {ctx : List Kind} {fs gs : SigRow} → NormRow ctx fs gs → NormalSigRow ctx fs → ShapeRow fs → NormalSigRow ctx gs × ShapeRow gs × ((l : Name) → NoField l fs → NoField l gs)
  norm_row-good NormRow.end n h = (tt, tt, λ l f. tt)
  norm_row-good (NormRow.more {l = l} a b) n h =
      let p = norm_sig-good a n.0 h.1 in
      let q = norm_row-good b n.1 h.2 in
      ((p.0, q.0), (q.2 l h.0, p.1, q.1), λ m f. (f.0, q.2 m f.1))

-- the norm of a good signature is good
pub norm-good : {ctx : List Kind} {x y : Abs} → Norm ctx x y → GoodAbs ctx x → GoodAbs ctx y
norm-good n g = let r = norm_abs-good n g.normal g.shape in record { normal = r.0; shape = r.1 }
