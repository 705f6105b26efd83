-- Two lists of binders whose variables correspond one to one, and norm of a signature under either.
-- Main results: shuffle-maps, undone-shuffle.
use Rattle.std.specs.Prelude.{ℕ, zero, suc, ◌-◌, ◌<◌, List, [], ◌∷◌, ◌≡◌, ◌⊎◌, length, map, cond, nat_lt, Bool, true, false}
use mathlib.Core.Logic.{inl, inr}
use Rattle.std.proofs.Common.{arith}
use Rattle.std.proofs.Math.Decide.{ℕ_discrete}
use Rattle.std.proofs.Math.Path.{refl, sym, ◌∙◌, ap, ap₂, subst, subst₂, fun_ext}
use Rattle.std.proofs.lemmas.Bool.{cond-true, lt-ltb, ltb-true, false_from_ne_true}
use Rattle.omega_kinds.specs.Kind.{Kind}
use Rattle.omega_types.specs.Kinding.{Lookup}
use Rattle.omega_types.specs.Normalises.{Maps}
use Rattle.omega_types.specs.Normaliser.{kind_at}
use Rattle.omega_types.specs.Binders.{extend, past, own}
use Rattle.omega_types.proofs.Mention.{lookup-unique}
use Rattle.sig_definitions.specs.Signatures.Sig.{Sig, Abs}
use Rattle.sig_definitions.specs.Signatures.SigSubst.{rename_sig, rename_abs}
use Rattle.sig_definitions.specs.Explicit.SigPath.{SigPath}
use Rattle.sig_definitions.specs.Explicit.RootPath.{Rooted, ParamsAvoid}
use Rattle.sig_definitions.specs.QuantifierOrder.{IsNoneOf, Untaken, Counts, counts, Taking, done, next, NewOrder, reordered, place, renumber}
use Rattle.sig_laws.proofs.Algebra.BinderLaws.{past-length, lookup-outside}
use Rattle.sig_laws.proofs.Algebra.SigAlgebra.{rename-rename_sig, rename-rename_abs}
use Rattle.sig_laws.proofs.Algebra.Own.{split_index}
use Rattle.sig_norm_laws.proofs.Orders.OrderUnique.{counts-untaken, one-order}
use Rattle.sig_norm_laws.proofs.Orders.Orders.{nth, nth-untaken, place-same, place-other, own-own, renumber-own, renumber-past, AllBelow}
use Rattle.sig_norm_laws.proofs.Norm.NormRenamed.{Undone, turned, undone-sig, params-renamed}
use Rattle.omega_types.proofs.BinderLaws.{past-maps}
use Rattle.sig_explicit_laws.proofs.Moves.{rooted-renamed}
use Rattle.sig_laws.proofs.Formed.NormGood.{own-lookup}

-- the variable of number j of js corresponds to that of number to j of ks
pub record Paired (ks js : List Kind) (to from : ℕ → ℕ) : Type 0 where
  pub same_length : length ks ≡ length js
  pub to_below : (j : ℕ) → j < length js → to j < length ks
  pub from_below : (i : ℕ) → i < length ks → from i < length js
  pub from_to : (j : ℕ) → j < length js → from (to j) ≡ j
  pub to_from : (i : ℕ) → i < length ks → to (from i) ≡ i
  pub same_kinds : (j : ℕ) → j < length js → kind_at ks (to j) ≡ kind_at js j

-- a one-to-one correspondence of binders may be turned round
pub paired-turned : {ks js : List Kind} {to from : ℕ → ℕ} → Paired ks js to from → Paired js ks from to
paired-turned {ks} {js} {to} {from} p = record {
  same_length = sym p.same_length;
  to_below = p.from_below;
  from_below = p.to_below;
  from_to = p.to_from;
  to_from = p.from_to;
  same_kinds = λ i lt. sym (p.same_kinds (from i) (p.from_below i lt)) ∙ ap (kind_at ks) (p.to_from i lt);
}

-- an index under js as it is under ks
abbrev pub shuffle : List Kind → List Kind → (ℕ → ℕ) → ℕ → ℕ
shuffle ks js to i = cond (nat_lt i (length js)) (own ks (to (own js i))) i

-- an index below the binders becomes that of the corresponding variable
pub shuffle-below : (ks js : List Kind) (to : ℕ → ℕ) (i : ℕ) → i < length js → shuffle ks js to i ≡ own ks (to (own js i))
shuffle-below ks js to i h = cond-true (nat_lt i (length js)) (own ks (to (own js i))) i (lt-ltb i (length js) h)

-- a binder's own variable becomes the corresponding one
pub shuffle-own : (ks js : List Kind) (to : ℕ → ℕ) (j : ℕ) → j < length js → shuffle ks js to (own js j) ≡ own ks (to j)
shuffle-own ks js to j h = shuffle-below ks js to (own js j) (omega (arith, h)) ∙ ap (λ n. own ks (to n)) (own-own js j h)

-- an index from outside stays
pub shuffle-past : (ks js : List Kind) (to : ℕ → ℕ) (i : ℕ) → shuffle ks js to (past js i) ≡ past js i
shuffle-past ks js to i = go (nat_lt (past js i) (length js)) (false_from_ne_true (nat_lt (past js i) (length js)) (λ e. let h = ltb-true (past js i) (length js) e in let p = past-length js i in omega (arith, h, p)))
  where
    go : (b : Bool) → b ≡ false → cond b (own ks (to (own js (past js i)))) (past js i) ≡ past js i
    go false e = refl
    go true e = absurd (cc e)

-- an index goes past corresponding binders in the same way
pub past-same : {ks js : List Kind} {to from : ℕ → ℕ} → Paired ks js to from → (i : ℕ) → past js i ≡ past ks i
past-same {ks} {js} p i = let l = p.same_length in let a = past-length ks i in let b = past-length js i in omega arith

-- corresponding variables have the same kinds
pub shuffle-maps : {ks js : List Kind} {to from : ℕ → ℕ} → Paired ks js to from → (ctx : List Kind) → Maps (extend ctx js) (extend ctx ks) (shuffle ks js to)
shuffle-maps {ks} {js} {to} {from} p ctx i k x = go (split_index js i)
  where
    go : (i < length js) ⊎ ((j : ℕ) × (i ≡ past js j)) → Lookup (extend ctx ks) (shuffle ks js to i) k
    go (inl h) =
        let lv : own js i < length js = omega (arith, h) in
        let a = own-lookup ctx ks (to (own js i)) (p.to_below (own js i) lv) in
        let b : kind_at js (own js i) ≡ k = lookup-unique (subst (λ n. Lookup (extend ctx js) n (kind_at js (own js i))) (own-own js i h) (own-lookup ctx js (own js i) lv)) x in
        subst₂ (λ n j. Lookup (extend ctx ks) n j) (sym (shuffle-below ks js to i h)) (p.same_kinds (own js i) lv ∙ b) a
    go (inr (j, e)) =
        subst (λ n. Lookup (extend ctx ks) n k) (sym (past-same p j) ∙ (sym (shuffle-past ks js to j) ∙ ap (shuffle ks js to) (sym e)))
        (past-maps ks ctx j k (lookup-outside js (subst (λ n. Lookup (extend ctx js) n k) e x)))

shuffle-back : {ks js : List Kind} {to from : ℕ → ℕ} → Paired ks js to from → (i : ℕ) → shuffle js ks from (shuffle ks js to i) ≡ i
shuffle-back {ks} {js} {to} {from} p i = go (split_index js i)
  where
    go : (i < length js) ⊎ ((j : ℕ) × (i ≡ past js j)) → shuffle js ks from (shuffle ks js to i) ≡ i
    go (inl h) =
        let lv : own js i < length js = omega (arith, h) in
        ap (shuffle js ks from) (shuffle-below ks js to i h) ∙ (shuffle-own js ks from (to (own js i)) (p.to_below (own js i) lv) ∙ (ap (own js) (p.from_to (own js i) lv) ∙ own-own js i h))
    go (inr (j, e)) = ap (λ n. shuffle js ks from (shuffle ks js to n)) e ∙ (ap (shuffle js ks from) (shuffle-past ks js to j ∙ past-same p j) ∙ (shuffle-past js ks from j ∙ (sym (past-same p j) ∙ sym e)))

-- the shuffle of corresponding variables is undone by the shuffle back
pub undone-shuffle : {ks js : List Kind} {to from : ℕ → ℕ} → Paired ks js to from → (ctx : List Kind) → Undone (extend ctx js) (extend ctx ks) (shuffle ks js to) (shuffle js ks from)
undone-shuffle p ctx = record { there = shuffle-maps p ctx; back = shuffle-maps (paired-turned p) ctx; back_there = shuffle-back p; there_back = shuffle-back (paired-turned p) }

-- the order of the one is that of the other

module _ (ctx ks js : List Kind) (to from : ℕ → ℕ) (p : Paired ks js to from) (s : Sig) where
  abbrev moved : Sig
  moved = rename_sig (shuffle ks js to) s

  none-there : (v : ℕ) (taken : List ℕ) → v < length js → AllBelow (length js) taken → IsNoneOf v taken → IsNoneOf (to v) (map to taken)
  none-there v [] h b n = tt
  none-there v (i ∷ is) h b n = (λ e. n.0 (sym (p.from_to v h) ∙ (ap from e ∙ p.from_to i b.0)), none-there v is h b.1 n.1)

  none-back : (j : ℕ) (taken : List ℕ) → j < length ks → AllBelow (length js) taken → IsNoneOf j (map to taken) → IsNoneOf (from j) taken
  none-back j [] h b n = tt
  none-back j (i ∷ is) h b n = (λ e. n.0 (sym (p.to_from j h) ∙ ap to e), none-back j is h b.1 n.1)

  untaken-there : (v : ℕ) (taken : List ℕ) → AllBelow (length js) taken → Untaken js taken v → Untaken ks (map to taken) (to v)
  untaken-there v taken b u = (p.to_below v u.0, none-there v taken u.0 b u.1)

  untaken-back : (j : ℕ) (taken : List ℕ) → AllBelow (length js) taken → Untaken ks (map to taken) j → Untaken js taken (from j)
  untaken-back j taken b u = (p.from_below j u.0, none-back j taken u.0 b u.1)

  undone : Undone (extend ctx js) (extend ctx ks) (shuffle ks js to) (shuffle js ks from)
  undone = undone-shuffle p ctx

  counts-there : {taken : List ℕ} {v : ℕ} {o : SigPath} → AllBelow (length js) taken → Counts ctx js s taken v o → Counts ctx ks moved (map to taken) (to v) o
  counts-there {taken} {v} {o} b (counts u x a) = counts (untaken-there v taken b u)
      (subst (λ i. Rooted (extend ctx ks) moved i o) (shuffle-own ks js to v u.0) (rooted-renamed (shuffle ks js to) (shuffle-maps p ctx) x))
      (λ j n. let w = untaken-back j taken b n in
      subst (ParamsAvoid (extend ctx ks) moved o) (shuffle-own ks js to (from j) w.0 ∙ ap (own ks) (p.to_from j n.0))
      (params-renamed (own js (from j)) (shuffle ks js to) (shuffle js ks from) undone (a (from j) w)))

  counts-back : {taken : List ℕ} {j : ℕ} {o : SigPath} → AllBelow (length js) taken → Counts ctx ks moved (map to taken) j o → Counts ctx js s taken (from j) o
  counts-back {taken} {j} {o} b (counts u x a) = counts (untaken-back j taken b u)
      (subst₂ (λ z i. Rooted (extend ctx js) z i o) (undone-sig undone s) (shuffle-own js ks from j u.0) (rooted-renamed (shuffle js ks from) undone.back x))
      (λ v n. subst₂ (λ z i. ParamsAvoid (extend ctx js) z o i) (undone-sig undone s) (shuffle-own js ks from (to v) (p.to_below v n.0) ∙ ap (own js) (p.from_to v n.0))
      (params-renamed (own ks (to v)) (shuffle js ks from) (shuffle ks js to) (turned undone) (a (to v) (untaken-there v taken b n))))

  taking-moved : {taken rest : List ℕ} → AllBelow (length js) taken → Taking ctx js s taken rest → Taking ctx ks moved (map to taken) (map to rest)
  taking-moved {taken} b (done h) = done (λ j u. h (from j) (untaken-back j taken b u))
  taking-moved {taken} b (next c g t) = next (counts-there b c) (λ j q d. g (from j) q (counts-back b d)) (taking-moved ((counts-untaken c).0, b) t)

  -- the order of corresponding hidden types is the corresponding order
  pub order-moved : {order : List ℕ} → NewOrder ctx js s order → NewOrder ctx ks moved (map to order)
  order-moved t = taking-moved tt t

  -- each entry of an order is a number of js
  pub reordered-moved : (order : List ℕ) → ((k : ℕ) → k < length order → nth order k < length js) → reordered ks (map to order) ≡ reordered js order
  reordered-moved [] h = refl
  reordered-moved (i ∷ order) h = ap₂ ◌∷◌ (p.same_kinds i (h zero (omega arith))) (reordered-moved order (λ k lt. h (suc k) (omega (arith, lt))))

  place-moved : (order : List ℕ) (v : ℕ) → v < length js → ((k : ℕ) → k < length order → nth order k < length js) → place (map to order) (to v) ≡ place order v
  place-moved [] v h f = refl
  place-moved (i ∷ order) v h f = go (place-moved order v h (λ k lt. f (suc k) (omega (arith, lt)))) (ℕ_discrete v i)
    where
      go : place (map to order) (to v) ≡ place order v → Dec (v ≡ i) → place (to i ∷ map to order) (to v) ≡ place (i ∷ order) v
      go rest (yes e) = ap (λ n. place (to i ∷ map to order) (to n)) e ∙ (place-same (to i) (map to order) ∙ sym (ap (place (i ∷ order)) e ∙ place-same i order))
      go rest (no g) = place-other (to i) (to v) (map to order) (λ e. g (sym (p.from_to v h) ∙ (ap from e ∙ p.from_to i (f zero (omega arith))))) ∙ (ap suc rest ∙ sym (place-other i v order g))

  -- renumbering by the corresponding order, after the shuffle, is renumbering by the order
  pub renumber-moved : {order : List ℕ} → NewOrder ctx js s order → (x : ℕ) → renumber ks (map to order) (shuffle ks js to x) ≡ renumber js order x
  renumber-moved {order} t x = go (split_index js x)
    where
      go : (x < length js) ⊎ ((j : ℕ) × (x ≡ past js j)) → renumber ks (map to order) (shuffle ks js to x) ≡ renumber js order x
      go (inl h) =
          let lv : own js x < length js = omega (arith, h) in
          let e = own-own js x h in
          let l = p.same_length in
          ap (renumber ks (map to order)) (shuffle-below ks js to x h) ∙
          (renumber-own ks (map to order) (to (own js x)) (p.to_below (own js x) lv) ∙
          (ap (own ks) (place-moved order (own js x) lv (λ k lt. (nth-untaken k t lt).0)) ∙
          (ap (λ n. n - suc (place order (own js x))) l ∙
          (sym (renumber-own js order (own js x) lv) ∙ ap (renumber js order) e))))
      go (inr (j, e)) =
          ap (λ n. renumber ks (map to order) (shuffle ks js to n)) e ∙
          (ap (renumber ks (map to order)) (shuffle-past ks js to j ∙ past-same p j) ∙
          (renumber-past ks (map to order) j ∙ (sym (past-same p j) ∙ (sym (renumber-past js order j) ∙ ap (renumber js order) (sym e)))))

  -- the orders of the two signatures correspond, and their reordered kinds are the same
  pub reordered-same : (n : Sig) {order old : List ℕ} → n ≡ moved → NewOrder ctx ks n order → NewOrder ctx js s old → (order ≡ map to old) × (reordered ks order ≡ reordered js old)
  reordered-same n {order} {old} e o t =
      let f : order ≡ map to old = one-order refl (subst (λ z. NewOrder ctx ks z order) e o) (order-moved t) in
      (f, ap (reordered ks) f ∙ reordered-moved old (λ k lt. (nth-untaken k t lt).0))

  -- in signatures, renumbering by the corresponding order, after the shuffle, is renumbering by the order
  pub renumbered_sig-same : {order old : List ℕ} → NewOrder ctx js s old → order ≡ map to old → (t : Sig) → rename_sig (renumber ks order) (rename_sig (shuffle ks js to) t) ≡ rename_sig (renumber js old) t
  renumbered_sig-same {order} {old} o e t = rename-rename_sig (renumber ks order) (shuffle ks js to) t ∙ ap (λ f. rename_sig f t) (fun_ext (λ i. ap (λ w. renumber ks w (shuffle ks js to i)) e ∙ renumber-moved o i))

  -- in signatures that hide types, renumbering by the corresponding order, after the shuffle, is that by the order
  pub renumbered_abs-same : {order old : List ℕ} → NewOrder ctx js s old → order ≡ map to old → (t : Abs) → rename_abs (renumber ks order) (rename_abs (shuffle ks js to) t) ≡ rename_abs (renumber js old) t
  renumbered_abs-same {order} {old} o e t = rename-rename_abs (renumber ks order) (shuffle ks js to) t ∙ ap (λ f. rename_abs f t) (fun_ext (λ i. ap (λ w. renumber ks w (shuffle ks js to i)) e ∙ renumber-moved o i))
