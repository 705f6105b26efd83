-- What norm gives is its own norm.
-- Main results: norm-again, undone-renumber.
use Rattle.std.specs.Prelude.{ℕ, suc, ◌-◌, ◌<◌, List, ◌≡◌, length, map, cond, nat_lt}
use Rattle.std.proofs.Common.{arith}
use Rattle.std.proofs.Math.Path.{sym, ◌∙◌, ap, ap₂, subst, fun_ext}
use Rattle.omega_kinds.specs.Kind.{Kind}
use Rattle.omega_kinds.specs.declared.effect.Effect.TheVariants.{Impure}
use Rattle.omega_types.specs.Normaliser.{kind_at}
use Rattle.omega_types.specs.Binders.{extend, own}
use Rattle.sig_definitions.specs.Signatures.Sig.{Sig, Abs, SigRow}
use Rattle.sig_definitions.specs.Signatures.SigSubst.{rename_sig, rename_abs}
use Rattle.sig_definitions.specs.QuantifierOrder.{NewOrder, reordered, place, renumber, NormSig, Norm, NormRow}
use Rattle.sig_laws.proofs.Algebra.SigAlgebra.{rename_sig-id, rename_abs-id}
use Rattle.sig_norm_laws.proofs.Orders.Orders.{nth, nth-untaken, place-nth, nth-place, kind_at-reordered, reordered-length}
use Rattle.sig_norm_laws.proofs.Norm.NormRenamed.{Undone, norm-renamed, norm_abs-renamed}
use Rattle.sig_laws.proofs.Formed.NormGood.{order-length}
use Rattle.sig_norm_laws.proofs.Norm.Shuffles.{Paired, shuffle, undone-shuffle, order-moved, reordered-moved, renumber-moved}

-- renumbering undone
abbrev pub unnumber : List Kind → List ℕ → ℕ → ℕ
unnumber ks order = shuffle ks (reordered ks order) (nth order)

-- a variable corresponds to its place in the order
paired-order : {ctx ks : List Kind} {s : Sig} {order : List ℕ} → NewOrder ctx ks s order → Paired (reordered ks order) ks (place order) (nth order)
paired-order {ks = ks} {order = order} o = record {
  same_length = reordered-length o;
  to_below = λ j h. let w = nth-place j o (h, tt) in let l = order-length o in let m = reordered-length o in omega (arith, w.0, l, m);
  from_below = λ i h. (nth-untaken i o (in-order i h)).0;
  from_to = λ j h. (nth-place j o (h, tt)).1;
  to_from = λ i h. place-nth i o (in-order i h);
  same_kinds = λ j h. let w = nth-place j o (h, tt) in kind_at-reordered ks order (place order j) w.0 ∙ ap (kind_at ks) w.1;
}
  where
    in-order : (i : ℕ) → i < length (reordered ks order) → i < length order
    in-order i h = let l = order-length o in let m = reordered-length o in omega (arith, h, l, m)

renumber-shuffle : {ctx ks : List Kind} {s : Sig} {order : List ℕ} → NewOrder ctx ks s order → shuffle (reordered ks order) ks (place order) ≡ renumber ks order
renumber-shuffle {ks = ks} {order = order} o = fun_ext (λ i. ap (λ n. cond (nat_lt i (length ks)) (n - suc (place order (own ks i))) i) (reordered-length o))

-- renumbering by a new order is undone by a renaming back
pub undone-renumber : {ctx ks : List Kind} {s : Sig} {order : List ℕ} → NewOrder ctx ks s order → (other : List Kind) → Undone (extend other ks) (extend other (reordered ks order)) (renumber ks order) (unnumber ks order)
undone-renumber {ks = ks} {order = order} o other = subst (λ r. Undone (extend other ks) (extend other (reordered ks order)) r (unnumber ks order)) (renumber-shuffle o) (undone-shuffle (paired-order o) other)

-- the order of the reordered signature
module _ (ctx ks : List Kind) (s : Sig) (order : List ℕ) (o : NewOrder ctx ks s order) where
  pub order-again : NewOrder ctx (reordered ks order) (rename_sig (renumber ks order) s) (map (place order) order)
  order-again = subst (λ r. NewOrder ctx (reordered ks order) (rename_sig r s) (map (place order) order)) (renumber-shuffle o) (order-moved ctx (reordered ks order) ks (place order) (nth order) (paired-order o) s o)

  pub kinds-again : reordered (reordered ks order) (map (place order) order) ≡ reordered ks order
  kinds-again = reordered-moved ctx (reordered ks order) ks (place order) (nth order) (paired-order o) s order (λ k h. (nth-untaken k o h).0)

  pub renumber-again : renumber (reordered ks order) (map (place order) order) ≡ (λ i. i)
  renumber-again = fun_ext go
    where
      go : (i : ℕ) → renumber (reordered ks order) (map (place order) order) i ≡ i
      go i =
          let u = undone-renumber o ctx in
          let v = undone-shuffle (paired-order o) ctx in
          ap (renumber (reordered ks order) (map (place order) order)) (sym (v.there_back i)) ∙
          (renumber-moved ctx (reordered ks order) ks (place order) (nth order) (paired-order o) s o (unnumber ks order i) ∙ u.there_back i)

same_body : (ctx ks : List Kind) (s : Sig) (order : List ℕ) → NewOrder ctx ks s order → (z : Sig) → rename_sig (renumber (reordered ks order) (map (place order) order)) z ≡ z
same_body ctx ks s order o z = ap (λ f. rename_sig f z) (renumber-again ctx ks s order o) ∙ rename_sig-id z

same_abs : (ctx ks : List Kind) (t : Sig) (order : List ℕ) (o : NewOrder ctx ks t order) → Path Abs (Abs.Ex (reordered (reordered ks order) (map (place order) order)) (rename_sig (renumber (reordered ks order) (map (place order) order)) (rename_sig (renumber ks order) t))) (Abs.Ex (reordered ks order) (rename_sig (renumber ks order) t))
same_abs ctx ks t order o = ap₂ Abs.Ex (kinds-again ctx ks t order o) (same_body ctx ks t order o (rename_sig (renumber ks order) t))

same : (ctx ks : List Kind) (t : Sig) (y : Abs) (order : List ℕ) (o : NewOrder ctx ks t order) → Path Sig (Sig.Fun Impure (reordered (reordered ks order) (map (place order) order)) (rename_sig (renumber (reordered ks order) (map (place order) order)) (rename_sig (renumber ks order) t)) (rename_abs (renumber (reordered ks order) (map (place order) order)) (rename_abs (renumber ks order) y))) (Sig.Fun Impure (reordered ks order) (rename_sig (renumber ks order) t) (rename_abs (renumber ks order) y))
same ctx ks t y order o i = Sig.Fun Impure (kinds-again ctx ks t order o i) (same_body ctx ks t order o (rename_sig (renumber ks order) t) i) ((ap (λ f. rename_abs f (rename_abs (renumber ks order) y)) (renumber-again ctx ks t order o) ∙ rename_abs-id (rename_abs (renumber ks order) y)) i)

mutual
  pub norm-again : {ctx : List Kind} {s t : Sig} → NormSig ctx s t → NormSig ctx t t
  norm-again NormSig.val = NormSig.val
  norm-again NormSig.typ = NormSig.typ
  norm-again (NormSig.meta x) = NormSig.meta (norm_abs-again x)
  norm-again (NormSig.str fs) = NormSig.str (norm_row-again fs)
  norm-again (NormSig.pure a b) = NormSig.pure (norm-again a) (norm-again b)
  norm-again {ctx} (NormSig.impure {ks = ks} {t = t} {y = y} {order = order} a o n) =
      let u = undone-renumber o ctx in
      let z = rename_sig (renumber ks order) t in
      let w = rename_abs (renumber ks order) y in
      subst (NormSig ctx (Sig.Fun Impure (reordered ks order) z w)) (same ctx ks t y order o)
      (NormSig.impure (norm-renamed (renumber ks order) (unnumber ks order) u (norm-again a)) (order-again ctx ks t order o) (norm_abs-renamed (renumber ks order) (unnumber ks order) u (norm_abs-again n)))

  -- a norm is its own norm
  pub norm_abs-again : {ctx : List Kind} {x y : Abs} → Norm ctx x y → Norm ctx y y
  norm_abs-again {ctx} (Norm.ex {ks = ks} {t = t} {order = order} a o) =
      let u = undone-renumber o ctx in
      subst (Norm ctx (Abs.Ex (reordered ks order) (rename_sig (renumber ks order) t))) (same_abs ctx ks t order o)
      (Norm.ex (norm-renamed (renumber ks order) (unnumber ks order) u (norm-again a)) (order-again ctx ks t order o))

  pub norm_row-again : {ctx : List Kind} {fs gs : SigRow} → NormRow ctx fs gs → NormRow ctx gs gs
  norm_row-again NormRow.end = NormRow.end
  norm_row-again (NormRow.more a rest) = NormRow.more (norm-again a) (norm_row-again rest)
