-- A signature that holds any types and its norm are below each other.
-- Main results: norm-below, norm_abs-below.
use Rattle.std.specs.Prelude.{ℕ, zero, suc, ◌-◌, List, [], ◌∷◌, ◌≡◌, cond, nat_lt, length}
use Rattle.std.proofs.Common.{arith}
use Rattle.std.proofs.Math.Path.{refl, sym, ◌∙◌, ap, subst, subst₂, fun_ext}
use Rattle.omega_kinds.specs.Kind.{Kind}
use Rattle.omega_kinds.specs.declared.effect.Effect.{Effect}
use Rattle.omega_kinds.specs.Name.{Name}
use Rattle.omega_types.specs.Ty.{Ty}
use Rattle.omega_types.specs.Kinding.{Lookup}
use Rattle.omega_types.specs.Kinding.HasKind.{k_var}
use Rattle.omega_types.specs.Conversion.Conv.{c_refl}
use Rattle.omega_types.specs.Normalises.{Maps}
use Rattle.omega_types.specs.Binders.{extend, past, own, front, puts, OfKinds}
use Rattle.omega_types.proofs.BinderPuts.{kinds-fit, past-lookup}
use Rattle.sig_definitions.specs.Signatures.Sig.{Sig, Abs, SigRow, HasField, here, there}
use Rattle.sig_definitions.specs.Signatures.SigSubst.{rename_sig, rename_abs, substitute_sig, substitute_abs, raise_abs}
use Rattle.sig_definitions.specs.Explicit.WellFormed.{BeforeAll, Rising, WellFormed, WellFormedRow, WellFormedAbs, explicit}
use Rattle.sig_definitions.specs.QuantifierOrder.{NewOrder, reordered, place, renumber, NormSig, Norm, NormRow}
use Rattle.sig_laws.proofs.Algebra.SigAlgebra.{rename-rename_sig, rename-rename_abs, substitute-vars_sig, substitute-vars_abs, rename_sig-id, rename_abs-id}
use Rattle.sig_laws.proofs.Formed.Conditions.{explicit-abs}
use Rattle.sig_laws.proofs.Formed.NormGood.{order-length, reorder-maps}
use Rattle.sig_laws.proofs.Formed.WellFormedLaws.{maps-substitutes}
use Rattle.sig_laws.proofs.Formed.WellFormedShape.{after-differs}
use Rattle.sig_match_laws.specs.AnyTypes.{IsSub, AreSubs, IsSubResult, IsSubAbs, Matches}
use Rattle.sig_match_laws.proofs.AnyTypes.AnyTypesSubst.{sub-substitute, abs-substitute}
use Rattle.sig_norm_laws.proofs.Orders.Orders.{nth, nth-untaken, place-nth, nth-place, kind_at-reordered, reordered-length, renumber-past}
use Rattle.sig_norm_laws.proofs.Norm.Shuffles.{Paired, shuffle, shuffle-past, past-same, shuffle-maps, undone-shuffle}
use Rattle.sig_norm_laws.proofs.Orders.Aligned.{sig_at-under}
use Rattle.sig_transitive_laws.proofs.Below.{closed}

-- the variables of binders, renamed

abbrev renamed : List Kind → (ℕ → ℕ) → List Ty
renamed [] r = []
renamed (k ∷ ks) r = Ty.Var (r (past ks zero)) ∷ renamed ks r

renamed-kinds : {c : List Kind} (ctx ks : List Kind) (r : ℕ → ℕ) → Maps (extend ctx ks) c r → OfKinds c (renamed ks r) ks
renamed-kinds ctx [] r m = OfKinds.none
renamed-kinds ctx (k ∷ ks) r m = OfKinds.next (k_var (m (past ks zero) k (past-lookup ks Lookup.here))) (renamed-kinds (k ∷ ctx) ks r m)

-- put in for these, they are the renaming
puts-renamed : (ks : List Kind) (r : ℕ → ℕ) (s : ℕ → Ty)
    → Path (ℕ → Ty) s (λ i. Ty.Var (r (past ks i))) → Path (ℕ → Ty) (puts (renamed ks r) s) (λ i. Ty.Var (r i))
puts-renamed [] r s e = e
puts-renamed (k ∷ ks) r s e = puts-renamed ks r (front (Ty.Var (r (past ks zero))) s) (fun_ext go)
  where
    go : (i : ℕ) → front (Ty.Var (r (past ks zero))) s i ≡ Ty.Var (r (past ks i))
    go zero = refl
    go (suc i) = ap (λ f. f i) e

sub-renamed : {ctx other : List Kind} (r : ℕ → ℕ) (s t : Sig) → Maps ctx other r → IsSub ctx s t → IsSub other (rename_sig r s) (rename_sig r t)
sub-renamed {other = other} r s t m a =
    subst₂ (IsSub other) (substitute-vars_sig r s) (substitute-vars_sig r t) (sub-substitute (λ i. Ty.Var (r i)) (maps-substitutes m) a)

abs-renamed : {ctx other : List Kind} (r : ℕ → ℕ) (x y : Abs) → Maps ctx other r → IsSubAbs ctx x y
    → IsSubAbs other (rename_abs r x) (rename_abs r y)
abs-renamed {other = other} r x y m a =
    subst₂ (IsSubAbs other) (substitute-vars_abs r x) (substitute-vars_abs r y) (abs-substitute (λ i. Ty.Var (r i)) (maps-substitutes m) a)

-- r leads the variables of the binders ks to those of js, and each other one to itself
module _ (ctx ks js : List Kind) (r : ℕ → ℕ) (maps : Maps (extend ctx ks) (extend ctx js) r) (outside : (i : ℕ) → r (past ks i) ≡ past js i) where
  puts-across : Path (ℕ → Ty) (puts (renamed ks r) (λ i. Ty.Var (past js i))) (λ i. Ty.Var (r i))
  puts-across = puts-renamed ks r (λ i. Ty.Var (past js i)) (fun_ext (λ i. ap Ty.Var (sym (outside i))))

  -- a signature below a renamed body matches what hides types in that body
  pub across : (u s : Sig) → IsSub (extend ctx js) u (rename_sig r s) → Matches (extend ctx js) u (raise_abs js (Abs.Ex ks s)) (renamed ks r)
  across u s a =
      let h = renamed-kinds ctx ks r maps in
      Matches.at h (subst (IsSub (extend ctx js) u)
      (sym (sig_at-under ks js (renamed ks r) s (kinds-fit h) ∙ (ap (λ f. substitute_sig f s) puts-across ∙ substitute-vars_sig r s))) a)

  -- and what hides types is below it
  pub across-abs : (u s : Sig) → IsSub (extend ctx js) u (rename_sig r s) → IsSubAbs ctx (Abs.Ex js u) (Abs.Ex ks s)
  across-abs u s a = closed ctx js u (Abs.Ex ks s) (across u s a)

  -- a functor is below another one as its parts, renamed, are
  pub across-fun : {e d : Effect} (s t : Sig) (x z : Abs) → IsSub (extend ctx js) t (rename_sig r s) → IsSubResult (extend ctx js) e d (rename_abs r x) z
      → IsSub ctx (Sig.Fun e ks s x) (Sig.Fun d js t z)
  across-fun {e} {d} s t x z a b = IsSub.fun (across t s a)
      (subst (λ w. IsSubResult (extend ctx js) e d w z) (sym (ap (λ f. substitute_abs f x) puts-across ∙ substitute-vars_abs r x)) b)

same-fun : {e d : Effect} (ctx ks : List Kind) (s t : Sig) (x z : Abs) → IsSub (extend ctx ks) t s
    → IsSubResult (extend ctx ks) e d x z → IsSub ctx (Sig.Fun e ks s x) (Sig.Fun d ks t z)
same-fun {e} {d} ctx ks s t x z a b = across-fun ctx ks ks (λ i. i) (λ i k h. h) (λ i. refl) s t x z
    (subst (IsSub (extend ctx ks) t) (sym (rename_sig-id s)) a)
    (subst (λ w. IsSubResult (extend ctx ks) e d w z) (sym (rename_abs-id x)) b)

-- the new order of binders

order-paired : {ctx ks : List Kind} {s : Sig} {order : List ℕ} → NewOrder ctx ks s order → Paired ks (reordered ks order) (nth order) (place order)
order-paired {ks = ks} {order = order} o =
    let a = reordered-length o in
    let b = order-length o in
    record {
      same_length = sym a;
      to_below = λ j lt. (nth-untaken j o (omega (arith, a, b, lt))).0;
      from_below = λ i lt. let p = (nth-place i o (lt, tt)).0 in omega (arith, a, b, p);
      from_to = λ j lt. place-nth j o (omega (arith, a, b, lt));
      to_from = λ i lt. (nth-place i o (lt, tt)).1;
      same_kinds = λ j lt. sym (kind_at-reordered ks order j (omega (arith, a, b, lt)));
    }

abbrev back : List Kind → List ℕ → ℕ → ℕ
back ks order = shuffle ks (reordered ks order) (nth order)

module _ (ctx : List Kind) {inner ks : List Kind} {order : List ℕ} {q : Sig} (o : NewOrder inner ks q order) where
  there-outside : (i : ℕ) → renumber ks order (past ks i) ≡ past (reordered ks order) i
  there-outside i = renumber-past ks order i ∙ sym (past-same (order-paired o) i)

  back-maps : Maps (extend ctx (reordered ks order)) (extend ctx ks) (back ks order)
  back-maps = shuffle-maps (order-paired o) ctx

  back-outside : (i : ℕ) → back ks order (past (reordered ks order) i) ≡ past ks i
  back-outside i = shuffle-past ks (reordered ks order) (nth order) i ∙ past-same (order-paired o) i

  back-there : (i : ℕ) → back ks order (renumber ks order i) ≡ i
  back-there i =
      let u = undone-shuffle (order-paired o) ctx in
      ap (λ n. back ks order (cond (nat_lt i (length ks)) (n - suc (place order (own ks i))) i)) (sym (reordered-length o)) ∙ u.there_back i

  back_sig : (t : Sig) → rename_sig (back ks order) (rename_sig (renumber ks order) t) ≡ t
  back_sig t = rename-rename_sig (back ks order) (renumber ks order) t ∙ (ap (λ f. rename_sig f t) (fun_ext back-there) ∙ rename_sig-id t)

  back_abs : (x : Abs) → rename_abs (back ks order) (rename_abs (renumber ks order) x) ≡ x
  back_abs x = rename-rename_abs (back ks order) (renumber ks order) x ∙ (ap (λ f. rename_abs f x) (fun_ext back-there) ∙ rename_abs-id x)

-- a list of fields before which a name stands, after norm (as in sig_norm_laws)
before_all-norm : {ctx : List Kind} {fs gs : SigRow} (l : Name) → NormRow ctx fs gs → BeforeAll l fs → BeforeAll l gs
before_all-norm l NormRow.end h = tt
before_all-norm l (NormRow.more a rest) h = (h.0, before_all-norm l rest h.1)

mutual
  -- a well formed signature and its norm are below each other
  pub norm-below : {ctx : List Kind} {s t : Sig} → NormSig ctx s t → WellFormed ctx s → IsSub ctx s t × IsSub ctx t s
  norm-below NormSig.val (WellFormed.val h) = (IsSub.val (c_refl h), IsSub.val (c_refl h))
  norm-below NormSig.typ (WellFormed.typ h) = (IsSub.typ (c_refl h), IsSub.typ (c_refl h))
  norm-below (NormSig.meta n) (WellFormed.meta w) = let p = norm_abs-below n (explicit-abs w) in (IsSub.meta p.0 p.1, IsSub.meta p.1 p.0)
  norm-below (NormSig.str n) (WellFormed.str r w) = let p = norm_row-below (λ l s h. h) (λ l s h. h) n r w in (IsSub.str p.0, IsSub.str p.1)
  norm-below {ctx} (NormSig.pure {ks = ks} {s = s} {t = t} {r = r} {q = q} n m) (WellFormed.pure (explicit w e f) v) =
      let a = norm-below n w in
      let b = norm-below m v in (
        same-fun ctx ks s t (Abs.Ex [] r) (Abs.Ex [] q) a.1 (IsSubResult.both_pure b.0),
        same-fun ctx ks t s (Abs.Ex [] q) (Abs.Ex [] r) a.0 (IsSubResult.both_pure b.1),
      )
  norm-below {ctx} (NormSig.impure {ks = ks} {s = s} {t = t} {x = x} {y = y} {order = order} n o m) (WellFormed.impure (explicit w e f) v) =
      let a = norm-below n w in
      let b = norm_abs-below m v in
      let js = reordered ks order in
      let r = renumber ks order in
      let maps = reorder-maps o ctx in (
        across-fun ctx ks js r maps (there-outside ctx o) s (rename_sig r t) x (rename_abs r y)
            (sub-renamed r t s maps a.1) (IsSubResult.to_impure (abs-renamed r x y maps b.0)),
        across-fun ctx js ks (back ks order) (back-maps ctx o) (back-outside ctx o) (rename_sig r t) s (rename_abs r y) x
            (subst (IsSub (extend ctx ks) s) (sym (back_sig ctx o t)) a.0)
            (IsSubResult.to_impure (subst (λ z. IsSubAbs (extend ctx ks) z x) (sym (back_abs ctx o y)) b.1)),
      )

  -- fields are below their norms, and above, in any rows that have both
  pub norm_row-below : {ctx : List Kind} {fs gs whole normed : SigRow} → ((l : Name) (s : Sig) → HasField fs l s → HasField whole l s)
      → ((l : Name) (s : Sig) → HasField gs l s → HasField normed l s)
      → NormRow ctx fs gs → Rising fs → WellFormedRow ctx fs → AreSubs ctx whole gs × AreSubs ctx normed fs
  norm_row-below f g NormRow.end r w = (AreSubs.end, AreSubs.end)
  norm_row-below f g (NormRow.more {l = l} {s = s} {t = t} n rest) r (WellFormedRow.more w ws) =
      let a = norm-below n w in
      let b = norm_row-below (λ m u h. f m u (there (after-differs l m r.0 h) h))
      (λ m u h. g m u (there (after-differs l m (before_all-norm l rest r.0) h) h)) rest r.1 ws in
      (AreSubs.more (f l s here) a.0 b.0, AreSubs.more (g l t here) a.1 b.1)

  -- so are one that hides types and its norm
  pub norm_abs-below : {ctx : List Kind} {x y : Abs} → Norm ctx x y → WellFormedAbs ctx x → IsSubAbs ctx x y × IsSubAbs ctx y x
  norm_abs-below {ctx} (Norm.ex {ks = ks} {s = s} {t = t} {order = order} n o) (WellFormedAbs.abs w) =
      let a = norm-below n w in
      let js = reordered ks order in
      let r = renumber ks order in
      let maps = reorder-maps o ctx in (
        across-abs ctx js ks (back ks order) (back-maps ctx o) (back-outside ctx o) s (rename_sig r t)
            (subst (IsSub (extend ctx ks) s) (sym (back_sig ctx o t)) a.0),
        across-abs ctx ks js r maps (there-outside ctx o) (rename_sig r t) s (sub-renamed r t s maps a.1),
      )
