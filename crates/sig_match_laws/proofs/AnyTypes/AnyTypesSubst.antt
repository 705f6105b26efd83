-- Matching on any types is closed under substitution.
-- Main results: matches_substitute.
use Rattle.std.specs.Prelude.{ℕ, zero, ◌<◌, List, [], ◌∷◌, ◌≡◌, ◌⊎◌, length}
use Rattle.std.proofs.Math.Logic.{inl, inr}
use Rattle.std.proofs.Common.{arith}
use Rattle.std.proofs.Math.Decide.{dec_lt}
use Rattle.std.proofs.Math.Path.{sym, ◌∙◌, ap, subst, fun_ext}
use Rattle.omega_kinds.specs.Kind.{Kind}
use Rattle.omega_kinds.specs.declared.effect.Effect.{Effect}
use Rattle.omega_types.specs.Ty.{Ty}
use Rattle.omega_types.specs.Substitution.{substitute}
use Rattle.omega_types.specs.Binders.{extend, past, unders, front, puts, OfKinds}
use Rattle.omega_types.proofs.Algebra.{substitute-rename, substitute-vars}
use Rattle.omega_types.proofs.Preservation.{Substitutes, conv-substitute, kind-substitute}
use Rattle.sig_definitions.specs.Signatures.Sig.{Sig, Abs, SigRow}
use Rattle.sig_definitions.specs.Signatures.SigSubst.{substitute_sig, substitute_abs, substitute_sig_row, raise_abs, sig_at, abs_at_under}
use Rattle.sig_laws.proofs.Algebra.BinderLaws.{unders-past, past-length, puts-past, all_substituted}
use Rattle.sig_laws.proofs.Algebra.SigAlgebra.{substitute-rename_abs, rename-substitute_abs, substitute-substitute_sig, substitute-substitute_abs}
use Rattle.sig_laws.proofs.Algebra.Instances.{kinds-length}
use Rattle.sig_laws.proofs.Algebra.Own.{split_index, unders-below}
use Rattle.sig_laws.proofs.Algebra.PathLaws.{field-substitute}
use Rattle.sig_match_laws.specs.AnyTypes.{IsSub, AreSubs, IsSubResult, IsSubAbs, Matches, MatchesSubstitute}
use Rattle.sig_match_laws.proofs.AnyTypes.AnyTypesConv.{matches-kinds}
use Rattle.omega_types.proofs.BinderPuts.{unders-substitutes, substitute-puts}
use Rattle.std.proofs.lemmas.List.{length-map}

-- substitution past binders

pub substitute_abs-raise : (ks : List Kind) (f : ℕ → Ty) (x : Abs) → substitute_abs (unders ks f) (raise_abs ks x) ≡ raise_abs ks (substitute_abs f x)
substitute_abs-raise ks f x = substitute-rename_abs (unders ks f) (past ks) x ∙ (ap (λ g. substitute_abs g x) (fun_ext (unders-past ks f)) ∙ sym (rename-substitute_abs (past ks) f x))

-- a binder's own variable gets its type, whatever the others get
puts-inside : (ts : List Ty) (s q : ℕ → Ty) (i : ℕ) → i < length ts → puts ts s i ≡ puts ts q i
puts-inside [] s q i h = absurd (omega (arith, h))
puts-inside (t ∷ ts) s q i h = go (puts-inside ts (front t s) (front t q) i) (dec_lt i (length ts))
  where
    go : (i < length ts → puts ts (front t s) i ≡ puts ts (front t q) i) → Dec (i < length ts) → puts ts (front t s) i ≡ puts ts (front t q) i
    go f (yes g) = f g
    go f (no n) = puts-past ts (front t s) zero i (omega (arith, h, n)) ∙ sym (puts-past ts (front t q) zero i (omega (arith, h, n)))

-- substituting after the types are put in, or before
puts-substituted : (ks js : List Kind) (ts : List Ty) (f : ℕ → Ty) → length ts ≡ length ks
    → Path (ℕ → Ty) (λ i. substitute (unders js f) (puts ts (λ i. Ty.Var (past js i)) i)) (λ i. substitute (puts (all_substituted (unders js f) ts) (λ i. Ty.Var (past js i))) (unders ks f i))
puts-substituted ks js ts f e = substitute-puts (unders js f) ts (λ i. Ty.Var (past js i)) ∙ fun_ext (λ i. each i (split_index ks i))
  where
    each : (i : ℕ) → (i < length ks) ⊎ ((j : ℕ) × (i ≡ past ks j)) → puts (all_substituted (unders js f) ts) (λ i. unders js f (past js i)) i ≡ substitute (puts (all_substituted (unders js f) ts) (λ i. Ty.Var (past js i))) (unders ks f i)
    each i (inl h) =
        let l = length-map ts (substitute (unders js f)) in
        puts-inside (all_substituted (unders js f) ts) (λ i. unders js f (past js i)) (λ i. Ty.Var (past js i)) i (omega (arith, h, l, e)) ∙
        sym (ap (substitute (puts (all_substituted (unders js f) ts) (λ i. Ty.Var (past js i)))) (unders-below ks f i h))
    each i (inr (j, g)) =
        let l = length-map ts (substitute (unders js f)) in
        let p = past-length ks j in
        (puts-past (all_substituted (unders js f) ts) (λ i. unders js f (past js i)) j i (omega (arith, g, l, p, e)) ∙ unders-past js f j) ∙
        sym (ap (λ u. substitute (puts (all_substituted (unders js f) ts) (λ i. Ty.Var (past js i))) u) (ap (unders ks f) g ∙ unders-past ks f j) ∙
        (substitute-rename (puts (all_substituted (unders js f) ts) (λ i. Ty.Var (past js i))) (past ks) (f j) ∙
        (ap (λ h. substitute h (f j)) (fun_ext (λ i. puts-past (all_substituted (unders js f) ts) (λ i. Ty.Var (past js i)) i (past ks i) (let q = past-length ks i in omega (arith, q, l, e)))) ∙
        substitute-vars (past js) (f j))))

pub substitute-abs_at_under : (ks js : List Kind) (ts : List Ty) (f : ℕ → Ty) (x : Abs) → length ts ≡ length ks → substitute_abs (unders js f) (abs_at_under js ts x) ≡ abs_at_under js (all_substituted (unders js f) ts) (substitute_abs (unders ks f) x)
substitute-abs_at_under ks js ts f x e =
    substitute-substitute_abs (unders js f) (puts ts (λ i. Ty.Var (past js i))) x ∙
    (ap (λ g. substitute_abs g x) (puts-substituted ks js ts f e) ∙
    sym (substitute-substitute_abs (puts (all_substituted (unders js f) ts) (λ i. Ty.Var (past js i))) (unders ks f) x))

pub substitute-sig_at : (ks : List Kind) (ts : List Ty) (f : ℕ → Ty) (s : Sig) → length ts ≡ length ks → substitute_sig f (sig_at ts s) ≡ sig_at (all_substituted f ts) (substitute_sig (unders ks f) s)
substitute-sig_at ks ts f s e =
    substitute-substitute_sig f (puts ts Ty.Var) s ∙
    (ap (λ g. substitute_sig g s) (puts-substituted ks [] ts f e) ∙
    sym (substitute-substitute_sig (puts (all_substituted f ts) Ty.Var) (unders ks f) s))

-- a substitution of types of the right kinds keeps the kinds of a list of types
pub kinds-substituted : {ctx other : List Kind} {ts : List Ty} {ks : List Kind} (f : ℕ → Ty) → Substitutes ctx other f → OfKinds ctx ts ks → OfKinds other (all_substituted f ts) ks
kinds-substituted f h OfKinds.none = OfKinds.none
kinds-substituted f h (OfKinds.next k ks) = OfKinds.next (kind-substitute f h k) (kinds-substituted f h ks)

-- the theorem

mutual
  -- subtyping of signatures of any types is closed under substitution
  pub sub-substitute : {ctx other : List Kind} {s r : Sig} (f : ℕ → Ty) → Substitutes ctx other f → IsSub ctx s r → IsSub other (substitute_sig f s) (substitute_sig f r)
  sub-substitute f h (IsSub.val c) = IsSub.val (conv-substitute f h c)
  sub-substitute f h (IsSub.typ c) = IsSub.typ (conv-substitute f h c)
  sub-substitute f h (IsSub.meta a b) = IsSub.meta (abs-substitute f h a) (abs-substitute f h b)
  sub-substitute f h (IsSub.str a) = IsSub.str (fields-substitute f h a)
  sub-substitute {other = other} f h (IsSub.fun {ks = ks} {js = js} {e = e} {d = d} {s = s} {t = t} {x = x} {z = z} {ts = ts} m r) = IsSub.fun
      (subst (λ y. Matches (extend other js) (substitute_sig (unders js f) t) y (all_substituted (unders js f) ts)) (substitute_abs-raise js f (Abs.Ex ks s)) (match-substitute (unders js f) (unders-substitutes js h) m))
      (subst (λ y. IsSubResult (extend other js) e d y (substitute_abs (unders js f) z)) (substitute-abs_at_under ks js ts f x (kinds-length (matches-kinds m))) (result-substitute (unders js f) (unders-substitutes js h) r))

  pub fields-substitute : {ctx other : List Kind} {fs gs : SigRow} (f : ℕ → Ty) → Substitutes ctx other f → AreSubs ctx fs gs → AreSubs other (substitute_sig_row f fs) (substitute_sig_row f gs)
  fields-substitute f h AreSubs.end = AreSubs.end
  fields-substitute f h (AreSubs.more g a rest) = AreSubs.more (field-substitute f g) (sub-substitute f h a) (fields-substitute f h rest)

  pub result-substitute : {ctx other : List Kind} {e d : Effect} {x z : Abs} (f : ℕ → Ty) → Substitutes ctx other f → IsSubResult ctx e d x z → IsSubResult other e d (substitute_abs f x) (substitute_abs f z)
  result-substitute f h (IsSubResult.both_pure a) = IsSubResult.both_pure (sub-substitute f h a)
  result-substitute f h (IsSubResult.to_impure a) = IsSubResult.to_impure (abs-substitute f h a)

  -- subtyping of signatures that hide types is closed under substitution
  pub abs-substitute : {ctx other : List Kind} {x y : Abs} (f : ℕ → Ty) → Substitutes ctx other f → IsSubAbs ctx x y → IsSubAbs other (substitute_abs f x) (substitute_abs f y)
  abs-substitute f h (IsSubAbs.plain m) = IsSubAbs.plain (match-substitute f h m)
  abs-substitute {other = other} f h (IsSubAbs.hidden {ks = ks} {k = k} {s = s} {y = y} {ts = ts} m) = IsSubAbs.hidden
      (subst (λ z. Matches (extend other (k ∷ ks)) (substitute_sig (unders (k ∷ ks) f) s) z (all_substituted (unders (k ∷ ks) f) ts)) (substitute_abs-raise (k ∷ ks) f y) (match-substitute (unders (k ∷ ks) f) (unders-substitutes (k ∷ ks) h) m))

  pub match-substitute : {ctx other : List Kind} {s : Sig} {x : Abs} {ts : List Ty} (f : ℕ → Ty) → Substitutes ctx other f → Matches ctx s x ts → Matches other (substitute_sig f s) (substitute_abs f x) (all_substituted f ts)
  match-substitute {other = other} f h (Matches.at {ks = ks} {s = s} {t = t} {ts = ts} o d) =
      Matches.at (kinds-substituted f h o) (subst (IsSub other (substitute_sig f s)) (substitute-sig_at ks ts f t (kinds-length o)) (sub-substitute f h d))

-- signatures that match do so after a substitution
pub matches_substitute : MatchesSubstitute
matches_substitute ctx other s x ts f h m = match-substitute f h m
