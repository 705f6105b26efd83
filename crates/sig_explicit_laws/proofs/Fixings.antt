-- A hidden type is fixed in an ordered explicit signature.
-- Main results: fixed_explicit.
use Rattle.std.specs.Prelude.{ℕ, zero, suc, ◌+◌, ◌<◌, ◌≤◌, List, ◌∷◌, ◌++◌, ◌≡◌, ◌⊎◌, length}
use mathlib.Core.Logic.{inl, inr}
use Rattle.std.proofs.Common.{arith}
use Rattle.std.proofs.Math.Path.{sym, ◌∙◌, ap, subst}
use Rattle.omega_kinds.specs.Kind.{Kind}
use Rattle.omega_types.specs.Ty.{Ty}
use Rattle.omega_types.specs.Kinding.{HasKind}
use Rattle.omega_types.specs.Mentions.{Mentions}
use Rattle.omega_types.specs.Binders.{extend, past, own, front, raise, unders}
use Rattle.omega_types.proofs.Preservation.{Substitutes, kind-rename}
use Rattle.sig_definitions.specs.Signatures.Sig.{Sig, Abs}
use Rattle.sig_definitions.specs.Signatures.SigSubst.{substitute_sig}
use Rattle.sig_definitions.specs.Explicit.SigPath.{SigPath}
use Rattle.sig_definitions.specs.Explicit.RootPath.{ParamsAvoid, RootPath, root_path, root_of}
use Rattle.sig_laws.proofs.Formed.RootNumbers.{own_falls, by_numbers}
use Rattle.sig_definitions.specs.Explicit.WellFormed.{WellFormed, Explicit, explicit}
use Rattle.sig_laws.proofs.Algebra.BinderLaws.{extend-append, unders-past}
use Rattle.sig_laws.proofs.Algebra.SigMention.{mentions-rename}
use Rattle.sig_laws.proofs.Algebra.Own.{split_index, unders-below}
use Rattle.sig_laws.proofs.Formed.WellFormedLaws.{well_formed-kinds, well_formed-substitute, explicit_results-substitute}
use Rattle.sig_explicit_laws.proofs.Moves.{params-moved}
use Rattle.sig_explicit_laws.proofs.Positions.{own-first, own-second, split-number, past-injective, not-past, own-below}
use Rattle.omega_types.proofs.BinderLaws.{past-maps}
use Rattle.omega_types.proofs.BinderPuts.{unders-substitutes, front-substitutes, vars-substitutes}
use Rattle.sig_laws.specs.Decide.{in_var}
use Rattle.std.proofs.lemmas.List.{length-append}
use Rattle.sig_laws.proofs.Formed.Shows.{rooted-shows, shows-rooted, shows-substitute}

module _ (before after : List Kind) (k : Kind) (u : Ty) where
  -- from under all binders to under those that are left
  abbrev fixing : ℕ → Ty
  fixing = unders after (front (raise before u) Ty.Var)

  -- which number a number had
  data Kept : ℕ → ℕ → Type 0 where
    outer : {j : ℕ} → j < length before → Kept j j
    inner : {m : ℕ} → m < length after → Kept (length before + m) (length before + suc m)

  kept : (j : ℕ) → j < length (before ++ after) → (n : ℕ) × Kept j n × (n < length (before ++ (k ∷ after)))
  kept j h = go (split-number before after j h)
    where
      go : (j < length before) ⊎ ((m : ℕ) × (j ≡ length before + m) × (m < length after)) → (n : ℕ) × Kept j n × (n < length (before ++ (k ∷ after)))
      go (inl e) = let l = length-append before (k ∷ after) in (j, outer e, omega arith)
      go (inr (m, f, e)) = let l = length-append before (k ∷ after) in (length before + suc m, subst (λ i. Kept i (length before + suc m)) (sym f) (inner e), omega arith)

  kept-order : {i n j m : ℕ} → Kept i n → Kept j m → i ≤ j → n ≤ m
  kept-order (outer e) (outer f) h = h
  kept-order (outer e) (inner f) h = omega (arith, e)
  kept-order (inner e) (outer f) h = absurd (omega (arith, f, h))
  kept-order (inner e) (inner f) h = omega (arith, h)

  kept-bound : {i n : ℕ} → Kept i n → n < length (before ++ (k ∷ after))
  kept-bound (outer e) = let l = length-append before (k ∷ after) in omega (arith, e, l)
  kept-bound (inner e) = let l = length-append before (k ∷ after) in omega (arith, e, l)

  old-inner : (m : ℕ) → m < length after → own (before ++ (k ∷ after)) (length before + suc m) ≡ own after m
  old-inner m h = own-second before (k ∷ after) (suc m) ∙ omega arith

  kept-shows : {i n : ℕ} → Kept i n → fixing (own (before ++ (k ∷ after)) n) ≡ Ty.Var (own (before ++ after) i)
  kept-shows (outer {j = j} e) =
      ap fixing (own-first before (k ∷ after) j e) ∙ (unders-past after (front (raise before u) Ty.Var) (suc (own before j)) ∙ ap Ty.Var (sym (own-first before after j e)))
  kept-shows (inner {m = m} e) =
      ap fixing (old-inner m e) ∙ (unders-below after (front (raise before u) Ty.Var) (own after m) (own-below after m e) ∙ ap Ty.Var (sym (own-second before after m)))

  -- only what becomes a variable is put to what mentions it
  kept-only : {i n : ℕ} (x : ℕ) → Kept i n → Mentions (own (before ++ after) i) (fixing x) → x ≡ own (before ++ (k ∷ after)) n
  kept-only x (outer {j = j} e) m = go (split_index after x)
    where
      v : ℕ
      v = own (before ++ after) j

      deep : (y : ℕ) → x ≡ past after y → Mentions (past after (own before j)) (raise after (front (raise before u) Ty.Var y)) → x ≡ own (before ++ (k ∷ after)) j
      deep zero f q =
          let a = mentions-rename (past after) (raise before u) (past after (own before j)) q in
          let b = mentions-rename (past before) u a.0 a.1 in
          let c = past-injective after a.0 (own before j) a.2 in
          absurd (not-past before (own before j) b.0 (own-below before j e) (sym (b.2 ∙ c)))
      deep (suc z) f q = f ∙ (ap (λ w. past after (suc w)) (sym (past-injective after (own before j) z (in_var q))) ∙ sym (own-first before (k ∷ after) j e))

      go : (x < length after) ⊎ ((y : ℕ) × (x ≡ past after y)) → x ≡ own (before ++ (k ∷ after)) j
      go (inl h) = absurd (not-past after x (own before j) h (sym (in_var (subst (Mentions (own (before ++ after) j)) (unders-below after (front (raise before u) Ty.Var) x h) m)) ∙ own-first before after j e))
      go (inr (y, f)) = deep y f (subst (λ w. Mentions w (raise after (front (raise before u) Ty.Var y))) (own-first before after j e) (subst (Mentions (own (before ++ after) j)) (ap fixing f ∙ unders-past after (front (raise before u) Ty.Var) y) m))
  kept-only x (inner {m = n} e) m = go (split_index after x)
    where
      go : (x < length after) ⊎ ((y : ℕ) × (x ≡ past after y)) → x ≡ own (before ++ (k ∷ after)) (length before + suc n)
      go (inl h) = sym (in_var (subst (Mentions (own (before ++ after) (length before + n))) (unders-below after (front (raise before u) Ty.Var) x h) m)) ∙ (own-second before after n ∙ sym (old-inner n e))
      go (inr (y, f)) =
          let a = mentions-rename (past after) (front (raise before u) Ty.Var y) (own (before ++ after) (length before + n)) (subst (Mentions (own (before ++ after) (length before + n))) (ap fixing f ∙ unders-past after (front (raise before u) Ty.Var) y) m) in
          absurd (not-past after (own after n) a.0 (own-below after n e) (sym (a.2 ∙ own-second before after n)))

  abbrev inside : List Kind → List Kind
  inside ctx = extend ctx (before ++ (k ∷ after))

  abbrev left : List Kind → List Kind
  left ctx = extend ctx (before ++ after)

  fixing-substitutes : (ctx : List Kind) → HasKind ctx u k → Substitutes (inside ctx) (left ctx) fixing
  fixing-substitutes ctx h =
      subst (λ c. Substitutes c (left ctx) fixing) (sym (extend-append before (k ∷ after) ctx))
      (subst (λ c. Substitutes (extend (k ∷ extend ctx before) after) c fixing) (sym (extend-append before after ctx))
      (unders-substitutes after (front-substitutes (kind-rename (past before) (past-maps before ctx) h) (vars-substitutes (extend ctx before)))))

  fixed_root : (ctx : List Kind) (s : Sig) {i n : ℕ} {p : SigPath} → HasKind ctx u k → WellFormed (inside ctx) s → Kept i n → i < length (before ++ after) → RootPath ctx (before ++ (k ∷ after)) s n p → RootPath ctx (before ++ after) (substitute_sig fixing s) i p
  fixed_root ctx s {i} {n} {p} h w e b (root_path bound (root_of x y)) = by_numbers b
      (shows-rooted (kept-shows e) (shows-substitute fixing (fixing-substitutes ctx h) (rooted-shows x)))
      (λ j le lt. let f = kept j lt in
      params-moved s p (own (before ++ after) j) fixing (fixing-substitutes ctx h) (well_formed-kinds w)
      (λ z m. subst (ParamsAvoid (inside ctx) s p) (sym (kept-only z f.1 m)) (y (own (before ++ (k ∷ after)) f.0) (own_falls (before ++ (k ∷ after)) n f.0 (kept-order e f.1 le)))))

  -- fixing a hidden type keeps a signature ordered explicit
  pub fixed_explicit : (ctx : List Kind) (s : Sig) → HasKind ctx u k → Explicit ctx (Abs.Ex (before ++ (k ∷ after)) s) → Explicit ctx (Abs.Ex (before ++ after) (substitute_sig fixing s))
  fixed_explicit ctx s h (explicit w r e) = explicit
      (well_formed-substitute fixing (fixing-substitutes ctx h) w)
      (explicit_results-substitute fixing (fixing-substitutes ctx h) r)
      (λ i lt. let f = kept i lt in let b = e f.0 f.2 in (b.0, fixed_root ctx s h w f.1 lt b.1))
