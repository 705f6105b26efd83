-- Signatures under binders whose variables are renamed, and the types at which they match.
-- Main results: sub-renamed, sub_abs-renamed.
use Rattle.std.specs.Prelude.{ℕ, zero, suc, List, [], ◌∷◌, ◌≡◌}
use Rattle.std.proofs.Math.Path.{refl, sym, ◌∙◌, ap, subst, fun_ext}
use Rattle.omega_kinds.specs.Kind.{Kind}
use Rattle.omega_types.specs.Ty.{Ty}
use Rattle.omega_types.specs.Kinding.Lookup.{here}
use Rattle.omega_types.specs.Kinding.HasKind.{k_var}
use Rattle.omega_types.specs.Normalises.{Maps}
use Rattle.omega_types.specs.Binders.{extend, past, lifts, front, puts, OfKinds}
use Rattle.omega_types.proofs.BinderLaws.{past-maps}
use Rattle.omega_types.proofs.BinderPuts.{kinds-fit}
use Rattle.sig_definitions.specs.Signatures.Sig.{Sig, Abs}
use Rattle.sig_definitions.specs.Signatures.SigSubst.{rename_sig, rename_abs, substitute_sig, substitute_abs, raise_abs, sig_at, abs_at_under}
use Rattle.sig_laws.proofs.Algebra.SigAlgebra.{substitute-vars_sig, substitute-vars_abs, rename-rename_sig, rename-rename_abs, rename_sig-id, rename_abs-id}
use Rattle.sig_laws.proofs.Formed.WellFormedLaws.{maps-substitutes}
use Rattle.sig_match_laws.specs.AnyTypes.{IsSub, IsSubAbs, Matches}
use Rattle.sig_match_laws.proofs.AnyTypes.AnyTypesSubst.{sub-substitute, abs-substitute}
use Rattle.sig_norm_laws.proofs.Orders.Aligned.{sig_at-under}

-- what the variables of the binders are renamed to, as types
abbrev pub renamed : List Kind → (ℕ → ℕ) → List Ty
renamed [] r = []
renamed (k ∷ ks) r = Ty.Var (r (past ks zero)) ∷ renamed ks r

-- put in, they rename
puts-renamed : (ks : List Kind) (r : ℕ → ℕ) (f : ℕ → Ty) → ((j : ℕ) → f j ≡ Ty.Var (r (past ks j))) → (i : ℕ) → puts (renamed ks r) f i ≡ Ty.Var (r i)
puts-renamed [] r f h i = h i
puts-renamed (k ∷ ks) r f h i = puts-renamed ks r (front (Ty.Var (r (past ks zero))) f) next i
  where
    next : (j : ℕ) → front (Ty.Var (r (past ks zero))) f j ≡ Ty.Var (r (past ks j))
    next zero = refl
    next (suc j) = h j

kinds-renamed : (ctx inner ks : List Kind) (r : ℕ → ℕ) → Maps (extend ctx ks) inner r → OfKinds inner (renamed ks r) ks
kinds-renamed ctx inner [] r h = OfKinds.none
kinds-renamed ctx inner (k ∷ ks) r h = OfKinds.next (k_var (h (past ks zero) k (past-maps ks (k ∷ ctx) zero k here))) (kinds-renamed (k ∷ ctx) inner ks r h)

-- the variables outside keep their places
abbrev pub Outside : (ks js : List Kind) → (ℕ → ℕ) → Type 0
Outside ks js r = (j : ℕ) → r (past ks j) ≡ past js j

module _ (ctx ks js : List Kind) (r : ℕ → ℕ) (h : Maps (extend ctx ks) (extend ctx js) r) (out : Outside ks js r) where
  puts-all : Path (ℕ → Ty) (puts (renamed ks r) (λ i. Ty.Var (past js i))) (λ i. Ty.Var (r i))
  puts-all = fun_ext (puts-renamed ks r (λ i. Ty.Var (past js i)) (λ j. ap Ty.Var (sym (out j))))

  sig-renamed : (s : Sig) → sig_at (renamed ks r) (rename_sig (lifts ks (past js)) s) ≡ rename_sig r s
  sig-renamed s =
      sig_at-under ks js (renamed ks r) s (kinds-fit (kinds-renamed ctx (extend ctx js) ks r h)) ∙
      (ap (λ f. substitute_sig f s) puts-all ∙ substitute-vars_sig r s)

  -- a signature at the renamed variables of the binders is the renamed signature
  pub abs-renamed : (x : Abs) → abs_at_under js (renamed ks r) x ≡ rename_abs r x
  abs-renamed x = ap (λ f. substitute_abs f x) puts-all ∙ substitute-vars_abs r x

  -- what is below a renamed body matches the signature
  pub matches-renamed : (t s : Sig) → IsSub (extend ctx js) t (rename_sig r s) → Matches (extend ctx js) t (raise_abs js (Abs.Ex ks s)) (renamed ks r)
  matches-renamed t s a = Matches.at (kinds-renamed ctx (extend ctx js) ks r h) (subst (IsSub (extend ctx js) t) (sym (sig-renamed s)) a)

-- renaming keeps what is below

-- renaming keeps subtyping of signatures of any types
pub sub-renamed : {ctx other : List Kind} {s t : Sig} (r : ℕ → ℕ) → Maps ctx other r → IsSub ctx s t → IsSub other (rename_sig r s) (rename_sig r t)
sub-renamed {ctx} {other} {s} {t} r h a =
    subst (IsSub other (rename_sig r s)) (substitute-vars_sig r t)
    (subst (λ z. IsSub other z (substitute_sig (λ i. Ty.Var (r i)) t)) (substitute-vars_sig r s) (sub-substitute (λ i. Ty.Var (r i)) (maps-substitutes h) a))

-- renaming keeps subtyping of signatures of any types that hide types
pub sub_abs-renamed : {ctx other : List Kind} {x y : Abs} (r : ℕ → ℕ) → Maps ctx other r → IsSubAbs ctx x y → IsSubAbs other (rename_abs r x) (rename_abs r y)
sub_abs-renamed {ctx} {other} {x} {y} r h a =
    subst (IsSubAbs other (rename_abs r x)) (substitute-vars_abs r y)
    (subst (λ z. IsSubAbs other z (substitute_abs (λ i. Ty.Var (r i)) y)) (substitute-vars_abs r x) (abs-substitute (λ i. Ty.Var (r i)) (maps-substitutes h) a))

-- a renaming and the one that undoes it

-- undoing a renaming of a signature gives the signature
pub sig-undone : (r q : ℕ → ℕ) → ((i : ℕ) → q (r i) ≡ i) → (s : Sig) → rename_sig q (rename_sig r s) ≡ s
sig-undone r q e s = rename-rename_sig q r s ∙ (ap (λ f. rename_sig f s) (fun_ext e) ∙ rename_sig-id s)

-- undoing a renaming of a signature that hides types gives the signature
pub abs-undone : (r q : ℕ → ℕ) → ((i : ℕ) → q (r i) ≡ i) → (x : Abs) → rename_abs q (rename_abs r x) ≡ x
abs-undone r q e x = rename-rename_abs q r x ∙ (ap (λ f. rename_abs f x) (fun_ext e) ∙ rename_abs-id x)

-- a signature is opened, whether it hides types or none
pub opened : (ctx ks : List Kind) {s : Sig} {y : Abs} {ts : List Ty} → Matches (extend ctx ks) s (raise_abs ks y) ts → IsSubAbs ctx (Abs.Ex ks s) y
opened ctx [] {s} {y} {ts} m = IsSubAbs.plain (subst (λ z. Matches ctx s z ts) (rename_abs-id y) m)
opened ctx (k ∷ ks) m = IsSubAbs.hidden m
