-- The types found so far, and any types for the rest.
-- Main results: filled-after, filled-all, filled-more.
use Rattle.std.proofs.Common.{◌≡◌, ℕ, zero, suc, ◌<◌, List, [], ◌∷◌, ◌++◌, length, refl, ap, arith}
use Rattle.omega_kinds.specs.Kind.{Kind}
use Rattle.omega_types.specs.Ty.{Ty}
use Rattle.omega_types.specs.Normality.{Normal, n_lam, n_int}
use Rattle.omega_types.specs.Binders.{NormalForms}
use Rattle.omega_types.proofs.BinderPuts.{its-form}
use Rattle.sig_match.specs.Inner.Put.{any_type, filled, AreNormal}

any_type-normal : (ctx : List Kind) (k : Kind) → Normal ctx (any_type k) k
any_type-normal ctx Kind.Star = n_int
any_type-normal ctx (Kind.Arrow k l) = n_lam (any_type-normal (k ∷ ctx) l)

-- any types for all hidden types are normal
pub any-normal : (ctx ks : List Kind) → AreNormal ctx (filled ks []) ks
any-normal ctx [] = NormalForms.none
any-normal ctx (k ∷ ks) = NormalForms.next (its-form (any_type-normal ctx k)) (any-normal ctx ks)

-- what stands after the types that are found
abbrev pub after : List Kind → List Ty → List Ty
after [] ts = []
after (k ∷ ks) [] = filled (k ∷ ks) []
after (k ∷ ks) (t ∷ ts) = after ks ts

-- types found for the first hidden types stand before any types for the others
pub filled-after : (ks : List Kind) (ts : List Ty) → length ts < length ks → filled ks ts ≡ ts ++ after ks ts
filled-after [] ts lt = absurd (omega (arith, lt))
filled-after (k ∷ ks) [] lt = refl
filled-after (k ∷ []) (t ∷ ts) lt = absurd (omega (arith, lt))
filled-after (k ∷ j ∷ ks) (t ∷ ts) lt = ap (◌∷◌ t) (filled-after (j ∷ ks) ts (omega (arith, lt)))

-- types found for all hidden types are those that are put in
pub filled-all : (ks : List Kind) (ts : List Ty) → length ts ≡ length ks → filled ks ts ≡ ts
filled-all [] [] e = refl
filled-all [] (t ∷ ts) e = absurd (omega (arith, e))
filled-all (k ∷ ks) [] e = absurd (omega (arith, e))
filled-all (k ∷ ks) (t ∷ ts) e = ap (◌∷◌ t) (filled-all ks ts (omega (arith, e)))

-- the kind of a number, with those before it and after it
pub split : (ks : List Kind) (n : ℕ) → n < length ks → (first : List Kind) × (k : Kind) × (more : List Kind) × (ks ≡ first ++ (k ∷ more)) × (n ≡ length first)
split [] n lt = absurd (omega (arith, lt))
split (k ∷ ks) zero lt = ([], k, ks, refl, refl)
split (k ∷ ks) (suc n) lt = let s = split ks n (omega (arith, lt)) in (k ∷ s.0, s.1, s.2, ap (◌∷◌ k) s.3, ap suc s.4)

-- with one more normal type found, the types that are put in are normal
pub filled-more : (ctx first : List Kind) (k : Kind) (more : List Kind) (ts : List Ty) (t : Ty) → length ts ≡ length first → Normal ctx t k → AreNormal ctx (filled (first ++ (k ∷ more)) ts) (first ++ (k ∷ more)) → AreNormal ctx (filled (first ++ (k ∷ more)) (ts ++ (t ∷ []))) (first ++ (k ∷ more))
filled-more ctx [] k more [] t e n (NormalForms.next f fs) = NormalForms.next (its-form n) fs
filled-more ctx [] k more (u ∷ ts) t e n fs = absurd (omega (arith, e))
filled-more ctx (j ∷ first) k more [] t e n fs = absurd (omega (arith, e))
filled-more ctx (j ∷ first) k more (u ∷ ts) t e n (NormalForms.next f fs) = NormalForms.next f (filled-more ctx first k more ts t (omega (arith, e)) n fs)
