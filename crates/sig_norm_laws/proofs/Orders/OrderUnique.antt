-- A path roots at most one variable, and the order of quantifiers is unique.
-- Main results: one-rooted, one-order.
use Rattle.std.specs.Prelude.{ℕ, suc, ◌<◌, ◌-◌, List, ◌∷◌, ◌≡◌, length}
use Rattle.std.proofs.Common.{arith}
use Rattle.std.proofs.Math.Path.{refl, sym, ap₂, subst, subst₂}
use Rattle.omega_kinds.specs.Kind.{Kind}
use Rattle.omega_types.specs.Ty.{Ty}
use Rattle.omega_types.specs.Conversion.{Conv}
use Rattle.omega_types.specs.Binders.{extend, own, applied}
use Rattle.sig_definitions.specs.Signatures.Sig.{Sig}
use Rattle.sig_definitions.specs.Explicit.SigPath.{SigPath, PathBefore}
use Rattle.sig_definitions.specs.Explicit.RootPath.{Rooted, at}
use Rattle.sig_definitions.specs.QuantifierOrder.{Untaken, Counts, counts, Taking, done, next}
use Rattle.sig_laws.proofs.Algebra.Names.{Compared, before, after, same}
use Rattle.sig_laws.proofs.Algebra.Paths.{compare-roots, one-type}
use Rattle.sig_norm_laws.proofs.Orders.Heads.{one-head}

-- at most one variable is rooted at a path
pub one-rooted : {ctx : List Kind} {s : Sig} {i j : ℕ} {p q : SigPath} → Rooted ctx s i p → Rooted ctx s j q → p ≡ q → i ≡ j
one-rooted {ctx} {j = j} (at {bs = bs} x c) (at {t = u} {k = l} y d) e =
    let f = one-type x y e in
    one-head bs ctx c (subst₂ (λ cs v. Conv (extend ctx cs) v (applied cs (Ty.Var j)) l) (sym f.0) (sym f.1) d)

-- the indexes of hidden types determine their numbers
pub same-own : (n i j : ℕ) → i < n → j < n → n - suc i ≡ n - suc j → i ≡ j
same-own n i j h g e = omega (arith, h, g, e)

pub counts-rooted : {ctx ks : List Kind} {s : Sig} {taken : List ℕ} {i : ℕ} {p : SigPath} → Counts ctx ks s taken i p → Rooted (extend ctx ks) s (own ks i) p
counts-rooted (counts u r h) = r

-- a hidden type that counts is none of those taken
pub counts-untaken : {ctx ks : List Kind} {s : Sig} {taken : List ℕ} {i : ℕ} {p : SigPath} → Counts ctx ks s taken i p → Untaken ks taken i
counts-untaken (counts u r h) = u

-- the order of quantifiers is unique
pub one-order : {ctx ks : List Kind} {s : Sig} {taken seen order other : List ℕ} → taken ≡ seen → Taking ctx ks s taken order → Taking ctx ks s seen other → order ≡ other
one-order e (done h) (done g) = refl
one-order {ctx} {ks} {s} e (done h) (next {number = j} c g t) = absurd (h j (subst (λ l. Untaken ks l j) (sym e) (counts-untaken c)))
one-order {ctx} {ks} {s} e (next {number = i} c g t) (done h) = absurd (h i (subst (λ l. Untaken ks l i) e (counts-untaken c)))
one-order {ctx} {ks} {s} {taken} {seen} e (next {order = o} {number = i} {p = p} c g t) (next {order = u} {number = j} {p = q} d h v) =
    go (λ f. one-order (ap₂ ◌∷◌ f e) t v) (compare-roots (counts-rooted c) (counts-rooted d))
  where
    go : (i ≡ j → o ≡ u) → Compared PathBefore p q → i ∷ o ≡ j ∷ u
    go ih (before b) = absurd (h i p (subst (λ l. Counts ctx ks s l i p) e c) b)
    go ih (after b) = absurd (g j q (subst (λ l. Counts ctx ks s l j q) (sym e) d) b)
    go ih (same b) =
        let f : i ≡ j = same-own (length ks) i j (counts-untaken c).0 (counts-untaken d).0 (one-rooted (counts-rooted c) (counts-rooted d) b) in
        ap₂ ◌∷◌ f (ih f)
