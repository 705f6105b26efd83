-- The test of a type says yes exactly where the type is normal, and then normalising gives it back.
-- Main results: test-decides, stands.
use Rattle.std.proofs.Common.{◌≡◌, ◌↔◌, List, ◌∷◌, Option, Some, None, Bool as Truth, true, ◌&&◌, IsTrue, slice_get, refl, sym, ap, ◌∙◌, subst}
use Rattle.std.proofs.lemmas.Bool.{and_parts}
use Rattle.std.proofs.lemmas.Option.{same_Some}
use Rattle.omega_kinds.specs.Kind.{Kind, kind_eq}
use Rattle.omega_types.specs.Ty.{Ty, Row}
use Rattle.omega_types.specs.KindIn.{is_star, are_distinct, is_fresh}
use Rattle.omega_types.specs.Normality.{Normal, Normals, Neutral}
use Rattle.omega_types.specs.Normality.Normal.{n_lam, n_int, n_bool, n_text, n_arrow, n_fields, n_sum, n_all, n_ex, n_mu, n_neutral}
use Rattle.omega_types.specs.Normality.Normals.{n_end, n_more}
use Rattle.omega_types.specs.Normality.Neutral.{n_var, n_apply}
use Rattle.omega_types.proofs.KindsFound.{lookup-found, found-lookup, fresh-sound, fresh-complete, kind_in-complete}
use Rattle.omega_types.proofs.LawProofs.{normal_of_normal}
use Rattle.omega_types.proofs.Preservation.{normal-kind}
use Rattle.type_store.specs.Inner.ShapeLaws.{kind_eq-yes, kind_eq-self, no}
use Rattle.omega_node_laws.specs.Found.{normal_at}
use Rattle.omega_checker.specs.Inner.IsNormal.{at_star, at_arrow, with_arg, is_normal, are_normal, neutral_kind}
use Rattle.omega_node_laws.proofs.Inverted.{if-yes, none-some}

-- ---- the small steps

star-yes : (o : Option Kind) → is_star o ≡ true → o ≡ Some Kind.Star
star-yes None e = no e
star-yes (Some Kind.Star) e = refl
star-yes (Some (Kind.Arrow a b)) e = no e

at_star-yes : (k : Kind) (b : Truth) → at_star k b ≡ true → (Kind.Star ≡ k) × (b ≡ true)
at_star-yes Kind.Star b e = (refl, e)
at_star-yes (Kind.Arrow k l) b e = no e

at_arrow-yes : (k : Kind) (f : Kind → Kind → Truth) → at_arrow k f ≡ true → (i : Kind) × (l : Kind) × (Kind.Arrow i l ≡ k) × (f i l ≡ true)
at_arrow-yes Kind.Star f e = no e
at_arrow-yes (Kind.Arrow i l) f e = (i, l, refl, e)

with_arg-yes : (o : Option Kind) (f : Kind → Truth) (m : Kind) → with_arg o f ≡ Some m → (k : Kind) × (o ≡ Some (Kind.Arrow k m)) × (f k ≡ true)
with_arg-yes None f m e = none-some e
with_arg-yes (Some Kind.Star) f m e = none-some e
with_arg-yes (Some (Kind.Arrow k l)) f m e = let p = if-yes (f k) (Some l) m e in (k, ap (λ j. Some (Kind.Arrow k j)) (same_Some _ _ p.1), p.0)

-- ---- where the test says yes, the type is normal

mutual
  pub normal-yes : (ctx : List Kind) (t : Ty) (k : Kind) → is_normal ctx t k ≡ true → Normal ctx t k
  normal-yes ctx (Ty.Var i) k e =
      let p = at_star-yes k (is_star (slice_get ctx i)) e in
      subst (Normal ctx (Ty.Var i)) p.0 (n_neutral (n_var (found-lookup ctx i Kind.Star (star-yes (slice_get ctx i) p.1))))
  normal-yes ctx Ty.Int k e = subst (Normal ctx Ty.Int) (at_star-yes k true e).0 n_int
  normal-yes ctx Ty.Bool k e = subst (Normal ctx Ty.Bool) (at_star-yes k true e).0 n_bool
  normal-yes ctx Ty.Text k e = subst (Normal ctx Ty.Text) (at_star-yes k true e).0 n_text
  normal-yes ctx (Ty.Arrow a b) k e =
      let p = at_star-yes k (is_normal ctx a Kind.Star && is_normal ctx b Kind.Star) e in
      let q = and_parts (is_normal ctx a Kind.Star) (is_normal ctx b Kind.Star) p.1 in
      subst (Normal ctx (Ty.Arrow a b)) p.0 (n_arrow (normal-yes ctx a Kind.Star q.0) (normal-yes ctx b Kind.Star q.1))
  normal-yes ctx (Ty.Fields r) k e =
      let p = at_star-yes k (are_distinct r && are_normal ctx r) e in
      let q = and_parts (are_distinct r) (are_normal ctx r) p.1 in
      subst (Normal ctx (Ty.Fields r)) p.0 (n_fields (normals-yes ctx r q.0 q.1))
  normal-yes ctx (Ty.Sum r) k e =
      let p = at_star-yes k (are_distinct r && are_normal ctx r) e in
      let q = and_parts (are_distinct r) (are_normal ctx r) p.1 in
      subst (Normal ctx (Ty.Sum r)) p.0 (n_sum (normals-yes ctx r q.0 q.1))
  normal-yes ctx (Ty.All j b) k e =
      let p = at_star-yes k (is_normal (j ∷ ctx) b Kind.Star) e in
      subst (Normal ctx (Ty.All j b)) p.0 (n_all (normal-yes (j ∷ ctx) b Kind.Star p.1))
  normal-yes ctx (Ty.Ex j b) k e =
      let p = at_star-yes k (is_normal (j ∷ ctx) b Kind.Star) e in
      subst (Normal ctx (Ty.Ex j b)) p.0 (n_ex (normal-yes (j ∷ ctx) b Kind.Star p.1))
  normal-yes ctx (Ty.Mu b) k e =
      let p = at_star-yes k (is_normal (Kind.Star ∷ ctx) b Kind.Star) e in
      subst (Normal ctx (Ty.Mu b)) p.0 (n_mu (normal-yes (Kind.Star ∷ ctx) b Kind.Star p.1))
  normal-yes ctx (Ty.Lam j b) k e =
      let p = at_arrow-yes k (λ i l. kind_eq j i && is_normal (j ∷ ctx) b l) e in
      let q = and_parts (kind_eq j p.0) (is_normal (j ∷ ctx) b p.1) p.3 in
      subst (Normal ctx (Ty.Lam j b)) (ap (λ i. Kind.Arrow i p.1) (kind_eq-yes j p.0 q.0) ∙ p.2) (n_lam (normal-yes (j ∷ ctx) b p.1 q.1))
  normal-yes ctx (Ty.Apply f a) k e =
      let p = at_star-yes k (is_star (with_arg (neutral_kind ctx f) (is_normal ctx a))) e in
      let q = with_arg-yes (neutral_kind ctx f) (is_normal ctx a) Kind.Star (star-yes (with_arg (neutral_kind ctx f) (is_normal ctx a)) p.1) in
      subst (Normal ctx (Ty.Apply f a)) p.0 (n_neutral (n_apply (neutral-yes ctx f (Kind.Arrow q.0 Kind.Star) q.1) (normal-yes ctx a q.0 q.2)))

  normals-yes : (ctx : List Kind) (r : Row) → are_distinct r ≡ true → are_normal ctx r ≡ true → Normals ctx r
  normals-yes ctx Row.End d e = n_end
  normals-yes ctx (Row.More l t r) d e =
      let p = and_parts (is_fresh l r) (are_distinct r) d in
      let q = and_parts (is_normal ctx t Kind.Star) (are_normal ctx r) e in
      n_more (fresh-sound l r p.0) (normal-yes ctx t Kind.Star q.0) (normals-yes ctx r p.1 q.1)

  neutral-yes : (ctx : List Kind) (t : Ty) (k : Kind) → neutral_kind ctx t ≡ Some k → Neutral ctx t k
  neutral-yes ctx (Ty.Var i) k e = n_var (found-lookup ctx i k e)
  neutral-yes ctx (Ty.Apply f a) k e =
      let q = with_arg-yes (neutral_kind ctx f) (is_normal ctx a) k e in
      n_apply (neutral-yes ctx f (Kind.Arrow q.0 k) q.1) (normal-yes ctx a q.0 q.2)
  neutral-yes ctx _ k e = none-some e

-- ---- where the type is normal, the test says yes

neutral-star : (ctx : List Kind) (t : Ty) → neutral_kind ctx t ≡ Some Kind.Star → is_normal ctx t Kind.Star ≡ true
neutral-star ctx (Ty.Var i) e = ap is_star e
neutral-star ctx (Ty.Apply f a) e = ap is_star e
neutral-star ctx _ e = none-some e

mutual
  pub yes-normal : {ctx : List Kind} {t : Ty} {k : Kind} → Normal ctx t k → is_normal ctx t k ≡ true
  yes-normal (n_lam {k = k} b) = rw (kind_eq-self k, yes-normal b) refl
  yes-normal n_int = refl
  yes-normal n_bool = refl
  yes-normal n_text = refl
  yes-normal (n_arrow a b) = rw (yes-normal a, yes-normal b) refl
  yes-normal (n_fields r) = rw (distinct-normals r, yes-normals r) refl
  yes-normal (n_sum r) = rw (distinct-normals r, yes-normals r) refl
  yes-normal (n_all b) = yes-normal b
  yes-normal (n_ex b) = yes-normal b
  yes-normal (n_mu b) = yes-normal b
  yes-normal {ctx} (n_neutral {t = t} n) = neutral-star ctx t (yes-neutral n)

  yes-normals : {ctx : List Kind} {r : Row} → Normals ctx r → are_normal ctx r ≡ true
  yes-normals n_end = refl
  yes-normals (n_more f t r) = rw (yes-normal t, yes-normals r) refl

  distinct-normals : {ctx : List Kind} {r : Row} → Normals ctx r → are_distinct r ≡ true
  distinct-normals n_end = refl
  distinct-normals (n_more {l = l} {rest = rest} f t r) = rw (fresh-complete l rest f, distinct-normals r) refl

  yes-neutral : {ctx : List Kind} {t : Ty} {k : Kind} → Neutral ctx t k → neutral_kind ctx t ≡ Some k
  yes-neutral (n_var x) = lookup-found x
  yes-neutral (n_apply f a) = rw (yes-neutral f, yes-normal a) refl

-- ---- for the code

-- the result of the test says whether the type is normal
pub test-decides : (ctx : List Kind) (t : Ty) (k : Kind) (b : Truth) → b ≡ is_normal ctx t k → (IsTrue b ↔ Normal ctx t k)
test-decides ctx t k b e = (λ h. normal-yes ctx t k (sym e ∙ h), λ n. e ∙ yes-normal n)

-- a normal type is its own normal form
pub stands : (ctx : List Kind) (t : Ty) (k : Kind) → Normal ctx t k → Some t ≡ normal_at ctx t k
stands ctx t k n = rw (kind_in-complete (normal-kind n), kind_eq-self k, normal_of_normal ctx t k n) refl
