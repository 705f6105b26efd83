-- Lifting leads from one context to the other.
-- Main results: lifting_maps, lifting_kinds.
use Rattle.std.specs.Prelude.{ℕ, zero, suc, List, [], ◌∷◌, ◌≡◌, ◌⊎◌, ◌<◌, length, map}
use Rattle.std.proofs.Math.Logic.{inl, inr}
use Rattle.std.proofs.Common.{arith}
use Rattle.std.proofs.Math.Path.{refl, sym, ◌∙◌, ap, subst}
use Rattle.std.proofs.lemmas.List.{length-map}
use Rattle.omega_kinds.specs.Kind.{Kind}
use Rattle.omega_types.specs.Kinding.{Lookup, HasKind, here}
use Rattle.omega_types.specs.Kinding.HasKind.{k_var}
use Rattle.omega_types.specs.Normalises.{Maps}
use Rattle.omega_types.specs.Binders.{extend, past, arrow_over}
use Rattle.omega_types.proofs.Mention.{lookup-unique}
use Rattle.omega_types.proofs.BinderLaws.{past-maps, applied-kind}
use Rattle.sig_definitions.specs.Lifting.{lifting, lifted_kinds}
use Rattle.sig_laws.specs.LiftingLaws.{LiftingKinds, LiftingMaps}
use Rattle.omega_types.proofs.BinderPuts.{lifts-maps}
use Rattle.sig_laws.proofs.Algebra.BinderLaws.{lookup-outside, past-length}
use Rattle.sig_laws.proofs.Algebra.Own.{split_index}
use Rattle.sig_laws.proofs.Encoded.LiftTyping.{lifting-outer, lifting-own}

past-map : (f : Kind → Kind) (bs : List Kind) (i : ℕ) → past (map f bs) i ≡ past bs i
past-map f [] i = refl
past-map f (b ∷ bs) i = past-map f bs (suc i)

-- an index from outside keeps its kind when it goes past the lifted binders
pub maps-lifted : (ks bs ctx : List Kind) → Maps ctx (extend ctx (lifted_kinds ks bs)) (past bs)
maps-lifted ks bs ctx i k x = subst (λ j. Lookup (extend ctx (map (arrow_over ks) bs)) j k) (past-map (arrow_over ks) bs i) (past-maps (map (arrow_over ks) bs) ctx i k x)

-- what stands under the parameter's variables alone is renamed past the lifted ones
pub lifting_maps : LiftingMaps
lifting_maps ctx ks bs = lifts-maps ks (maps-lifted ks bs ctx)

-- a variable of the binders has the lifted kind
lookup-mapped : (F : Kind → Kind) (bs ctx other : List Kind) {i : ℕ} {k : Kind} → i < length bs → Lookup (extend ctx bs) i k → Lookup (extend other (map F bs)) i (F k)
lookup-mapped F [] ctx other h x = absurd (omega (arith, h))
lookup-mapped F (b ∷ bs) ctx other {i} {k} h x = go (lookup-mapped F bs (b ∷ ctx) (F b ∷ other)) (split_index bs i)
  where
    last : (j : ℕ) → i ≡ past bs j → j ≡ zero
    last j e = let g = past-length bs j in omega arith

    go : ((g : i < length bs) → Lookup (extend (b ∷ ctx) bs) i k → Lookup (extend (F b ∷ other) (map F bs)) i (F k)) → (i < length bs) ⊎ ((j : ℕ) × (i ≡ past bs j)) → Lookup (extend (F b ∷ other) (map F bs)) i (F k)
    go ih (inl g) = ih g x
    go ih (inr (j, e)) =
        let f : i ≡ past bs zero = e ∙ ap (past bs) (last j e) in
        let same : b ≡ k = lookup-unique (past-maps bs (b ∷ ctx) zero b here) (subst (λ n. Lookup (extend (b ∷ ctx) bs) n k) f x) in
        let l = length-map bs F in
        let p = past-length bs zero in
        let q = past-length (map F bs) zero in
        let place : past (map F bs) zero ≡ i = omega arith in
        subst (λ n. Lookup (extend (F b ∷ other) (map F bs)) n (F k)) place (subst (λ n. Lookup (extend (F b ∷ other) (map F bs)) (past (map F bs) zero) (F n)) same (past-maps (map F bs) (F b ∷ other) zero (F b) here))

-- lifting takes each variable of the result to a type of its kind under the lifted binders
pub lifting_kinds : LiftingKinds
lifting_kinds ctx ks bs i k x = go (split_index bs i)
  where
    go : (i < length bs) ⊎ ((j : ℕ) × (i ≡ past bs j)) → HasKind (extend (extend ctx (lifted_kinds ks bs)) ks) (lifting ks bs i) k
    go (inl h) = subst (λ t. HasKind (extend (extend ctx (lifted_kinds ks bs)) ks) t k) (sym (lifting-own ks bs i h)) (applied-kind ks (k_var (lookup-mapped (arrow_over ks) bs (extend ctx ks) ctx h x)))
    go (inr (j, e)) =
        subst (λ t. HasKind (extend (extend ctx (lifted_kinds ks bs)) ks) t k) (sym (ap (lifting ks bs) e ∙ lifting-outer ks bs j))
        (k_var (lifting_maps ctx ks bs j k (lookup-outside bs (subst (λ n. Lookup (extend (extend ctx ks) bs) n k) e x))))
