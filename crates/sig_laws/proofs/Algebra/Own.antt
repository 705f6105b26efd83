-- The binders' own variables under a substitution of those outside.
-- Main results: unders-below.
use Rattle.std.specs.Prelude.{ℕ, zero, ◌-◌, ◌<◌, List, [], ◌∷◌, ◌≡◌, ◌⊎◌, length}
use Rattle.std.proofs.Math.Logic.{inl, inr}
use Rattle.std.proofs.Common.{arith}
use Rattle.std.proofs.Math.Decide.{dec_lt}
use Rattle.std.proofs.Math.Path.{sym, ◌∙◌, ap, subst}
use Rattle.omega_kinds.specs.Kind.{Kind}
use Rattle.omega_types.specs.Ty.{Ty}
use Rattle.omega_types.specs.Substitution.{under}
use Rattle.omega_types.specs.Mentions.{Mentions}
use Rattle.omega_types.specs.Binders.{past, unders}
use Rattle.sig_laws.proofs.Algebra.BinderLaws.{unders-past, past-length}
use Rattle.sig_laws.proofs.Algebra.SigMention.{mentions-rename}
use Rattle.sig_laws.specs.Decide.{in_var}

-- each index is one of the binders' or comes from outside
pub split_index : (ks : List Kind) (i : ℕ) → (i < length ks) ⊎ ((j : ℕ) × (i ≡ past ks j))
split_index ks i = go (dec_lt i (length ks))
  where
    go : Dec (i < length ks) → (i < length ks) ⊎ ((j : ℕ) × (i ≡ past ks j))
    go (yes h) = inl h
    go (no h) = inr (i - length ks, let e = past-length ks (i - length ks) in omega arith)

-- a substitution from outside leaves the binders' own variables as they are
pub unders-below : (ks : List Kind) (f : ℕ → Ty) (i : ℕ) → i < length ks → unders ks f i ≡ Ty.Var i
unders-below [] f i h = absurd (omega (arith, h))
unders-below (k ∷ ks) f i h = go (unders-below ks (under f) i) (split_index ks i)
  where
    last : (j : ℕ) → i ≡ past ks j → j ≡ zero
    last j e = let g = past-length ks j in omega arith

    go : (i < length ks → unders ks (under f) i ≡ Ty.Var i) → (i < length ks) ⊎ ((j : ℕ) × (i ≡ past ks j)) → unders ks (under f) i ≡ Ty.Var i
    go q (inl g) = q g
    go q (inr (j, e)) =
        let g : i ≡ past ks zero = e ∙ ap (past ks) (last j e) in
        ap (unders ks (under f)) g ∙ (unders-past ks (under f) zero ∙ ap Ty.Var (sym g))

-- only itself is put to what mentions it
pub own_mention : (ks : List Kind) (f : ℕ → Ty) (v j : ℕ) → v < length ks → Mentions v (unders ks f j) → j ≡ v
own_mention ks f v j h m = go (split_index ks j)
  where
    go : (j < length ks) ⊎ ((i : ℕ) × (j ≡ past ks i)) → j ≡ v
    go (inl g) = sym (in_var (subst (Mentions v) (unders-below ks f j g) m))
    go (inr (i, e)) =
        let q = mentions-rename (past ks) (f i) v (subst (Mentions v) (ap (unders ks f) e ∙ unders-past ks f i) m) in
        let g = past-length ks q.0 in
        let w = q.2 in
        absurd (omega (arith, h, g, w))
