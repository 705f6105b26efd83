-- The lifted signature of an applicative functor is ordered explicit where its parameter and its result are.
-- Main results: lifted_explicit, lifted_well_formed.
use Rattle.std.specs.Prelude.{ℕ, zero, suc, ◌<◌, List, [], ◌∷◌, ◌++◌, ◌≡◌, ◌⊎◌, length}
use mathlib.Core.Logic.{inl, inr}
use Rattle.std.proofs.Common.{arith}
use Rattle.std.proofs.Math.Path.{sym, ◌∙◌, ap, subst}
use Rattle.std.proofs.lemmas.List.{length-map}
use Rattle.omega_kinds.specs.Kind.{Kind}
use Rattle.omega_kinds.specs.declared.effect.Effect.TheVariants.{Pure}
use Rattle.omega_types.specs.Ty.{Ty}
use Rattle.omega_types.specs.Substitution.{rename}
use Rattle.omega_types.specs.Conversion.{Conv}
use Rattle.omega_types.specs.Mentions.{Mentions, m_operator, m_arg}
use Rattle.omega_types.specs.Binders.{extend, past, own, lifts, arrow_over, applied}
use Rattle.sig_definitions.specs.Signatures.Sig.{Sig, Abs}
use Rattle.sig_definitions.specs.Signatures.SigSubst.{rename_sig, substitute_sig}
use Rattle.sig_definitions.specs.Signatures.SigMentions.{Avoids}
use Rattle.sig_definitions.specs.Explicit.SigPath.{SigPath, Item, PartAt, ParamOn}
use Rattle.sig_definitions.specs.Explicit.RootPath.{ParamsAvoid, RootPath, root_path, root_of}
use Rattle.sig_laws.proofs.Formed.RootNumbers.{own_falls, by_numbers}
use Rattle.sig_definitions.specs.Explicit.WellFormed.{EachRooted, WellFormed, Explicit, explicit, in_pure}
use Rattle.sig_definitions.specs.Lifting.{lifted_kinds, lifting, lifted}
use Rattle.sig_laws.proofs.Algebra.BinderLaws.{extend-append, applied-append, past-append, lifts-past, unders-vars}
use Rattle.sig_laws.proofs.Algebra.SigAlgebra.{substitute-vars_sig}
use Rattle.sig_laws.proofs.Algebra.SigMention.{mentions-raised}
use Rattle.sig_laws.proofs.Algebra.Own.{split_index, unders-below}
use Rattle.sig_laws.proofs.Formed.WellFormedLaws.{well_formed-kinds, well_formed-substitute, explicit_results-substitute, explicit-rename, maps-substitutes}
use Rattle.sig_explicit_laws.proofs.Moves.{params-moved}
use Rattle.sig_explicit_laws.proofs.Positions.{past-injective, not-past, own-below}
use Rattle.sig_laws.proofs.Encoded.LiftTyping.{lifting-own as lifting-below, lifting-outer as lifting-past}
use Rattle.sig_laws.specs.Decide.{in_var}
use Rattle.sig_laws.proofs.LiftLaws.{lifting_kinds, lifting_maps, maps-lifted}
use Rattle.sig_laws.proofs.Formed.Shows.{Shows, shows, rooted-shows, shows-rooted, shows-substitute, avoids-moved}

-- what is mentioned

-- an operator mentions from outside what it mentions when it is applied to the binders' variables
pub mentions-applied : (ks : List Kind) {i : ℕ} {t : Ty} → Mentions (past ks i) (applied ks t) → Mentions i t
mentions-applied [] m = m
mentions-applied (k ∷ ks) {i} {t} m = go (mentions-applied ks m)
  where
    go : Mentions (suc i) (Ty.Apply (rename suc t) (Ty.Var zero)) → Mentions i t
    go (m_operator n) = mentions-raised t i n
    go (m_arg n) = let e = in_var n in absurd (omega (arith, e))

-- a renaming from outside leaves the binders' own variables
pub lifts-below : (ks : List Kind) (r : ℕ → ℕ) (x : ℕ) → x < length ks → lifts ks r x ≡ x
lifts-below ks r x h = let e : Path Ty (Ty.Var x) (Ty.Var (lifts ks r x)) = sym (unders-below ks (λ i. Ty.Var (r i)) x h) ∙ ap (λ g. g x) (unders-vars ks r) in cc

-- an index that a renaming under binders takes to one from outside is from outside itself
pub lifts-back : (ks : List Kind) (r : ℕ → ℕ) (x v : ℕ) → lifts ks r x ≡ past ks v → (y : ℕ) × (x ≡ past ks y) × (r y ≡ v)
lifts-back ks r x v e = go (split_index ks x)
  where
    go : (x < length ks) ⊎ ((y : ℕ) × (x ≡ past ks y)) → (y : ℕ) × (x ≡ past ks y) × (r y ≡ v)
    go (inl h) = absurd (not-past ks x v h (sym (lifts-below ks r x h) ∙ e))
    go (inr (y, f)) = (y, f, past-injective ks (r y) v (sym (lifts-past ks r y) ∙ (ap (lifts ks r) (sym f) ∙ e)))

-- through the functor

-- a path that shows an applied type in a pure functor's result shows the type in the functor, along the result
pub shows-result : (ctx ks : List Kind) {s r : Sig} {u : Ty} {p : SigPath} → Shows (extend ctx ks) r (applied ks u) p → Shows ctx (Sig.Fun Pure ks s (Abs.Ex [] r)) u (Item.Res ∷ p)
shows-result ctx ks {u = u} (shows {bs = bs} {t = t} {k = k} x c) =
    shows (PartAt.result x) (subst (λ v. Conv (extend ctx (ks ++ bs)) t v k) (sym (applied-append ks bs u)) (subst (λ z. Conv z t (applied bs (applied ks u)) k) (sym (extend-append ks bs ctx)) c))

-- the parameters on a path along a result avoid a variable if the functor's own and those in the result do
pub params-result : (ctx ks : List Kind) {s r : Sig} (p : SigPath) (v : ℕ) → Avoids (extend ctx ks) s (past ks v) → ParamsAvoid (extend ctx ks) r p (past ks v) → ParamsAvoid ctx (Sig.Fun Pure ks s (Abs.Ex [] r)) (Item.Res ∷ p) v
params-result ctx ks p v a h ds js q ParamOn.here = a
params-result ctx ks p v a h ds js q (ParamOn.result {ds = es} on) =
    subst (λ z. Avoids (extend z js) q (past js (past (ks ++ es) v))) (sym (extend-append ks es ctx))
    (subst (λ z. Avoids (extend (extend (extend ctx ks) es) js) q (past js z)) (sym (past-append ks es v)) (h es js q on))

-- lifting

pub lifted_param : (ctx ks bs : List Kind) (s : Sig) → Explicit ctx (Abs.Ex ks s) → Explicit (extend ctx (lifted_kinds ks bs)) (Abs.Ex ks (rename_sig (lifts ks (past bs)) s))
lifted_param ctx ks bs s h = explicit-rename (past bs) (maps-lifted ks bs ctx) h

-- the lifted functor signature is well formed if its parameter and its result are
pub lifted_well_formed : (ctx ks bs : List Kind) (s r : Sig) → Explicit ctx (Abs.Ex ks s) → WellFormed (extend (extend ctx ks) bs) r → WellFormed (extend ctx (lifted_kinds ks bs)) (Sig.Fun Pure ks (rename_sig (lifts ks (past bs)) s) (Abs.Ex [] (substitute_sig (lifting ks bs) r)))
lifted_well_formed ctx ks bs s r h w = WellFormed.pure (lifted_param ctx ks bs s h) (well_formed-substitute (lifting ks bs) (lifting_kinds ctx ks bs) w)

-- the body of an ordered explicit signature is well formed
pub body-of : {ctx ks : List Kind} {s : Sig} → Explicit ctx (Abs.Ex ks s) → WellFormed (extend ctx ks) s
body-of (explicit w r e) = w

-- the lifted signature is ordered explicit if its parameter and its result are
pub lifted_explicit : (ctx ks bs : List Kind) (s r : Sig) → Explicit ctx (Abs.Ex ks s) → Explicit (extend ctx ks) (Abs.Ex bs r) → Explicit ctx (lifted ks s (Abs.Ex bs r))
lifted_explicit ctx ks bs s r h (explicit w q e) = explicit
    (lifted_well_formed ctx ks bs s r h w)
    (in_pure (explicit_results-substitute (lifting ks bs) (lifting_kinds ctx ks bs) q))
    each
  where
    same-own : (i : ℕ) → own (lifted_kinds ks bs) i ≡ own bs i
    same-own i = let l = length-map bs (arrow_over ks) in omega arith

    bound : (i : ℕ) → i < length (lifted_kinds ks bs) → i < length bs
    bound i lt = let l = length-map bs (arrow_over ks) in omega (arith, l, lt)

    -- no variable of the lifted kinds comes from outside them
    fresh : (v x : ℕ) → v < length bs → lifts ks (past bs) x ≡ past ks v → ⊥
    fresh v x lt f = let b = lifts-back ks (past bs) x v f in not-past bs v b.0 lt (sym b.2)

    param-avoids : (v : ℕ) → v < length bs → Avoids (extend (extend ctx (lifted_kinds ks bs)) ks) (rename_sig (lifts ks (past bs)) s) (past ks v)
    param-avoids v lt = subst (λ z. Avoids (extend (extend ctx (lifted_kinds ks bs)) ks) z (past ks v)) (substitute-vars_sig (lifts ks (past bs)) s)
        (avoids-moved s (past ks v) (λ i. Ty.Var (lifts ks (past bs) i)) (maps-substitutes (lifting_maps ctx ks bs)) (well_formed-kinds (body-of h))
        (λ x m. absurd (fresh v x lt (sym (in_var m)))))

    result-avoids : (p : SigPath) (v : ℕ) → v < length bs → ParamsAvoid (extend (extend ctx ks) bs) r p v → ParamsAvoid (extend (extend ctx (lifted_kinds ks bs)) ks) (substitute_sig (lifting ks bs) r) p (past ks v)
    result-avoids p v lt a = params-moved r p (past ks v) (lifting ks bs) (lifting_kinds ctx ks bs) (well_formed-kinds w) from
      where
        from : (x : ℕ) → Mentions (past ks v) (lifting ks bs x) → ParamsAvoid (extend (extend ctx ks) bs) r p x
        from x m = go (split_index bs x)
          where
            go : (x < length bs) ⊎ ((y : ℕ) × (x ≡ past bs y)) → ParamsAvoid (extend (extend ctx ks) bs) r p x
            go (inl g) = subst (ParamsAvoid (extend (extend ctx ks) bs) r p) (in_var (mentions-applied ks (subst (Mentions (past ks v)) (lifting-below ks bs x g) m))) a
            go (inr (y, f)) = absurd (fresh v y lt (sym (in_var (subst (Mentions (past ks v)) (ap (lifting ks bs) f ∙ lifting-past ks bs y) m))))

    root : (i : ℕ) (p : SigPath) → i < length bs → RootPath (extend ctx ks) bs r i p → RootPath ctx (lifted_kinds ks bs) (Sig.Fun Pure ks (rename_sig (lifts ks (past bs)) s) (Abs.Ex [] (substitute_sig (lifting ks bs) r))) i (Item.Res ∷ p)
    root i p lt (root_path b (root_of x y)) = by_numbers (let q = length-map bs (arrow_over ks) in omega (arith, q, lt))
        (shows-rooted (ap Ty.Var (sym (same-own i)))
        (shows-result (extend ctx (lifted_kinds ks bs)) ks
        (subst (λ u. Shows (extend (extend ctx (lifted_kinds ks bs)) ks) (substitute_sig (lifting ks bs) r) u p) (lifting-below ks bs (own bs i) (own-below bs i lt))
        (shows-substitute (lifting ks bs) (lifting_kinds ctx ks bs) (rooted-shows x)))))
        (λ j le f. subst (ParamsAvoid (extend ctx (lifted_kinds ks bs)) (Sig.Fun Pure ks (rename_sig (lifts ks (past bs)) s) (Abs.Ex [] (substitute_sig (lifting ks bs) r))) (Item.Res ∷ p)) (sym (same-own j))
        (params-result (extend ctx (lifted_kinds ks bs)) ks p (own bs j) (param-avoids (own bs j) (own-below bs j (bound j f)))
        (result-avoids p (own bs j) (own-below bs j (bound j f)) (y (own bs j) (own_falls bs i j le)))))

    each : EachRooted ctx (lifted_kinds ks bs) (Sig.Fun Pure ks (rename_sig (lifts ks (past bs)) s) (Abs.Ex [] (substitute_sig (lifting ks bs) r)))
    each i lt = let b = e i (bound i lt) in (Item.Res ∷ b.0, root i b.0 (bound i lt) b.1)
