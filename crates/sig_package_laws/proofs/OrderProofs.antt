-- The two functor signatures of the example match each other and have two package types.
-- Main results: a_matches, b_matches, two_orders.
use Rattle.std.specs.Prelude.{ℕ, zero, suc, ◌<◌, List, [], ◌∷◌, ◌≡◌, ◌≢◌}
use mathlib.Core.Logic.{inl, inr}
use Rattle.std.proofs.Common.{arith}
use Rattle.std.proofs.Math.Path.{refl, sym, ◌∙◌, ap, subst}
use Rattle.omega_kinds.specs.Kind.{Kind}
use Rattle.omega_kinds.specs.declared.effect.Effect.TheVariants.{Pure}
use Rattle.omega_types.specs.Ty.{Ty}
use Rattle.omega_types.specs.Kinding
use Rattle.omega_types.specs.Kinding.{HasKind}
use Rattle.omega_types.specs.Kinding.HasKind.{k_var, k_apply}
use Rattle.omega_types.specs.Conversion.Conv.{c_refl}
use Rattle.omega_types.specs.Normality.{Normal}
use Rattle.omega_types.specs.Mentions.{Mentions}
use Rattle.omega_types.specs.Binders.{extend, past, own, OfKinds, NormalForms}
use Rattle.omega_types.proofs.Hereditary.{normal-gives}
use Rattle.omega_terms.specs.Term.{Term}
use Rattle.omega_terms.specs.Coercions.{AbsPart}
use Rattle.sig_definitions.specs.Signatures.Sig.{Sig, Abs, here, there}
use Rattle.sig_definitions.specs.Signatures.SigSubst.{rename_sig, raise_abs, abs_at_under}
use Rattle.sig_definitions.specs.Signatures.Alike.{NormalAbsForm, ex}
use Rattle.sig_definitions.specs.Signatures.Encoding.{enc_abs}
use Rattle.sig_definitions.specs.Signatures.SigMentions.{MentionsSig, Avoids, by_normal_form}
use Rattle.sig_laws.specs.NormalSig.{normal_sig}
use Rattle.sig_definitions.specs.Explicit.SigPath.{SigPath, Item, PartAt, ParamOn}
use Rattle.sig_definitions.specs.Explicit.RootPath.{Rooted, ParamsAvoid}
use Rattle.sig_laws.proofs.Formed.RootNumbers.{by_numbers}
use Rattle.sig_definitions.specs.Matching.Subtyping.{Sub, SubFields, SubResult, SubAbs, Match}
use Rattle.sig_definitions.specs.QuantifierOrder.{reordered, renumber, NormSig, Norm, NormRow}
use Rattle.sig_definitions.specs.Explicit.WellFormed.{EachRooted, WellFormed, WellFormedRow, Explicit, explicit, in_typ, in_str, in_pure, in_more, in_end}
use Rattle.sig_laws.specs.Good.{OkRight}
use Rattle.sig_laws.proofs.Algebra.AlikeLaws.{conv_sig-gives}
use Rattle.sig_laws.proofs.Formed.WellFormedLaws.{well_formed-kinds, well_formed-substitute, explicit-rename}
use Rattle.omega_types.proofs.BinderLaws.{past-maps}
use Rattle.sig_laws.proofs.Algebra.Instances.{at-substitutes}
use Rattle.sig_laws.proofs.Encoded.EncodingLaws.{enc_abs-injective}
use Rattle.sig_package_laws.specs.FlipExample.{binary}
use Rattle.sig_package_laws.specs.OrderExample.{two_types, result_part, in_order, out_of_order, two_stars, functor, a_first, b_first}
use Rattle.sig_norm_laws.proofs.Orders.Orders.{nth}
use Rattle.sig_norm_laws.proofs.Norm.NormUnique.{norm_unique}
use Rattle.sig_explicit_laws.proofs.Liftings.{body-of}
use Rattle.sig_package_laws.proofs.FlipProofs.{flips, flip-form, instance-kinds, packed, one-order, one-number}

abbrev outer : List Kind
outer = binary ∷ []

abbrev inner : List Kind
inner = Kind.Star ∷ Kind.Star ∷ binary ∷ []

first : HasKind inner (Ty.Var 0) Kind.Star
first = k_var Kinding.here

second : HasKind inner (Ty.Var 1) Kind.Star
second = k_var (Kinding.there Kinding.here)

operator : HasKind inner (Ty.Var 2) binary
operator = k_var (Kinding.there (Kinding.there Kinding.here))

types-good : (t u : Ty) → HasKind inner t Kind.Star → HasKind inner u Kind.Star → WellFormed inner (two_types t u)
types-good t u h g = WellFormed.str ((refl, tt), (tt, tt)) (WellFormedRow.more (WellFormed.typ h) (WellFormedRow.more (WellFormed.typ g) WellFormedRow.end))

result-good : (t : Ty) → HasKind inner t Kind.Star → WellFormed inner (result_part t)
result-good t h = WellFormed.str (tt, tt) (WellFormedRow.more (WellFormed.typ h) WellFormedRow.end)

no-params : {t u : Ty} {p : SigPath} {ds ks : List Kind} {q : Sig} → ParamOn (two_types t u) p ds ks q → ⊥
no-params (ParamOn.field here on) = elim on [ ]
no-params (ParamOn.field (there n here) on) = elim on [ ]
no-params (ParamOn.field (there n (there m h)) on) = elim h [ ]

no-result-params : {t : Ty} {p : SigPath} {ds ks : List Kind} {q : Sig} → ParamOn (result_part t) p ds ks q → ⊥
no-result-params (ParamOn.field here on) = elim on [ ]
no-result-params (ParamOn.field (there n h) on) = elim h [ ]

each-type : (t u : Ty) (p q : SigPath) → Rooted inner (two_types t u) 1 p → Rooted inner (two_types t u) 0 q → EachRooted outer two_stars (two_types t u)
each-type t u p q x y zero lt = (p, by_numbers lt x (λ j le f ds ks z on. absurd (no-params on)))
each-type t u p q x y (suc zero) lt = (q, by_numbers lt y (λ j le f ds ks z on. absurd (no-params on)))
each-type t u p q x y (suc (suc i)) lt = absurd (omega (arith, lt))

-- the name b is not the name a
pub b-after-a : Path (List ℕ) (98 ∷ []) (97 ∷ []) → ⊥
b-after-a e = let h : nth (98 ∷ []) 0 ≡ nth (97 ∷ []) 0 = ap (λ l. nth l 0) e in omega (arith, h)

param-explicit : (t u : Ty) → HasKind inner t Kind.Star → HasKind inner u Kind.Star → EachRooted outer two_stars (two_types t u) → Explicit outer (Abs.Ex two_stars (two_types t u))
param-explicit t u h g e = explicit (types-good t u h g) (in_str (in_more in_typ (in_more in_typ in_end))) e

mentions-no : {i j : ℕ} → (i ≡ j → ⊥) → Mentions i (Ty.Var j) → ⊥
mentions-no h m = h (same m)
  where
    same : {i j : ℕ} → Mentions i (Ty.Var j) → i ≡ j
    same Mentions.m_var = refl

at-order : HasKind inner in_order Kind.Star
at-order = k_apply (k_apply operator second) first

at-other : HasKind inner out_of_order Kind.Star
at-other = k_apply (k_apply operator first) second

functor-explicit : (t u : Ty) → HasKind inner t Kind.Star → HasKind inner u Kind.Star → (MentionsSig 2 (two_types t u) → ⊥) → Path Sig (normal_sig inner (two_types t u)) (two_types t u) → Explicit outer (Abs.Ex two_stars (two_types t u)) → Explicit [] (Abs.Ex (binary ∷ []) (functor t u))
functor-explicit t u h g m n e = explicit (WellFormed.pure e (result-good in_order at-order)) (in_pure (in_str (in_more in_typ in_end))) each
  where
    avoid : (ds ks : List Kind) (q : Sig) → ParamOn (functor t u) (Item.Res ∷ (Item.Part (114 ∷ []) ∷ [])) ds ks q → Avoids (extend (extend outer ds) ks) q (past ks (past ds 0))
    avoid ds ks q ParamOn.here = by_normal_form (conv_sig-gives (well_formed-kinds (types-good t u h g))) (λ w. m (subst (MentionsSig 2) n w))
    avoid ds ks q (ParamOn.result on) = absurd (no-result-params on)

    each : EachRooted [] (binary ∷ []) (functor t u)
    each i lt = (
      Item.Res ∷ (Item.Part (114 ∷ []) ∷ []),
      by_numbers lt
          (subst (λ k. Rooted outer (functor t u) (own (binary ∷ []) k) (Item.Res ∷ (Item.Part (114 ∷ []) ∷ []))) (one-number i lt) (Rooted.at (PartAt.result (PartAt.field here PartAt.end)) (c_refl at-order)))
          (λ j le f. subst (λ k. ParamsAvoid outer (functor t u) (Item.Res ∷ (Item.Part (114 ∷ []) ∷ [])) (own (binary ∷ []) k)) (one-number j f) avoid),
    )

not-two : (i j : ℕ) → i < 2 → j < 2 → MentionsSig 2 (two_types (Ty.Var i) (Ty.Var j)) → ⊥
not-two i j h g (inl m) = mentions-no (λ e. omega (arith, e, h)) m
not-two i j h g (inr (inl m)) = mentions-no (λ e. omega (arith, e, g)) m
not-two i j h g (inr (inr m)) = m

pub a_explicit : Explicit [] a_first
a_explicit = functor-explicit (Ty.Var 1) (Ty.Var 0) second first (not-two 1 0 (omega arith) (omega arith)) refl
    (param-explicit (Ty.Var 1) (Ty.Var 0) second first (each-type (Ty.Var 1) (Ty.Var 0) (Item.Part (97 ∷ []) ∷ []) (Item.Part (98 ∷ []) ∷ [])
    (Rooted.at (PartAt.field here PartAt.end) (c_refl second)) (Rooted.at (PartAt.field (there b-after-a here) PartAt.end) (c_refl first))))

pub b_explicit : Explicit [] b_first
b_explicit = functor-explicit (Ty.Var 0) (Ty.Var 1) first second (not-two 0 1 (omega arith) (omega arith)) refl
    (param-explicit (Ty.Var 0) (Ty.Var 1) first second (each-type (Ty.Var 0) (Ty.Var 1) (Item.Part (98 ∷ []) ∷ []) (Item.Part (97 ∷ []) ∷ [])
    (Rooted.at (PartAt.field (there b-after-a here) PartAt.end) (c_refl second)) (Rooted.at (PartAt.field here PartAt.end) (c_refl first))))

-- of normal types

first-normal : Normal inner (Ty.Var 0) Kind.Star
first-normal = (normal-gives first).0

second-normal : Normal inner (Ty.Var 1) Kind.Star
second-normal = (normal-gives second).0

order-normal : Normal inner in_order Kind.Star
order-normal = (normal-gives at-order).0

-- the signature with a first may stand on the right
pub a_right : OkRight [] a_first
a_right = (a_explicit, ((second-normal, (first-normal, tt)), (order-normal, tt)))

-- the signature with b first may stand on the right
pub b_right : OkRight [] b_first
b_right = (b_explicit, ((first-normal, (second-normal, tt)), (order-normal, tt)))

-- matching

types-same : (ctx : List Kind) (t u : Ty) → (f : Term) × Sub ctx (two_types t u) (two_types t u) f
types-same ctx t u = (_, Sub.str (SubFields.more here Sub.typ (SubFields.more (there b-after-a here) Sub.typ SubFields.end)))

result-same : (ctx : List Kind) (t : Ty) → (f : Term) × Sub ctx (result_part t) (result_part t) f
result-same ctx t = (_, Sub.str (SubFields.more here Sub.typ SubFields.end))

swapped : OfKinds inner (Ty.Var 0 ∷ (Ty.Var 1 ∷ [])) two_stars
swapped = OfKinds.next first (OfKinds.next second OfKinds.none)

swapped-form : NormalForms inner (Ty.Var 0 ∷ (Ty.Var 1 ∷ [])) two_stars (Ty.Var 0 ∷ (Ty.Var 1 ∷ []))
swapped-form = NormalForms.next (normal-gives first) (NormalForms.next (normal-gives second) NormalForms.none)

param-of : {ctx ks : List Kind} {s r : Sig} → WellFormed ctx (Sig.Fun Pure ks s (Abs.Ex [] r)) → Explicit ctx (Abs.Ex ks s)
param-of (WellFormed.pure e w) = e

a-matches-param : (f : Term) × Match inner (two_types (Ty.Var 0) (Ty.Var 1)) (raise_abs two_stars (Abs.Ex two_stars (two_types (Ty.Var 1) (Ty.Var 0)))) (Ty.Var 0 ∷ (Ty.Var 1 ∷ [])) f
a-matches-param =
    let e = explicit-rename (past two_stars) (past-maps two_stars outer) (param-of (body-of a_explicit)) in
    let s = types-same inner (Ty.Var 0) (Ty.Var 1) in
    (s.0, Match.at swapped swapped-form (conv_sig-gives (well_formed-kinds (well_formed-substitute _ (at-substitutes swapped) (body-of e)))) s.1)

b-matches-param : (f : Term) × Match inner (two_types (Ty.Var 1) (Ty.Var 0)) (raise_abs two_stars (Abs.Ex two_stars (two_types (Ty.Var 0) (Ty.Var 1)))) (Ty.Var 0 ∷ (Ty.Var 1 ∷ [])) f
b-matches-param =
    let e = explicit-rename (past two_stars) (past-maps two_stars outer) (param-of (body-of b_explicit)) in
    let s = types-same inner (Ty.Var 1) (Ty.Var 0) in
    (s.0, Match.at swapped swapped-form (conv_sig-gives (well_formed-kinds (well_formed-substitute _ (at-substitutes swapped) (body-of e)))) s.1)

results : NormalAbsForm inner (abs_at_under two_stars (Ty.Var 0 ∷ (Ty.Var 1 ∷ [])) (Abs.Ex [] (result_part in_order))) (Abs.Ex [] (result_part out_of_order))
results = ex (conv_sig-gives (well_formed-kinds (result-good out_of_order at-other)))

-- the signature with a first matches the one with b first
pub a_matches : (c : Term) × SubAbs [] a_first b_first c
a_matches =
    let m = a-matches-param in
    let r = result-same inner out_of_order in
    let p = packed b_first _ _ b_explicit refl in
    (_, SubAbs.hidden (Match.at flips flip-form (conv_sig-gives (instance-kinds b_first _ b_explicit refl)) (Sub.fun m.1 results (SubResult.both_pure r.1))) (AbsPart.made p.1))

-- the signature with b first matches the one with a first
pub b_matches : (c : Term) × SubAbs [] b_first a_first c
b_matches =
    let m = b-matches-param in
    let r = result-same inner out_of_order in
    let p = packed a_first _ _ a_explicit refl in
    (_, SubAbs.hidden (Match.at flips flip-form (conv_sig-gives (instance-kinds a_first _ a_explicit refl)) (Sub.fun m.1 results (SubResult.both_pure r.1))) (AbsPart.made p.1))

-- each is its own norm

own-norm : (ctx : List Kind) (t u : Ty) → NormSig ctx (functor t u) (functor t u)
own-norm ctx t u = NormSig.pure (NormSig.str (NormRow.more NormSig.typ (NormRow.more NormSig.typ NormRow.end))) (NormSig.str (NormRow.more NormSig.typ NormRow.end))

-- the norm of the signature with a first is this signature
pub a_norm : (x : Abs) → Norm [] a_first x → x ≡ a_first
a_norm x (Norm.ex {order = o} a w) = ap (λ s. Abs.Ex (reordered (binary ∷ []) o) (rename_sig (renumber (binary ∷ []) o) s)) (norm_unique a (own-norm outer (Ty.Var 1) (Ty.Var 0))) ∙ ap (λ l. Abs.Ex (reordered (binary ∷ []) l) (rename_sig (renumber (binary ∷ []) l) (functor (Ty.Var 1) (Ty.Var 0)))) (one-order o w)

-- the norm of the signature with b first is this signature
pub b_norm : (x : Abs) → Norm [] b_first x → x ≡ b_first
b_norm x (Norm.ex {order = o} a w) = ap (λ s. Abs.Ex (reordered (binary ∷ []) o) (rename_sig (renumber (binary ∷ []) o) s)) (norm_unique a (own-norm outer (Ty.Var 0) (Ty.Var 1))) ∙ ap (λ l. Abs.Ex (reordered (binary ∷ []) l) (rename_sig (renumber (binary ∷ []) l) (functor (Ty.Var 0) (Ty.Var 1)))) (one-order o w)

-- the two functor signatures of the example have different package types
pub two_orders : (x y : Abs) → Norm [] a_first x → Norm [] b_first y → enc_abs x ≢ enc_abs y
two_orders x y a b e = let p : a_first ≡ b_first = sym (a_norm x a) ∙ (enc_abs-injective x y e ∙ b_norm y b) in absurd (cc p)
