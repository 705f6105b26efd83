-- The two signatures of the example match each other and have two package types.
-- Main results: f_matches, g_matches, two_packages.
use Rattle.std.specs.Prelude.{ℕ, zero, ◌<◌, List, [], ◌∷◌, ◌≡◌, ◌≢◌}
use Rattle.std.proofs.Common.{arith}
use Rattle.std.proofs.Math.Path.{refl, sym, ◌∙◌, ap, subst}
use Rattle.omega_kinds.specs.Kind.{Kind}
use Rattle.omega_types.specs.Ty.{Ty}
use Rattle.omega_types.specs.Kinding.{HasKind}
use Rattle.omega_types.specs.Kinding
use Rattle.omega_types.specs.Kinding.HasKind.{k_var, k_lam, k_apply}
use Rattle.omega_types.specs.Conversion.Conv.{c_sym}
use Rattle.omega_types.specs.Normality.{Normal}
use Rattle.omega_types.specs.Normality.Neutral.{n_var}
use Rattle.omega_types.specs.Binders.{past, own, raise, OfKinds, NormalForms}
use Rattle.omega_types.proofs.Preservation.{kind-rename, kind-substitute, single-substitutes, conv-kinds}
use Rattle.omega_types.proofs.Hereditary.{eta-normal, normal-gives}
use Rattle.omega_terms.specs.Term.{Term}
use Rattle.omega_terms.specs.Coercions.{AbsPart}
use Rattle.omega_terms.specs.Shorthands.{Packs}
use Rattle.sig_definitions.specs.Signatures.Sig.{Sig, Abs, here, there}
use Rattle.sig_definitions.specs.Signatures.SigSubst.{rename_sig, raise_abs, sig_at}
use Rattle.sig_definitions.specs.Signatures.Alike.{ConvSig}
use Rattle.sig_definitions.specs.Signatures.Encoding.{enc_abs}
use Rattle.sig_definitions.specs.Explicit.SigPath.{SigPath, Item, PartAt, ParamOn}
use Rattle.sig_definitions.specs.Explicit.RootPath.{Rooted}
use Rattle.sig_laws.proofs.Formed.RootNumbers.{by_numbers}
use Rattle.sig_definitions.specs.Matching.Subtyping.{Sub, SubFields, SubAbs, Match}
use Rattle.sig_definitions.specs.QuantifierOrder.{NewOrder, reordered, renumber, NormSig, Norm, NormRow}
use Rattle.sig_definitions.specs.Explicit.WellFormed.{EachRooted, WellFormed, WellFormedRow, ExplicitResults, Explicit, explicit, in_typ, in_str, in_more, in_end}
use Rattle.sig_laws.specs.Good.{OkRight}
use Rattle.sig_laws.proofs.Algebra.AlikeLaws.{conv_sig-gives}
use Rattle.sig_laws.proofs.Algebra.Instances.{at-substitutes}
use Rattle.sig_laws.proofs.Formed.WellFormedLaws.{well_formed-kinds, explicit-kinds, explicit-rename, well_formed-substitute}
use Rattle.sig_laws.proofs.Encoded.EncodingLaws.{enc_abs-conv, enc_abs-injective}
use Rattle.sig_package_laws.specs.FlipExample.{binary, direct, flipped, named_f, named_g, two_parts, f_first, g_first}
use Rattle.sig_norm_laws.proofs.Orders.Orders.{nth, nth-untaken}
use Rattle.sig_norm_laws.proofs.Norm.NormUnique.{norm_unique}
use Rattle.sig_explicit_laws.proofs.Liftings.{body-of}
use Rattle.sig_laws.proofs.Formed.NormGood.{order-length}
use Rattle.omega_types.proofs.BinderLaws.{past-maps}
use Rattle.omega_types.proofs.Inverse.{ex-kinds}

direct-kind : (ctx : List Kind) → HasKind (binary ∷ ctx) direct binary
direct-kind ctx = k_lam (k_lam (k_apply (k_apply (k_var (Kinding.there (Kinding.there Kinding.here))) (k_var (Kinding.there Kinding.here))) (k_var Kinding.here)))

flipped-kind : (ctx : List Kind) → HasKind (binary ∷ ctx) flipped binary
flipped-kind ctx = k_lam (k_lam (k_apply (k_apply (k_var (Kinding.there (Kinding.there Kinding.here))) (k_var Kinding.here)) (k_var (Kinding.there Kinding.here))))

parts-good : (t u : Ty) → HasKind (binary ∷ []) t binary → HasKind (binary ∷ []) u binary → WellFormed (binary ∷ []) (two_parts t u)
parts-good t u h g = WellFormed.str ((refl, tt), (tt, tt)) (WellFormedRow.more (WellFormed.typ h) (WellFormedRow.more (WellFormed.typ g) WellFormedRow.end))

parts-results : (t u : Ty) → ExplicitResults (binary ∷ []) (two_parts t u)
parts-results t u = in_str (in_more in_typ (in_more in_typ in_end))

no-params : {t u : Ty} {p : SigPath} {ds ks : List Kind} {q : Sig} → ParamOn (two_parts t u) p ds ks q → ⊥
no-params (ParamOn.field here on) = elim on [ ]
no-params (ParamOn.field (there n here) on) = elim on [ ]
no-params (ParamOn.field (there n (there m h)) on) = elim h [ ]

-- the only number below 1 is 0
pub one-number : (i : ℕ) → i < 1 → zero ≡ i
one-number i lt = omega (arith, lt)

at-part : (t u : Ty) (p : SigPath) → PartAt (two_parts t u) p [] (Sig.Typ direct binary) → EachRooted [] (binary ∷ []) (two_parts t u)
at-part t u p x i lt = (
  p,
  by_numbers lt (subst (λ n. Rooted (binary ∷ []) (two_parts t u) (own (binary ∷ []) n) p) (one-number i lt) (Rooted.at x (c_sym (eta-normal binary (n_var {ctx = binary ∷ []} Kinding.here)).1)))
      (λ j le f ds ks q on. absurd (no-params on)),
)

pub f_explicit : Explicit [] f_first
f_explicit = explicit (parts-good direct flipped (direct-kind []) (flipped-kind [])) (parts-results direct flipped) (at-part direct flipped (Item.Part named_f ∷ []) (PartAt.field here PartAt.end))

g-after-f : named_g ≢ named_f
g-after-f e = let h : nth named_g 0 ≡ nth named_f 0 = ap (λ l. nth l 0) e in omega (arith, h)

pub g_explicit : Explicit [] g_first
g_explicit = explicit (parts-good flipped direct (flipped-kind []) (direct-kind [])) (parts-results flipped direct) (at-part flipped direct (Item.Part named_g ∷ []) (PartAt.field (there g-after-f here) PartAt.end))

direct-normal : Normal (binary ∷ []) direct binary
direct-normal = (eta-normal binary (n_var {ctx = binary ∷ []} Kinding.here)).0

flipped-normal : Normal (binary ∷ []) flipped binary
flipped-normal = (normal-gives (flipped-kind [])).0

-- the signature with f first may stand on the right
pub f_right : OkRight [] f_first
f_right = (f_explicit, (direct-normal, (flipped-normal, tt)))

-- the signature with g first may stand on the right
pub g_right : OkRight [] g_first
g_right = (g_explicit, (flipped-normal, (direct-normal, tt)))

-- matching, by the flip of the variable

-- the operator with its arguments exchanged is of the kind of the hidden type
pub flips : OfKinds (binary ∷ []) (flipped ∷ []) (binary ∷ [])
flips = OfKinds.next (flipped-kind []) OfKinds.none

-- the operator with its arguments exchanged is its own normal form
pub flip-form : NormalForms (binary ∷ []) (flipped ∷ []) (binary ∷ []) (flipped ∷ [])
flip-form = NormalForms.next (normal-gives (flipped-kind [])) NormalForms.none

-- the body of such a signature, at the exchanged operator, is well kinded
pub instance-kinds : (x : Abs) (s : Sig) → Explicit [] x → raise_abs (binary ∷ []) x ≡ Abs.Ex (binary ∷ []) s → ConvSig (binary ∷ []) (sig_at (flipped ∷ []) s) (sig_at (flipped ∷ []) s)
instance-kinds x s h e = well_formed-kinds (well_formed-substitute _ (at-substitutes flips) (body-of (subst (Explicit (binary ∷ [])) e (explicit-rename (past (binary ∷ [])) (past-maps (binary ∷ []) []) h))))

same-parts : (ctx : List Kind) (t u : Ty) → (f : Term) × Sub ctx (two_parts t u) (two_parts t u) f
same-parts ctx t u = (_, Sub.str (SubFields.more here Sub.typ (SubFields.more (there g-after-f here) Sub.typ SubFields.end)))

-- the exchanged operator can be packed into a term for the encoding of such a signature
pub packed : (x : Abs) (b : Ty) (e : Term) → Explicit [] x → raise (binary ∷ []) (enc_abs x) ≡ Ty.Ex binary b → (d : Term) × Packs (binary ∷ []) (flipped ∷ []) e (Ty.Ex binary b) d
packed x b e h q = (_, Packs.next (normal-gives (kind-substitute _ (single-substitutes (flipped-kind [])) (ex-kinds (subst (λ t. HasKind (binary ∷ []) t Kind.Star) q (kind-rename (past (binary ∷ [])) (past-maps (binary ∷ []) []) (conv-kinds (enc_abs-conv h (explicit-kinds h))).0))))) Packs.none)

-- the signature with f first matches the one with g first
pub f_matches : (c : Term) × SubAbs [] f_first g_first c
f_matches =
    let s = same-parts (binary ∷ []) direct flipped in
    let p = packed g_first _ _ g_explicit refl in
    (_, SubAbs.hidden (Match.at flips flip-form (conv_sig-gives (instance-kinds g_first _ g_explicit refl)) s.1) (AbsPart.made p.1))

-- the signature with g first matches the one with f first
pub g_matches : (c : Term) × SubAbs [] g_first f_first c
g_matches =
    let s = same-parts (binary ∷ []) flipped direct in
    let p = packed f_first _ _ f_explicit refl in
    (_, SubAbs.hidden (Match.at flips flip-form (conv_sig-gives (instance-kinds f_first _ f_explicit refl)) s.1) (AbsPart.made p.1))

-- each is its own norm

-- the only order of one hidden type is that of this one
pub one-order : {s : Sig} (o : List ℕ) → NewOrder [] (binary ∷ []) s o → o ≡ zero ∷ []
one-order [] n = let e = order-length n in absurd (omega (arith, e))
one-order (i ∷ []) n = let u = nth-untaken zero n (omega arith) in ap (λ j. j ∷ []) (sym (one-number i u.0))
one-order (i ∷ (j ∷ o)) n = let e = order-length n in absurd (omega (arith, e))

own-parts : (ctx : List Kind) (t u : Ty) → NormSig ctx (two_parts t u) (two_parts t u)
own-parts ctx t u = NormSig.str (NormRow.more NormSig.typ (NormRow.more NormSig.typ NormRow.end))

-- the norm of the signature with f first is this signature
pub f_norm : (x : Abs) → Norm [] f_first x → x ≡ f_first
f_norm x (Norm.ex {t = t} {order = o} a w) = ap (λ s. Abs.Ex (reordered (binary ∷ []) o) (rename_sig (renumber (binary ∷ []) o) s)) (norm_unique a (own-parts (binary ∷ []) direct flipped)) ∙ ap (λ l. Abs.Ex (reordered (binary ∷ []) l) (rename_sig (renumber (binary ∷ []) l) (two_parts direct flipped))) (one-order o w)

-- the norm of the signature with g first is this signature
pub g_norm : (x : Abs) → Norm [] g_first x → x ≡ g_first
g_norm x (Norm.ex {t = t} {order = o} a w) = ap (λ s. Abs.Ex (reordered (binary ∷ []) o) (rename_sig (renumber (binary ∷ []) o) s)) (norm_unique a (own-parts (binary ∷ []) flipped direct)) ∙ ap (λ l. Abs.Ex (reordered (binary ∷ []) l) (rename_sig (renumber (binary ∷ []) l) (two_parts flipped direct))) (one-order o w)

-- the two signatures of the example have different package types
pub two_packages : (x y : Abs) → Norm [] f_first x → Norm [] g_first y → enc_abs x ≢ enc_abs y
two_packages x y a b e = let p : f_first ≡ g_first = sym (f_norm x a) ∙ (enc_abs-injective x y e ∙ g_norm y b) in absurd (cc p)
