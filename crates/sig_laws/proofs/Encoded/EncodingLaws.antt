-- The encoding of signatures: it commutes with substitution and with normal forms, and shows the signature.
-- Main results: enc-substitute, enc-normal, enc-injective, enc-conv, conv-enc.
use Rattle.std.specs.Prelude.{ℕ, zero, suc, List, [], ◌∷◌, ◌≡◌}
use Rattle.std.proofs.Common.{arith}
use Rattle.std.proofs.Math.Path.{refl, sym, ◌∙◌, ap, ap₂}
use Rattle.omega_kinds.specs.Kind.{Kind}
use Rattle.omega_kinds.specs.declared.label.Label.{Label}
use Rattle.omega_kinds.specs.declared.effect.Effect.{Effect}
use Rattle.omega_kinds.specs.declared.effect.Effect.TheVariants.{Pure, Impure}
use Rattle.omega_types.specs.Ty.{Ty, Row}
use Rattle.omega_types.specs.Substitution.{rename, substitute, substitute_row, single}
use Rattle.omega_types.specs.Conversion.{Conv}
use Rattle.omega_types.specs.Normality.{Normal}
use Rattle.omega_types.specs.Normaliser.{normal}
use Rattle.omega_types.specs.Binders.{unders, all_over, ex_over}
use Rattle.omega_types.proofs.Algebra.{substitute-weaken, substitute-vars, single-rename}
use Rattle.omega_types.proofs.Inverse.{same-normal}
use Rattle.omega_types.proofs.LawProofs.{normal_of_normal}
use Rattle.omega_terms.specs.Coercions.{result_label}
use Rattle.sig_definitions.specs.Signatures.Sig.{Sig, Abs, SigRow}
use Rattle.sig_definitions.specs.Signatures.SigSubst.{rename_sig, rename_abs, substitute_sig, substitute_abs, substitute_sig_row}
use Rattle.sig_definitions.specs.Signatures.Encoding.{one_part, shown_type, enc, enc_abs, enc_row}
use Rattle.sig_laws.specs.NormalSig.{normal_sig, normal_abs}
use Rattle.sig_definitions.specs.Signatures.Alike.{ConvSig, ConvAbs, NormalSig, NormalAbs}
use Rattle.sig_definitions.specs.Explicit.WellFormed.{WellFormed, WellFormedAbs, Explicit}
use Rattle.sig_laws.proofs.Algebra.SigAlgebra.{substitute-vars_sig, substitute-vars_abs}
use Rattle.sig_laws.proofs.Algebra.AlikeLaws.{form-conv_sig, form-conv_abs, form_sig-normal, form_abs-normal, conv_sig-gives, conv_abs-gives, same-conv_sig, same-conv_abs}
use Rattle.sig_laws.proofs.Formed.WellFormedLaws.{well_formed-kinds, well_formed_abs-kinds, well_formed-conv, well_formed_abs-conv}
use Rattle.omega_types.proofs.BinderLaws.{all_over-substitute, ex_over-substitute}
use Rattle.sig_laws.proofs.Formed.WellFormedShape.{well_formed-shape, well_formed_abs-shape, explicit-shape}
use Rattle.sig_laws.proofs.Encoded.EncodingTyping.{enc-normal as shape_enc-normal, enc_abs-normal as shape_enc_abs-normal, enc-conv as shape_enc-conv, enc_abs-conv as shape_enc_abs-conv}

-- with substitution

shown_type-substitute : (f : ℕ → Ty) (t : Ty) (k : Kind) → substitute f (shown_type t k) ≡ shown_type (substitute f t) k
shown_type-substitute f t k = ap (λ v. Ty.All (Kind.Arrow k Kind.Star) (Ty.Arrow (Ty.Apply (Ty.Var zero) v) (Ty.Apply (Ty.Var zero) v))) (substitute-weaken f t)

mutual
  -- the encoding commutes with substitution
  pub enc-substitute : (f : ℕ → Ty) (s : Sig) → enc (substitute_sig f s) ≡ substitute f (enc s)
  enc-substitute f (Sig.Val t) = refl
  enc-substitute f (Sig.Typ t k) = ap (one_part Label.Typ) (sym (shown_type-substitute f t k))
  enc-substitute f (Sig.Meta x) = ap (λ t. one_part Label.Sig (Ty.Arrow t t)) (enc_abs-substitute f x)
  enc-substitute f (Sig.Str fs) = ap Ty.Fields (enc_row-substitute f fs)
  enc-substitute f (Sig.Fun e ks s x) =
      ap₂ (λ a b. all_over ks (Ty.Arrow a (one_part (result_label e) b))) (enc-substitute (unders ks f) s) (enc_abs-substitute (unders ks f) x) ∙
      sym (all_over-substitute ks f (Ty.Arrow (enc s) (one_part (result_label e) (enc_abs x))))

  -- the encoding of signatures that hide types commutes with substitution
  pub enc_abs-substitute : (f : ℕ → Ty) (x : Abs) → enc_abs (substitute_abs f x) ≡ substitute f (enc_abs x)
  enc_abs-substitute f (Abs.Ex ks s) = ap (ex_over ks) (enc-substitute (unders ks f) s) ∙ sym (ex_over-substitute ks f (enc s))

  pub enc_row-substitute : (f : ℕ → Ty) (fs : SigRow) → enc_row (substitute_sig_row f fs) ≡ substitute_row f (enc_row fs)
  enc_row-substitute f SigRow.End = refl
  enc_row-substitute f (SigRow.More l s rest) = ap₂ (Row.More (Label.Name l)) (enc-substitute f s) (enc_row-substitute f rest)

-- the encoding commutes with renaming
pub enc-rename : (r : ℕ → ℕ) (s : Sig) → enc (rename_sig r s) ≡ rename r (enc s)
enc-rename r s = sym (ap enc (substitute-vars_sig r s)) ∙ (enc-substitute (λ i. Ty.Var (r i)) s ∙ substitute-vars r (enc s))

-- the encoding of signatures that hide types commutes with renaming
pub enc_abs-rename : (r : ℕ → ℕ) (x : Abs) → enc_abs (rename_abs r x) ≡ rename r (enc_abs x)
enc_abs-rename r x = sym (ap enc_abs (substitute-vars_abs r x)) ∙ (enc_abs-substitute (λ i. Ty.Var (r i)) x ∙ substitute-vars r (enc_abs x))

-- the encoding of a normal signature is normal

-- the encoding of a normal and well formed signature is normal
pub enc-normal : {ctx : List Kind} {s : Sig} → WellFormed ctx s → NormalSig ctx s → Normal ctx (enc s) Kind.Star
enc-normal {s = s} w n = shape_enc-normal s n (well_formed-shape w)

-- the encoding of a normal and well formed signature that hides types is normal
pub enc_well_formed-normal : {ctx : List Kind} {x : Abs} → WellFormedAbs ctx x → NormalAbs ctx x → Normal ctx (enc_abs x) Kind.Star
enc_well_formed-normal {x = x} w n = shape_enc_abs-normal x n (well_formed_abs-shape w)

-- the encoding of a normal and ordered explicit signature is normal
pub enc_abs-normal : {ctx : List Kind} {x : Abs} → Explicit ctx x → NormalAbs ctx x → Normal ctx (enc_abs x) Kind.Star
enc_abs-normal {x = x} w n = shape_enc_abs-normal x n (explicit-shape w)

-- encodings of convertible signatures are convertible

-- convertible signatures have convertible encodings
pub enc-conv : {ctx : List Kind} {s t : Sig} → WellFormed ctx s → ConvSig ctx s t → Conv ctx (enc s) (enc t) Kind.Star
enc-conv w c = shape_enc-conv (λ ctx t k u r. r) c (well_formed-shape w)

-- convertible signatures that hide types have convertible encodings
pub enc_well_formed-conv : {ctx : List Kind} {x y : Abs} → WellFormedAbs ctx x → ConvAbs ctx x y → Conv ctx (enc_abs x) (enc_abs y) Kind.Star
enc_well_formed-conv w c = shape_enc_abs-conv (λ ctx t k u r. r) c (well_formed_abs-shape w)

-- convertible ordered explicit signatures have convertible encodings
pub enc_abs-conv : {ctx : List Kind} {x y : Abs} → Explicit ctx x → ConvAbs ctx x y → Conv ctx (enc_abs x) (enc_abs y) Kind.Star
enc_abs-conv w c = shape_enc_abs-conv (λ ctx t k u r. r) c (explicit-shape w)

-- the encoding of the normal form is the normal form of the encoding

pub enc-normal_sig : {ctx : List Kind} {s : Sig} → WellFormed ctx s → normal ctx (enc s) ≡ enc (normal_sig ctx s)
enc-normal_sig {ctx} {s} w =
    let f = conv_sig-gives (well_formed-kinds w) in
    let c = form-conv_sig f in
    same-normal (enc-conv w c) ∙ normal_of_normal ctx (enc (normal_sig ctx s)) Kind.Star (enc-normal (well_formed-conv w c) (form_sig-normal f))

pub enc-normal_abs : {ctx : List Kind} {x : Abs} → WellFormedAbs ctx x → normal ctx (enc_abs x) ≡ enc_abs (normal_abs ctx x)
enc-normal_abs {ctx} {x} w =
    let f = conv_abs-gives (well_formed_abs-kinds w) in
    let c = form-conv_abs f in
    same-normal (enc_well_formed-conv w c) ∙ normal_of_normal ctx (enc_abs (normal_abs ctx x)) Kind.Star (enc_well_formed-normal (well_formed_abs-conv w c) (form_abs-normal f))

-- the encoding shows the signature

-- the form of a signature that a type encodes
abbrev label_sort : Label → ℕ
label_sort Label.Val = 0
label_sort Label.Typ = 1
label_sort Label.Sig = 2
label_sort _ = 3

abbrev sort_in : Ty → ℕ
sort_in (Ty.Fields (Row.More l t rest)) = label_sort l
sort_in (Ty.Fields Row.End) = 3
sort_in (Ty.Ex k t) = 5
sort_in _ = 4

abbrev sort_of : Sig → ℕ
sort_of (Sig.Val t) = 0
sort_of (Sig.Typ t k) = 1
sort_of (Sig.Meta x) = 2
sort_of (Sig.Str fs) = 3
sort_of (Sig.Fun e ks s x) = 4

sort-enc : (s : Sig) → sort_in (enc s) ≡ sort_of s
sort-enc (Sig.Val t) = refl
sort-enc (Sig.Typ t k) = refl
sort-enc (Sig.Meta x) = refl
sort-enc (Sig.Str SigRow.End) = refl
sort-enc (Sig.Str (SigRow.More l s rest)) = refl
sort-enc (Sig.Fun e [] s x) = refl
sort-enc (Sig.Fun e (k ∷ ks) s x) = refl

other_sort : (s t : Sig) → enc s ≡ enc t → sort_of s ≡ sort_of t
other_sort s t e = sym (sort-enc s) ∙ (ap sort_in e ∙ sort-enc t)

all_over-shows : (ks js : List Kind) (a b c d : Ty) → all_over ks (Ty.Arrow a b) ≡ all_over js (Ty.Arrow c d) → (ks ≡ js) × (a ≡ c) × (b ≡ d)
all_over-shows [] [] a b c d e = (refl, cc, cc)
all_over-shows [] (j ∷ js) a b c d e = absurd (cc (e))
all_over-shows (k ∷ ks) [] a b c d e = absurd (cc (e))
all_over-shows (k ∷ ks) (j ∷ js) a b c d e = let g = all_over-shows ks js a b c d (cc) in let h : k ≡ j = cc in (ap₂ ◌∷◌ h g.0, g.1, g.2)

ex_over-shows : (ks js : List Kind) (s t : Sig) → ex_over ks (enc s) ≡ ex_over js (enc t) → (ks ≡ js) × (enc s ≡ enc t)
ex_over-shows [] [] s t e = (refl, e)
ex_over-shows [] (j ∷ js) s t e = let g = sym (sort-enc s) ∙ ap sort_in e in absurd (no s g)
  where
    no : (s : Sig) → sort_of s ≡ 5 → ⊥
    no (Sig.Val t) g = omega (arith, g)
    no _ g = omega (arith, g)
ex_over-shows (k ∷ ks) [] s t e = let g = sym (sort-enc t) ∙ ap sort_in (sym e) in absurd (no t g)
  where
    no : (s : Sig) → sort_of s ≡ 5 → ⊥
    no (Sig.Val t) g = omega (arith, g)
    no _ g = omega (arith, g)
ex_over-shows (k ∷ ks) (j ∷ js) s t e = let g = ex_over-shows ks js s t (cc) in let h : k ≡ j = cc in (ap₂ ◌∷◌ h g.0, g.1)

effect_of : Label → Effect
effect_of Label.App = Pure
effect_of _ = Impure

effect-label : (e : Effect) → effect_of (result_label e) ≡ e
unfolding effect_of
effect-label Pure = refl
effect-label Impure = refl

raised_same : (t u : Ty) → rename suc t ≡ rename suc u → t ≡ u
raised_same t u e = sym (single-rename t Ty.Int) ∙ (ap (substitute (single Ty.Int)) e ∙ single-rename u Ty.Int)

mutual
  -- signatures of one encoding are the same
  pub enc-injective : (s t : Sig) → enc s ≡ enc t → s ≡ t
  enc-injective (Sig.Val t) (Sig.Val u) e = let g : t ≡ u = cc in ap Sig.Val g
  enc-injective (Sig.Typ t k) (Sig.Typ u j) e =
      let g : k ≡ j = cc in
      ap₂ Sig.Typ (raised_same t u (cc)) g
  enc-injective (Sig.Meta x) (Sig.Meta y) e = ap Sig.Meta (enc_abs-injective x y (cc))
  enc-injective (Sig.Str fs) (Sig.Str gs) e = ap Sig.Str (enc_row-injective fs gs (cc))
  enc-injective (Sig.Fun e ks s x) (Sig.Fun d js t y) h =
      let g = all_over-shows ks js (enc s) (one_part (result_label e) (enc_abs x)) (enc t) (one_part (result_label d) (enc_abs y)) h in
      let b = g.2 in
      let l : result_label e ≡ result_label d = cc in
      let pe = sym (effect-label e) ∙ (ap effect_of l ∙ effect-label d) in
      let ps = enc-injective s t g.1 in
      let px = enc_abs-injective x y (cc) in
      λ i. Sig.Fun (pe i) (g.0 i) (ps i) (px i)
  enc-injective s t e = let g = other_sort s t e in absurd (omega (arith, g))

  -- signatures that hide types of one encoding are the same
  pub enc_abs-injective : (x y : Abs) → enc_abs x ≡ enc_abs y → x ≡ y
  enc_abs-injective (Abs.Ex ks s) (Abs.Ex js t) e = let g = ex_over-shows ks js s t e in ap₂ Abs.Ex g.0 (enc-injective s t g.1)

  pub enc_row-injective : (fs gs : SigRow) → enc_row fs ≡ enc_row gs → fs ≡ gs
  enc_row-injective SigRow.End SigRow.End e = refl
  enc_row-injective SigRow.End (SigRow.More l s rest) e = absurd (cc (e))
  enc_row-injective (SigRow.More l s rest) SigRow.End e = absurd (cc (e))
  enc_row-injective (SigRow.More l s rest) (SigRow.More m t others) e =
      let pl : l ≡ m = cc in
      let ps = enc-injective s t (cc) in
      let pr = enc_row-injective rest others (cc) in
      λ i. SigRow.More (pl i) (ps i) (pr i)

-- signatures are convertible exactly where their encodings are
pub conv-enc : {ctx : List Kind} {s t : Sig} → WellFormed ctx s → WellFormed ctx t → Conv ctx (enc s) (enc t) Kind.Star → ConvSig ctx s t
conv-enc {ctx} {s} {t} w v c = same-conv_sig (well_formed-kinds w) (well_formed-kinds v)
    (enc-injective (normal_sig ctx s) (normal_sig ctx t) (sym (enc-normal_sig w) ∙ (same-normal c ∙ enc-normal_sig v)))

-- well formed signatures that hide types are convertible if their encodings are
pub conv-enc_abs : {ctx : List Kind} {x y : Abs} → WellFormedAbs ctx x → WellFormedAbs ctx y → Conv ctx (enc_abs x) (enc_abs y) Kind.Star → ConvAbs ctx x y
conv-enc_abs {ctx} {x} {y} w v c = same-conv_abs (well_formed_abs-kinds w) (well_formed_abs-kinds v)
    (enc_abs-injective (normal_abs ctx x) (normal_abs ctx y) (sym (enc-normal_abs w) ∙ (same-normal c ∙ enc-normal_abs v)))
