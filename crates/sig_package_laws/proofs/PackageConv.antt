-- Signatures of any types that match each other have convertible package types, and those of the examples do not.
-- Main results: one_type.
use Rattle.std.specs.Prelude.{[], List, ◌≡◌, ◌≢◌}
use Rattle.std.proofs.Math.Path.{sym, ◌∙◌, ap, subst, subst₂}
use Rattle.omega_kinds.specs.Kind.{Kind}
use Rattle.omega_types.specs.Conversion.{Conv}
use Rattle.omega_types.specs.Conversion.Conv.{c_sym, c_trans}
use Rattle.omega_types.proofs.Inverse.{same-normal}
use Rattle.omega_types.proofs.LawProofs.{normal_of_normal}
use Rattle.omega_terms.specs.Term.{Term}
use Rattle.sig_definitions.specs.Signatures.Sig.{Abs}
use Rattle.sig_definitions.specs.Signatures.Encoding.{enc_abs}
use Rattle.sig_definitions.specs.Matching.Subtyping.{SubAbs}
use Rattle.sig_definitions.specs.QuantifierOrder.{Norm}
use Rattle.sig_definitions.specs.Explicit.WellFormed.{Explicit}
use Rattle.sig_laws.specs.Good.{OkRight}
use Rattle.sig_laws.proofs.Algebra.AlikeLaws.{form-conv_abs, conv_abs-gives}
use Rattle.sig_laws.proofs.Encoded.EncodingLaws.{enc_abs-normal, enc_abs-conv}
use Rattle.sig_laws.proofs.Formed.Conditions.{explicit-abs}
use Rattle.sig_laws.proofs.Formed.WellFormedLaws.{explicit-kinds}
use Rattle.sig_match_laws.specs.AnyTypes.{IsSubAbs}
use Rattle.sig_match_laws.proofs.AnyTypes.AnyTypes.{good-normal_abs, to-abs}
use Rattle.sig_match_laws.proofs.AnyTypes.AnyTypesConv.{any-abs}
use Rattle.sig_norm_laws.proofs.Norm.NormKeeps.{norm_abs-explicit}
use Rattle.sig_package_laws.specs.Conditions.{SameAbs}
use Rattle.sig_package_laws.specs.PackageTypes.{TypesDiffer}
use Rattle.sig_package_laws.proofs.NormConv.{norm_abs-conv, same_abs-conv}
use Rattle.sig_package_laws.proofs.SamePackage.{same_package}

-- signatures that match each other and are rooted alike have convertible package types
pub one_type : {ctx : List Kind} {x y n m : Abs} → Explicit ctx x → Explicit ctx y → IsSubAbs ctx x y → IsSubAbs ctx y x → SameAbs ctx ctx x y → Norm ctx x n → Norm ctx y m → Conv ctx (enc_abs n) (enc_abs m) Kind.Star
one_type {ctx} {m = m} v w a b same hx hy =
    let c = form-conv_abs (conv_abs-gives (explicit-kinds v)) in
    let d = form-conv_abs (conv_abs-gives (explicit-kinds w)) in
    let p = norm_abs-conv hx c in
    let q = norm_abs-conv hy d in
    let left = good-normal_abs v in
    let right = good-normal_abs w in
    let e : p.0 ≡ q.0 = same_package left.1 right.1 left.0 right.0 (to-abs a (explicit-abs v) w).1 (to-abs b (explicit-abs w) v).1 (same_abs-conv same c d) p.1 q.1 in
    c_trans (enc_abs-conv (norm_abs-explicit hx v) p.2) (subst (λ z. Conv ctx (enc_abs z) (enc_abs m) Kind.Star) (sym e) (c_sym (enc_abs-conv (norm_abs-explicit hy w) q.2)))

-- where each is its own norm, package types that are not the same are not convertible
pub types_differ : {x y : Abs} → OkRight [] x → OkRight [] y → (f : Term) × SubAbs [] x y f → (g : Term) × SubAbs [] y x g
    → ((n : Abs) → Norm [] x n → n ≡ x) → ((m : Abs) → Norm [] y m → m ≡ y) → ((n m : Abs) → Norm [] x n → Norm [] y m → enc_abs n ≢ enc_abs m) → TypesDiffer x y
types_differ {x} {y} v w a b own_x own_y other =
    (v, w, a, b, any-abs a.1 (explicit-abs v.0, v.1) w, any-abs b.1 (explicit-abs w.0, w.1) v, λ n m p q c. other n m p q (ap enc_abs (own_x n p) ∙ (same (subst₂ (λ i j. Conv [] (enc_abs i) (enc_abs j) Kind.Star) (own_x n p) (own_y m q) c) ∙ sym (ap enc_abs (own_y m q)))))
  where
    same : Conv [] (enc_abs x) (enc_abs y) Kind.Star → enc_abs x ≡ enc_abs y
    same c = sym (normal_of_normal [] (enc_abs x) Kind.Star (enc_abs-normal v.0 v.1)) ∙ (same-normal c ∙ normal_of_normal [] (enc_abs y) Kind.Star (enc_abs-normal w.0 w.1))
