-- Transitivity, and signatures of one norm, of normal types.
-- Main results: sub_transitive, sub_abs_transitive, norm_below, one_norm_below, part_of_one_norm.
use Rattle.std.specs.Prelude.{List}
use Rattle.std.proofs.Math.Path.{sym, subst₂}
use Rattle.omega_kinds.specs.Kind.{Kind}
use Rattle.omega_terms.specs.Term.{Term}
use Rattle.sig_definitions.specs.Signatures.Sig.{Abs}
use Rattle.sig_definitions.specs.Matching.Subtyping.{Sub, SubAbs}
use Rattle.sig_definitions.specs.QuantifierOrder.{Norm}
use Rattle.sig_laws.specs.Good.{OkAbs, OkRight}
use Rattle.sig_laws.proofs.Algebra.AlikeLaws.{normal_sig-form, form_sig-same, normal_abs-self}
use Rattle.sig_laws.proofs.Formed.Conditions.{explicit-abs}
use Rattle.sig_laws.proofs.Formed.NormGood.{norm_abs-good}
use Rattle.sig_laws.proofs.Formed.WellFormedShape.{explicit-shape}
use Rattle.sig_match_laws.specs.AnyTypes.{IsSubAbs}
use Rattle.sig_match_laws.proofs.AnyTypes.AnyTypes.{to-sub, to-abs}
use Rattle.sig_match_laws.proofs.AnyTypes.AnyTypesConv.{any-sub, any-abs}
use Rattle.sig_match_laws.proofs.LookUp.Good.{explicit-left}
use Rattle.sig_norm_laws.proofs.Norm.NormKeeps.{norm_abs-explicit}
use Rattle.sig_transitive_laws.specs.Transitive.{SubTransitive, SubAbsTransitive}
use Rattle.sig_transitive_laws.specs.OneNorm.{NormBelow, OneNormBelow, PartOfOneNorm}
use Rattle.sig_transitive_laws.proofs.Below.{sub-transitive, abs-transitive}
use Rattle.sig_transitive_laws.proofs.Normed.{norm_abs-below}

-- subtyping of any types, of signatures of normal types
carried : (ctx : List Kind) (x y : Abs) → OkAbs ctx x → OkRight ctx y → IsSubAbs ctx x y → (f : Term) × SubAbs ctx x y f
carried ctx x y w v a = let p = to-abs a w.0 v.0 in (p.0, subst₂ (λ i j. SubAbs ctx i j p.0) (normal_abs-self ctx x w.1) (normal_abs-self ctx y v.1) p.1)

-- subtyping of signatures is transitive
pub sub_transitive : SubTransitive
sub_transitive ctx s t r f g w v u a b =
    let p = to-sub (sub-transitive (any-sub a w v) (any-sub b (v.0.0, v.1) u)) w.0 u.0 in
    (p.0, subst₂ (λ i j. Sub ctx i j p.0) (sym (form_sig-same (normal_sig-form ctx s w.1))) (sym (form_sig-same (normal_sig-form ctx r u.1))) p.1)

-- so is subtyping of signatures that hide types
pub sub_abs_transitive : SubAbsTransitive
sub_abs_transitive ctx x y z f g w v u a b = carried ctx x z w u (abs-transitive (any-abs a w v) (any-abs b (explicit-left v) u))

norm-right : {ctx : List Kind} {x n : Abs} → OkRight ctx x → Norm ctx x n → OkRight ctx n
norm-right w h = (norm_abs-explicit h w.0, (norm_abs-good h w.1 (explicit-shape w.0)).0)

-- a signature and its norm are below each other
pub norm_below : NormBelow
norm_below ctx x n w h =
    let a = norm_abs-below h (explicit-abs w.0) in
    let v = norm-right w h in
    (carried ctx x n (explicit-left w) v a.0, carried ctx n x (explicit-left v) w a.1)

-- so are two signatures that have one norm
pub one_norm_below : OneNormBelow
one_norm_below ctx x y n w v h k =
    let a = norm_abs-below h (explicit-abs w.0) in
    let b = norm_abs-below k (explicit-abs v.0) in
    (carried ctx x y (explicit-left w) v (abs-transitive a.0 b.1), carried ctx y x (explicit-left v) w (abs-transitive b.0 a.1))

-- and signature parts of them, by the coercion that the encodings give
pub part_of_one_norm : PartOfOneNorm
part_of_one_norm ctx x y n w v h k = let p = one_norm_below ctx x y n w v h k in Sub.meta p.0.1 p.1.1
