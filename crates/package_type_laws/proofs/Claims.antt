-- Package types, as the contracts say it.
-- Main results: norm_matches, norms_exactly, convertible_norms.
use Rattle.std.specs.Prelude.{◌≡◌}
use Rattle.std.proofs.Math.Path.{subst, subst₂}
use Rattle.sig_definitions.specs.Signatures.Alike.{ConvAbs}
use Rattle.sig_definitions.specs.Matching.Subtyping.{SubAbs}
use Rattle.sig_laws.specs.NormalSig.{normal_abs}
use Rattle.sig_laws.proofs.Algebra.AlikeLaws.{normal_abs-self}
use Rattle.sig_laws.proofs.Formed.NormGood.{norm_abs-good}
use Rattle.sig_laws.proofs.Formed.WellFormedShape.{well_formed_abs-shape}
use Rattle.sig_laws.proofs.Encoded.EncodingLaws.{enc_abs-injective}
use Rattle.sig_laws.proofs.LawTheorems.{conv_abs_exactly}
use Rattle.sig_laws.proofs.Formed.Conditions.{explicit-abs}
use Rattle.sig_match_laws.proofs.AnyTypes.AnyTypes.{to-abs}
use Rattle.sig_norm_laws.proofs.Norm.NormKeeps.{norm_abs-explicit}
use Rattle.sig_norm_laws.proofs.NormClaims.{norm_one}
use Rattle.sig_package_laws.proofs.NormConv.{norm_abs-conv}
use Rattle.package_type_laws.specs.PackageTypes.{NormMatches, NormalNormMatches, OneEncoding, NormsExactly, ConvertibleNorms}
use Rattle.package_type_laws.proofs.Matching.{norm_abs-both}

-- a signature and its norm match each other
pub norm_matches : NormMatches
norm_matches ctx x n e h = norm_abs-both h (explicit-abs e)

-- signatures that hide types are the same if their encodings are
pub one_encoding : OneEncoding
one_encoding x y e = enc_abs-injective x y e

-- package types are convertible exactly where the norms are
pub norms_exactly : NormsExactly
norms_exactly ctx x y n m ex ey hx hy = conv_abs_exactly ctx n m (explicit-abs (norm_abs-explicit hx ex)) (explicit-abs (norm_abs-explicit hy ey))

-- the norms of convertible signatures are convertible
pub convertible_norms : ConvertibleNorms
convertible_norms ctx x y n m c hx hy =
    let w = norm_abs-conv hx c in
    subst (ConvAbs ctx n) (norm_one ctx y w.0 m w.1 hy) w.2

-- a signature of normal types and its norm match each other by coercions
pub normal_norm_matches : NormalNormMatches
normal_norm_matches ctx x n ok h =
    let left = explicit-abs ok.0 in
    let right = norm_abs-explicit h ok.0 in
    let both = norm_abs-both h left in
    let here : normal_abs ctx x ≡ x = normal_abs-self ctx x ok.1 in
    let there : normal_abs ctx n ≡ n = normal_abs-self ctx n (norm_abs-good h ok.1 (well_formed_abs-shape left)).0 in
    let a = to-abs both.0 left right in
    let b = to-abs both.1 (explicit-abs right) ok.0 in
    ((a.0, subst₂ (λ y z. SubAbs ctx y z a.0) here there a.1), (b.0, subst₂ (λ y z. SubAbs ctx y z b.0) there here b.1))
