-- Signature parts of one encoding.
-- Main results: below_each_other, part_gives, one_part, part_not_refused, function_skips.
use Rattle.std.specs.Prelude.{List, ◌≡◌}
use Rattle.std.proofs.Math.Path.{subst}
use Rattle.omega_kinds.specs.Kind.{Kind}
use Rattle.omega_terms.specs.Coercions.{meta_part}
use Rattle.sig_definitions.specs.Signatures.Sig.{Sig, Abs}
use Rattle.sig_definitions.specs.Signatures.Encoding.{enc, enc_abs}
use Rattle.sig_definitions.specs.Explicit.WellFormed.{in_meta}
use Rattle.sig_definitions.specs.Matching.Subtyping.{Sub, SubAbs}
use Rattle.sig_laws.specs.Good.{OkSig}
use Rattle.sig_laws.proofs.Encoded.EncodingLaws.{enc_abs-injective}
use Rattle.sig_match_laws.specs.MatchClaims.{IsRightSig}
use Rattle.sig_match_laws.proofs.OneMatch.Views.{sub-view}
use Rattle.sig_match_laws.proofs.Theorems.{sub_not_both, sub_sig_gives}
use Rattle.sig_reflexive_laws.specs.SameEncoding.{BelowEachOther, PartGives, OnePart, PartNotRefused, FunctionSkips}
use Rattle.sig_reflexive_laws.proofs.Same.{hidden-itself, meta-itself}

-- signatures of one encoding are below each other
pub below_each_other : BelowEachOther
below_each_other ctx x y h e =
    let a = hidden-itself h.0 h.1 in
    let s = enc_abs-injective x y e in
    ((a.0, subst (λ z. SubAbs ctx x z a.0) s a.1), (a.0, subst (λ z. SubAbs ctx z x a.0) s a.1))

-- a signature part is below one of its encoding, by the coercion that the encodings give
pub part_gives : PartGives
part_gives ctx x y h e = subst (λ z. Sub ctx (Sig.Meta x) (Sig.Meta z) (meta_part (enc (Sig.Meta x)) (enc_abs z))) (enc_abs-injective x y e) (meta-itself h.0 h.1)

-- it is so by no other coercion
pub one_part : OnePart
one_part ctx x y f d = (sub-view d).4

-- the right side is good where the left one is, being the same
good-right : (ctx : List Kind) (x y : Abs) → OkSig ctx (Sig.Meta x) → enc_abs x ≡ enc_abs y → IsRightSig ctx (Sig.Meta y)
good-right ctx x y h e = subst (λ z. IsRightSig ctx (Sig.Meta z)) (enc_abs-injective x y e) ((h.0, in_meta), h.1)

-- such parts are not refused
pub part_not_refused : PartNotRefused
part_not_refused ctx x y q h e r = sub_not_both ctx (Sig.Meta x) (Sig.Meta y) _ q h (good-right ctx x y h e) (part_gives ctx x y h e) r

-- the function that matches signatures comes to that coercion
pub function_skips : FunctionSkips
function_skips ctx x y h e = ((sub_sig_gives ctx (Sig.Meta x) (Sig.Meta y) h (good-right ctx x y h e)).0 (meta_part (enc (Sig.Meta x)) (enc_abs y))).1 (part_gives ctx x y h e)
