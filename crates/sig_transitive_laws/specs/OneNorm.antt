-- Ordered explicit signatures that have one norm are below each other.
use Rattle.std.specs.Prelude.{List}
use Rattle.omega_kinds.specs.Kind.{Kind}
use Rattle.omega_terms.specs.Term.{Term}
use Rattle.omega_terms.specs.Coercions.{meta_part}
use Rattle.sig_definitions.specs.Signatures.Sig.{Sig, Abs}
use Rattle.sig_definitions.specs.Signatures.Encoding.{enc, enc_abs}
use Rattle.sig_definitions.specs.Matching.Subtyping.{Sub, SubAbs}
use Rattle.sig_definitions.specs.QuantifierOrder.{Norm}
use Rattle.sig_laws.specs.Good.{OkRight}

-- a signature is below its norm, and above it
abbrev pub NormBelow : Type 0
NormBelow = (ctx : List Kind) (x n : Abs) → OkRight ctx x → Norm ctx x n → ((f : Term) × SubAbs ctx x n f) × ((g : Term) × SubAbs ctx n x g)

abbrev pub OneNormBelow : Type 0
OneNormBelow = (ctx : List Kind) (x y n : Abs) → OkRight ctx x → OkRight ctx y → Norm ctx x n → Norm ctx y n
    → ((f : Term) × SubAbs ctx x y f) × ((g : Term) × SubAbs ctx y x g)

-- a signature part of one norm is below, by the coercion that the encodings give
abbrev pub PartOfOneNorm : Type 0
PartOfOneNorm = (ctx : List Kind) (x y n : Abs) → OkRight ctx x → OkRight ctx y → Norm ctx x n → Norm ctx y n
    → Sub ctx (Sig.Meta x) (Sig.Meta y) (meta_part (enc (Sig.Meta x)) (enc_abs y))
