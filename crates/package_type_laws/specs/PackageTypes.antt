-- Package types: the encodings of norms.
use Rattle.std.specs.Prelude.{List, ◌≡◌, ◌↔◌}
use Rattle.omega_kinds.specs.Kind.{Kind}
use Rattle.omega_types.specs.Conversion.{Conv}
use Rattle.omega_terms.specs.Term.{Term}
use Rattle.sig_definitions.specs.Signatures.Sig.{Abs}
use Rattle.sig_definitions.specs.Signatures.Alike.{ConvAbs}
use Rattle.sig_definitions.specs.Signatures.Encoding.{enc_abs}
use Rattle.sig_definitions.specs.Explicit.WellFormed.{Explicit}
use Rattle.sig_definitions.specs.Matching.Subtyping.{SubAbs}
use Rattle.sig_definitions.specs.QuantifierOrder.{Norm}
use Rattle.sig_laws.specs.Good.{OkRight}
use Rattle.sig_match_laws.specs.AnyTypes.{IsSubAbs}

-- a signature and its norm match each other
abbrev pub NormMatches : Type 0
NormMatches = (ctx : List Kind) (x n : Abs) → Explicit ctx x → Norm ctx x n → IsSubAbs ctx x n × IsSubAbs ctx n x

-- so they do where their types are normal, by coercions
abbrev pub NormalNormMatches : Type 0
NormalNormMatches = (ctx : List Kind) (x n : Abs) → OkRight ctx x → Norm ctx x n → ((f : Term) × SubAbs ctx x n f) × ((g : Term) × SubAbs ctx n x g)

-- signatures that hide types are the same where their encodings are
abbrev pub OneEncoding : Type 0
OneEncoding = (x y : Abs) → enc_abs x ≡ enc_abs y → x ≡ y

-- package types are convertible exactly where the norms are
abbrev pub NormsExactly : Type 0
NormsExactly = (ctx : List Kind) (x y n m : Abs) → Explicit ctx x → Explicit ctx y → Norm ctx x n → Norm ctx y m → ConvAbs ctx n m ↔ Conv ctx (enc_abs n) (enc_abs m) Kind.Star

-- the norms of convertible signatures are convertible
abbrev pub ConvertibleNorms : Type 0
ConvertibleNorms = (ctx : List Kind) (x y n m : Abs) → ConvAbs ctx x y → Norm ctx x n → Norm ctx y m → ConvAbs ctx n m
