-- Signatures that are alike by their norms.
-- Main results: norms-alike.
use Rattle.std.proofs.Common.{◌≡◌, List, sym, subst}
use mathlib.Core.Logic.{inr}
use Rattle.omega_kinds.specs.Kind.{Kind}
use Rattle.sig_definitions.specs.QuantifierOrder.{Norm}
use Rattle.sig_definitions.specs.Signatures.Encoding.{enc_abs}
use Rattle.sig_definitions.specs.Signatures.Sig.{Abs}
use Rattle.sig_laws.specs.Good.{OkRight}
use Rattle.sig_laws.proofs.Encoded.EncodingLaws.{enc_abs-injective}
use Rattle.sig_match.specs.Inner.Alike.{AreAlike}

-- signatures whose norms have one encoding are alike
pub norms-alike : (x y n m : Abs) → ((ctx : List Kind) → OkRight ctx x → Norm ctx x n) → ((ctx : List Kind) → OkRight ctx y → Norm ctx y m) → enc_abs n ≡ enc_abs m → AreAlike x y
norms-alike x y n m f g e = inr (n, f, λ ctx v. subst (Norm ctx y) (sym (enc_abs-injective n m e)) (g ctx v))
