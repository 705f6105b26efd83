-- Subtyping of signatures of normal types is transitive.
use Rattle.std.specs.Prelude.{List}
use Rattle.omega_kinds.specs.Kind.{Kind}
use Rattle.omega_terms.specs.Term.{Term}
use Rattle.sig_definitions.specs.Signatures.Sig.{Sig, Abs}
use Rattle.sig_definitions.specs.Matching.Subtyping.{Sub, SubAbs}
use Rattle.sig_laws.specs.Good.{OkSig, OkAbs, OkRight}
use Rattle.sig_match_laws.specs.MatchClaims.{IsRightSig}

abbrev pub SubTransitive : Type 0
SubTransitive = (ctx : List Kind) (s t r : Sig) (f g : Term) → OkSig ctx s → IsRightSig ctx t → IsRightSig ctx r
    → Sub ctx s t f → Sub ctx t r g → (h : Term) × Sub ctx s r h

abbrev pub SubAbsTransitive : Type 0
SubAbsTransitive = (ctx : List Kind) (x y z : Abs) (f g : Term) → OkAbs ctx x → OkRight ctx y → OkRight ctx z
    → SubAbs ctx x y f → SubAbs ctx y z g → (h : Term) × SubAbs ctx x z h
