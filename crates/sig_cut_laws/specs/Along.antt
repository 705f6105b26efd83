-- What is looked up along a path is found in what the path meets, and nothing else is.
use Rattle.std.specs.Prelude.{List, ◌≤◌, ◌↔◌}
use Rattle.omega_kinds.specs.Kind.{Kind}
use Rattle.omega_types.specs.Ty.{Ty}
use Rattle.sig_definitions.specs.Signatures.Sig.{Sig}
use Rattle.sig_definitions.specs.Signatures.SigSize.{size}
use Rattle.sig_definitions.specs.Signatures.Alike.{IsSigAt}
use Rattle.sig_definitions.specs.Explicit.SigPath.{SigPath}
use Rattle.sig_definitions.specs.Matching.LookUp.{Found}
use Rattle.sig_laws.specs.Good.{OkSig}
use Rattle.sig_match_laws.specs.MatchClaims.{IsRightSig}
use Rattle.sig_cut_laws.specs.Cut.{CutTo}

-- both sides of a look-up may be cut down to what its path meets
abbrev pub FoundInCut : Type 0
FoundInCut = (ctx : List Kind) (p : SigPath) (s c r d : Sig) (t : Ty) → OkSig ctx s → CutTo p s c → CutTo p r d → Found ctx s p r t ↔ Found ctx c p d t

-- what is cut is as good as the whole, on the left and on the right
abbrev pub CutLeft : Type 0
CutLeft = (ctx : List Kind) (p : SigPath) (s c : Sig) → CutTo p s c → OkSig ctx s → OkSig ctx c

abbrev pub CutRight : Type 0
CutRight = (ctx : List Kind) (p : SigPath) (r d : Sig) → CutTo p r d → IsRightSig ctx r → IsRightSig ctx d

-- types may be put in after the cut, and give what the cut has of the whole at these types
abbrev pub CutBefore : Type 0
CutBefore = (ctx : List Kind) (p : SigPath) (r d n : Sig) (ts : List Ty) → CutTo p r d → IsSigAt ctx r ts n → (m : Sig) × CutTo p n m × IsSigAt ctx d ts m

-- what is cut is no larger
abbrev pub NoLarger : Type 0
NoLarger = (p : SigPath) (s c : Sig) → CutTo p s c → size c ≤ size s
