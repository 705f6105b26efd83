-- Where a path of names leaves the structures of a signature, and where the refusal of a fixed type stands.
use Rattle.std.specs.Prelude.{◌≡◌, List, ◌∷◌}
use Rattle.omega_kinds.specs.Name.{Name}
use Rattle.sig_definitions.specs.Signatures.Sig.{Sig}
use Rattle.fing_syntax.specs.Phrase.{Span, SpanName}
use Rattle.fing_syntax.specs.Place.{name_of, name_span, path_span}
use Rattle.sig_judgments.specs.Refinement.{LeavesAt}
use Rattle.sig_judgments.specs.SigWhy.{SigWhy}
use Rattle.elab_judgments.specs.Operators.{names_of}

-- where the path leaves at a name, that name stands at the place
abbrev pub LeftAt : Sig → List SpanName → Span → Type 0
LeftAt s path at = (l : Name) → LeavesAt (λ m. m) s (names_of path) l → (x : SpanName) × LeavesAt name_of s path x × (name_of x ≡ l) × (at ≡ name_span x)

-- the place of the reason: a name of the path, the path, or the place of the type
abbrev pub StandsAt : Sig → SpanName → List SpanName → (ty : Span) → SigWhy → Span → Type 0
StandsAt s z path b (SigWhy.NoPart l) at = LeftAt s (z ∷ path) at
StandsAt s z path b (SigWhy.NotAbstract p) at = at ≡ path_span z path
StandsAt s z path b (SigWhy.KindDiffer k j) at = at ≡ b
StandsAt s z path b (SigWhy.Duplicate l) at = Unit {0}
StandsAt s z path b SigWhy.NotStructure at = Unit {0}
