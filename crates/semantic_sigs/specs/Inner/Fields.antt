-- The fields of a structure, as a list of names with their signatures, and as the row of the plain tree.
use Rattle.std.specs.Prelude.{List, [], ◌∷◌, IsTrue}
use Rattle.omega_kinds.specs.Name.{Name}
use Rattle.omega_kinds.specs.LabelOrder.{name_before}
use Rattle.sig_definitions.specs.Signatures.Sig.{Sig, SigRow}

abbrev pub SigPairs : Type 0
SigPairs = List (Name × Sig)

abbrev pub sig_row : SigPairs → SigRow
sig_row [] = SigRow.End
sig_row (x ∷ xs) = SigRow.More x.0 x.1 (sig_row xs)

-- each field's name is before the next one's
abbrev pub Rises : {T : Type 0} → List (Name × T) → Type 0
Rises [] = Unit {0}
Rises (x ∷ []) = Unit {0}
Rises (x ∷ y ∷ xs) = IsTrue (name_before x.0 y.0) × Rises (y ∷ xs)

-- a name is after those of all these fields, which rise
abbrev pub MayFollow : {T : Type 0} → List (Name × T) → Name → Type 0
MayFollow [] l = Unit {0}
MayFollow (x ∷ []) l = IsTrue (name_before x.0 l)
MayFollow (x ∷ y ∷ xs) l = MayFollow (y ∷ xs) l
