-- Fields: the names of those that are done, and those of a signature.
use Rattle.std.specs.Prelude.{List, map, reverse}
use Rattle.omega_kinds.specs.Name.{Name}
use Rattle.sig_definitions.specs.Signatures.Sig.{Sig, Abs, SigRow}

-- the last one first
abbrev pub names_before : {A : Type 0} → List (Name × A) → List Name
names_before done = reverse (map (λ x. x.0) done)

-- the fields of a structure, and none of another signature
abbrev pub fields_in : Abs → SigRow
fields_in (Abs.Ex ks (Sig.Str fs)) = fs
fields_in (Abs.Ex ks s) = SigRow.End
