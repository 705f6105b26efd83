-- The laws of the encoding.
use Rattle.std.specs.Prelude.{ℕ, List, ◌≡◌}
use Rattle.omega_kinds.specs.Kind.{Kind}
use Rattle.omega_types.specs.Ty.{Ty}
use Rattle.omega_types.specs.Substitution.{rename, substitute}
use Rattle.omega_types.specs.Kinding.{HasKind}
use Rattle.sig_definitions.specs.Signatures.Sig.{Sig, Abs}
use Rattle.sig_definitions.specs.Signatures.SigSubst.{rename_sig, rename_abs, substitute_sig, substitute_abs}
use Rattle.sig_definitions.specs.Signatures.Encoding.{enc, enc_abs}
use Rattle.sig_definitions.specs.Explicit.WellFormed.{WellFormed, WellFormedAbs}

-- the encoding of a substitution is the substitution of the encoding
abbrev pub EncSubstitute : Type 0
EncSubstitute = (s : ℕ → Ty) (a : Sig) → enc (substitute_sig s a) ≡ substitute s (enc a)

abbrev pub EncAbsSubstitute : Type 0
EncAbsSubstitute = (s : ℕ → Ty) (x : Abs) → enc_abs (substitute_abs s x) ≡ substitute s (enc_abs x)

-- so for renaming
abbrev pub EncRename : Type 0
EncRename = (r : ℕ → ℕ) (a : Sig) → enc (rename_sig r a) ≡ rename r (enc a)

abbrev pub EncAbsRename : Type 0
EncAbsRename = (r : ℕ → ℕ) (x : Abs) → enc_abs (rename_abs r x) ≡ rename r (enc_abs x)

-- the encoding of a well formed signature has kind *
abbrev pub EncKind : Type 0
EncKind = (ctx : List Kind) (a : Sig) → WellFormed ctx a → HasKind ctx (enc a) Kind.Star

abbrev pub EncAbsKind : Type 0
EncAbsKind = (ctx : List Kind) (x : Abs) → WellFormedAbs ctx x → HasKind ctx (enc_abs x) Kind.Star
