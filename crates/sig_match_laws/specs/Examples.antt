-- A type that is found, and one that is not.
use Rattle.std.specs.Prelude.{zero, [], ◌∷◌, ◌≡◌}
use Rattle.omega_kinds.specs.Kind.{Kind}
use Rattle.omega_kinds.specs.Name.{Name}
use Rattle.omega_types.specs.Ty.{Ty}
use Rattle.omega_terms.specs.Term.{Term}
use Rattle.sig_definitions.specs.Signatures.Sig.{Sig, Abs, SigRow}
use Rattle.sig_definitions.specs.Explicit.SigPath.{Item}
use Rattle.sig_definitions.specs.Matching.MatchRefusal.{NoRoot}
use Rattle.sig_match_laws.specs.MatchFunction.{MatchOutcome, match_sig}

-- the name t
abbrev pub name_t : Name
name_t = 116 ∷ []

-- a structure with the type t = int
abbrev pub with_int : Sig
with_int = Sig.Str (SigRow.More name_t (Sig.Typ Ty.Int Kind.Star) SigRow.End)

-- an empty structure
abbrev pub with_nothing : Sig
with_nothing = Sig.Str SigRow.End

-- a structure that hides its type t
abbrev pub hides_t : Abs
hides_t = Abs.Ex (Kind.Star ∷ []) (Sig.Str (SigRow.More name_t (Sig.Typ (Ty.Var zero) Kind.Star) SigRow.End))

abbrev pub IntIsFound : Type 0
IntIsFound = (f : Term) × (match_sig [] with_int hides_t ≡ MatchOutcome.matched (Ty.Int ∷ []) f)

abbrev pub NothingIsFound : Type 0
NothingIsFound = match_sig [] with_nothing hides_t ≡ MatchOutcome.refused (NoRoot 0 (Item.Part name_t ∷ []))
