-- The coercion between signatures that may hide types.
use Rattle.std.specs.Prelude.{List, [], ◌∷◌}
use Rattle.omega_kinds.specs.Kind.{Kind}
use Rattle.omega_types.specs.Ty.{Ty}
use Rattle.omega_terms.specs.Term.{Term}
use Rattle.omega_terms.specs.Coercions.{MatchPart, AbsPart}
use Rattle.sig_definitions.specs.Signatures.Sig.{Abs}
use Rattle.sig_definitions.specs.Signatures.Encoding.{enc, enc_abs}
use Rattle.omega_shorthands.specs.Inner.Packed.{Fills}

-- to is the encoding of the right side under the left one's hidden types, where these types fill its quantifiers
abbrev pub IsAbsCoercion : Abs → List Ty → Term → Ty → Term → Type 0
IsAbsCoercion (Abs.Ex [] s) ts f to e = (ctx : List Kind) → Fills ctx ts to → MatchPart ctx (enc s) ts f to e
IsAbsCoercion (Abs.Ex (k ∷ ks) s) ts f to e = (ctx : List Kind) → Fills ctx ts to → AbsPart ctx (enc_abs (Abs.Ex (k ∷ ks) s)) (k ∷ ks) ts f to e
