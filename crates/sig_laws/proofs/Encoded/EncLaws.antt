-- The encoding of a well formed signature has kind *.
-- Main results: enc-kind, enc_abs-kind.
use Rattle.std.specs.Prelude.{List}
use Rattle.omega_kinds.specs.Kind.{Kind}
use Rattle.omega_types.specs.Kinding.{HasKind}
use Rattle.omega_types.proofs.Preservation.{conv-kinds}
use Rattle.sig_definitions.specs.Signatures.Sig.{Sig, Abs}
use Rattle.sig_definitions.specs.Signatures.Encoding.{enc, enc_abs}
use Rattle.sig_definitions.specs.Explicit.WellFormed.{WellFormed, WellFormedAbs, Explicit}
use Rattle.sig_laws.proofs.Formed.WellFormedLaws.{well_formed-kinds, well_formed_abs-kinds, explicit-kinds}
use Rattle.sig_laws.proofs.Encoded.EncodingLaws.{enc-conv, enc_well_formed-conv, enc_abs-conv}

-- the encoding of a well formed signature has kind *
pub enc-kind : {ctx : List Kind} {a : Sig} → WellFormed ctx a → HasKind ctx (enc a) Kind.Star
enc-kind w = (conv-kinds (enc-conv w (well_formed-kinds w))).0

-- the encoding of a well formed signature that hides types has kind *
pub enc_abs-kind : {ctx : List Kind} {x : Abs} → WellFormedAbs ctx x → HasKind ctx (enc_abs x) Kind.Star
enc_abs-kind w = (conv-kinds (enc_well_formed-conv w (well_formed_abs-kinds w))).0

-- the encoding of an ordered explicit signature has kind *
pub enc_explicit-kind : {ctx : List Kind} {x : Abs} → Explicit ctx x → HasKind ctx (enc_abs x) Kind.Star
enc_explicit-kind w = (conv-kinds (enc_abs-conv w (explicit-kinds w))).0
