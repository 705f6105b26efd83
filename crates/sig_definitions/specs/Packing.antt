-- The term of a module with the types that its signature hides packed into it (Rossberg, Russo, Dreyer, F-ing modules,
-- sections 4 and 7).
use Rattle.std.specs.Prelude.{List, []}
use Rattle.omega_kinds.specs.Kind.{Kind}
use Rattle.omega_kinds.specs.declared.effect.Effect.TheVariants.{Pure, Impure}
use Rattle.omega_types.specs.Ty.{Ty}
use Rattle.omega_terms.specs.Term.{Term}
use Rattle.omega_terms.specs.Shorthands.{Packs}
use Rattle.sig_definitions.specs.Signatures.Sig.{Abs, Module, made}
use Rattle.sig_definitions.specs.Signatures.Encoding.{enc_abs}

-- an impure module's term has the type of its whole signature already
pub data Packed (ctx : List Kind) : Module → Term → Type 0 where
  impure : {x : Abs} {e : Term} → Packed ctx (made Impure x [] e) e
  pure : {x : Abs} {ts : List Ty} {e d : Term}
      → Packs ctx ts e (enc_abs x) d
      → Packed ctx (made Pure x ts e) d
