-- A module at the place of its name, as it is at the end of the environment.
use Rattle.std.specs.Prelude.{[]}
use Rattle.omega_kinds.specs.declared.effect.Effect.TheVariants.{Pure}
use Rattle.omega_types.specs.Index.{bump}
use Rattle.sig_definitions.specs.Signatures.Sig.{Abs, Module, made}
use Rattle.sig_definitions.specs.Signatures.SigSubst.{rename_sig}
use Rattle.semantic_sigs.specs.declared.standing.Standing.{Standing}

-- its signature is shifted past the type variables that come after the place
abbrev pub standing_module : Standing → Module
standing_module m = made Pure (Abs.Ex [] (rename_sig (bump m.types 0) m.sig.now)) [] m.term
