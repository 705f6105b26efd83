-- The statements in the form in which contracts cite them.
-- Main results: types_have_kinds, written_are_explicit, modules_are_well_formed.
use Rattle.omega_kinds.specs.Kind.{Kind}
use Rattle.omega_kinds.specs.declared.effect.Effect.TheVariants.{Pure}
use Rattle.std.specs.Prelude.{List}
use Rattle.omega_types.specs.Ty.{Ty}
use Rattle.omega_types.specs.Binders.{OfKinds}
use Rattle.omega_terms.specs.Term.{Term}
use Rattle.sig_definitions.specs.Signatures.Sig.{Sig, Abs, made}
use Rattle.elab_laws.specs.Formed.{TypesHaveKinds, ExpsHaveTypes, WrittenAreExplicit, ModulesAreWellFormed, PureTypesHaveKinds, ProgramsAreWellFormed, ProgramTypesHaveKinds}
use Rattle.elab_laws.proofs.Derived.{GoodModule, pure, type_kind, exp_kind, sig_explicit, module_good, program_good, good-body}

types-of : {ctx ks : List Kind} {s : Sig} {ts : List Ty} {e : Term} → GoodModule ctx (made Pure (Abs.Ex ks s) ts e) → OfKinds ctx ts ks
types-of (pure w k) = k

-- the type that a type phrase means has its kind
pub types_have_kinds : TypesHaveKinds
types_have_kinds g a t k h m = type_kind g h m

-- the type of an expression has kind *
pub exps_have_types : ExpsHaveTypes
exps_have_types g a t e h m = exp_kind g h m

-- each written signature is ordered explicit
pub written_are_explicit : WrittenAreExplicit
written_are_explicit g a x h m = sig_explicit g h m

-- the signature of each module is well formed
pub modules_are_well_formed : ModulesAreWellFormed
modules_are_well_formed g a f x ts e h m = good-body (module_good g h m)

-- a pure module keeps a type of the right kind for each type that its signature hides
pub pure_types_have_kinds : PureTypesHaveKinds
pure_types_have_kinds g a ks s ts e h m = types-of (module_good g h m)

-- the signature of a program is well formed
pub programs_are_well_formed : ProgramsAreWellFormed
programs_are_well_formed a f x ts e whole m = good-body (program_good m)

-- a pure program keeps a type of the right kind for each type that its signature hides
pub program_types_have_kinds : ProgramTypesHaveKinds
program_types_have_kinds a ks s ts e whole m = types-of (program_good m)
