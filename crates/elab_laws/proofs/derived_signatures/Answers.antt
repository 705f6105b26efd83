use Rattle.elab_laws.proofs.derived_signatures.Goals as goal
use Rattle.elab_laws.proofs.FormedClaims.{types_have_kinds, exps_have_types, written_are_explicit, modules_are_well_formed, pure_types_have_kinds, programs_are_well_formed, program_types_have_kinds}

pub returns-clause-types : goal.returns-clause-types
returns-clause-types c = types_have_kinds

pub returns-clause-exps : goal.returns-clause-exps
returns-clause-exps c = exps_have_types

pub returns-clause-sigs : goal.returns-clause-sigs
returns-clause-sigs c = written_are_explicit

pub returns-clause-modules : goal.returns-clause-modules
returns-clause-modules c = modules_are_well_formed

pub returns-clause-hidden : goal.returns-clause-hidden
returns-clause-hidden c = pure_types_have_kinds

pub returns-clause-programs : goal.returns-clause-programs
returns-clause-programs c = programs_are_well_formed

pub returns-clause-program_types : goal.returns-clause-program_types
returns-clause-program_types c = program_types_have_kinds
