use Rattle.elab_spelling.proofs.legible_meanings.Goals as goal
use Rattle.elab_spelling.proofs.Theorems.{types_mean_legible, exps_mean_legible, sigs_mean_legible, mods_mean_legible, programs_mean_legible}

pub returns-clause-of_types : goal.returns-clause-of_types
returns-clause-of_types c = types_mean_legible

pub returns-clause-of_exps : goal.returns-clause-of_exps
returns-clause-of_exps c = exps_mean_legible

pub returns-clause-of_sigs : goal.returns-clause-of_sigs
returns-clause-of_sigs c = sigs_mean_legible

pub returns-clause-of_mods : goal.returns-clause-of_mods
returns-clause-of_mods c = mods_mean_legible

pub returns-clause-programs : goal.returns-clause-programs
returns-clause-programs c = programs_mean_legible
