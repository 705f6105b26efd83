use Rattle.omega_laws.proofs.synthesis.Goals as goal
use Rattle.omega_laws.proofs.Synthesised.{exact, synth_one}

pub returns-clause-exact : goal.returns-clause-exact
returns-clause-exact c = λ ctx vars e t g. exact g

pub returns-clause-one : goal.returns-clause-one
returns-clause-one c = λ ctx vars e s t g h i. synth_one g h i
