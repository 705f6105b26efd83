use Rattle.sig_premise_laws.proofs.premises.Goals as goal
use Rattle.sig_premise_laws.proofs.Determined.{lift-one, packed-kinded, instance-one}

pub returns-clause-lift : goal.returns-clause-lift
returns-clause-lift c = lift-one

pub returns-clause-packed : goal.returns-clause-packed
returns-clause-packed c = packed-kinded

pub returns-clause-instance : goal.returns-clause-instance
returns-clause-instance c = instance-one
