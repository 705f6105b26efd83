use Rattle.sig_explicit_laws.proofs.kept_by_operations.Goals as goal
use Rattle.sig_explicit_laws.proofs.KeptClaims.{sequence_keeps, lift_keeps, lift_keeps_formed, generative_keeps, fixing_keeps, instance_keeps, outside_keeps}

pub returns-clause-sequence : goal.returns-clause-sequence
returns-clause-sequence c = sequence_keeps

pub returns-clause-lift : goal.returns-clause-lift
returns-clause-lift c = lift_keeps

pub returns-clause-lift_formed : goal.returns-clause-lift_formed
returns-clause-lift_formed c = lift_keeps_formed

pub returns-clause-generative : goal.returns-clause-generative
returns-clause-generative c = generative_keeps

pub returns-clause-fixing : goal.returns-clause-fixing
returns-clause-fixing c = fixing_keeps

pub returns-clause-instance : goal.returns-clause-instance
returns-clause-instance c = instance_keeps

pub returns-clause-outside : goal.returns-clause-outside
returns-clause-outside c = outside_keeps
