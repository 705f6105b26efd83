use Rattle.core_judgments.proofs.data_rules.Goals as goal
use Rattle.core_judgments.proofs.DataVerdicts.{one_mu, one_roll, one_unroll}

pub returns-clause-mu : goal.returns-clause-mu
returns-clause-mu c = one_mu

pub returns-clause-roll : goal.returns-clause-roll
returns-clause-roll c = one_roll

pub returns-clause-unroll : goal.returns-clause-unroll
returns-clause-unroll c = one_unroll
