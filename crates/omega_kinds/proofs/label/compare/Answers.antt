use Rattle.omega_kinds.proofs.label.compare.Goals as goal
use Rattle.omega_kinds.proofs.LabelLaws.{label_order}

pub returns-in-Name-Name-clause-order : goal.returns-in-Name-Name-clause-order
returns-in-Name-Name-clause-order c = label_order

pub returns-in_default-clause-order : goal.returns-in_default-clause-order
returns-in_default-clause-order c = label_order
