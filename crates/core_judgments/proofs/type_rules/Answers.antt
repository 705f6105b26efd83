use Rattle.core_judgments.proofs.type_rules.Goals as goal
use Rattle.core_judgments.proofs.TypeVerdicts.{one_base, one_arrow, one_all, one_operator, one_applied, one_record_type}

pub returns-clause-base : goal.returns-clause-base
returns-clause-base c = one_base

pub returns-clause-arrow : goal.returns-clause-arrow
returns-clause-arrow c = one_arrow

pub returns-clause-all : goal.returns-clause-all
returns-clause-all c = one_all

pub returns-clause-operator : goal.returns-clause-operator
returns-clause-operator c = one_operator

pub returns-clause-applied : goal.returns-clause-applied
returns-clause-applied c = one_applied

pub returns-clause-record_type : goal.returns-clause-record_type
returns-clause-record_type c = one_record_type
