use Rattle.core_judgments.proofs.expression_rules.Goals as goal
use Rattle.core_judgments.proofs.ExpVerdicts.{one_literal, one_function, one_type_function, one_call, one_instance, one_get, one_if, one_operation, one_fix, one_record}
use Rattle.core_judgments.proofs.SumVerdicts.{one_sum, one_label, one_injection, one_case}

pub returns-clause-literal : goal.returns-clause-literal
returns-clause-literal c = one_literal

pub returns-clause-function : goal.returns-clause-function
returns-clause-function c = one_function

pub returns-clause-type_function : goal.returns-clause-type_function
returns-clause-type_function c = one_type_function

pub returns-clause-call : goal.returns-clause-call
returns-clause-call c = one_call

pub returns-clause-instance : goal.returns-clause-instance
returns-clause-instance c = one_instance

pub returns-clause-get : goal.returns-clause-get
returns-clause-get c = one_get

pub returns-clause-conditional : goal.returns-clause-conditional
returns-clause-conditional c = one_if

pub returns-clause-operation : goal.returns-clause-operation
returns-clause-operation c = one_operation

pub returns-clause-fixpoint : goal.returns-clause-fixpoint
returns-clause-fixpoint c = one_fix

pub returns-clause-record : goal.returns-clause-record
returns-clause-record c = one_record

pub returns-clause-sum : goal.returns-clause-sum
returns-clause-sum c = one_sum

pub returns-clause-label : goal.returns-clause-label
returns-clause-label c = one_label

pub returns-clause-injection : goal.returns-clause-injection
returns-clause-injection c = one_injection

pub returns-clause-case_of : goal.returns-clause-case_of
returns-clause-case_of c = one_case
