use Rattle.sig_judgments.proofs.signature_rules.Goals as goal
use Rattle.sig_judgments.proofs.Verdicts.{one_value, one_type, one_abstract, one_module, one_signature, one_include, one_distinct, one_declarations, one_generative}
use Rattle.sig_judgments.proofs.WhereVerdict.{one_where}

pub returns-clause-value : goal.returns-clause-value
returns-clause-value c = one_value

pub returns-clause-type_ : goal.returns-clause-type_
returns-clause-type_ c = one_type

pub returns-clause-hidden : goal.returns-clause-hidden
returns-clause-hidden c = one_abstract

pub returns-clause-module_ : goal.returns-clause-module_
returns-clause-module_ c = one_module

pub returns-clause-signature : goal.returns-clause-signature
returns-clause-signature c = one_signature

pub returns-clause-include : goal.returns-clause-include
returns-clause-include c = one_include

pub returns-clause-distinct : goal.returns-clause-distinct
returns-clause-distinct c = one_distinct

pub returns-clause-declarations : goal.returns-clause-declarations
returns-clause-declarations c = one_declarations

pub returns-clause-generative : goal.returns-clause-generative
returns-clause-generative c = one_generative

pub returns-clause-where_type : goal.returns-clause-where_type
returns-clause-where_type c = one_where
