use Rattle.sig_definitions.specs.Signatures.FieldOrder.{in_order}
use Rattle.sig_premise_laws.proofs.NameOrder.{bound-in_order}
use Rattle.module_judgments.proofs.module_rules.Goals as goal
use Rattle.module_judgments.proofs.Verdicts.{one_named, one_projected, one_pure_projected, one_type_path, one_value_path, one_sig_path, one_generative, one_parts, one_apply, one_include, one_seal, one_value_module, one_type_module, one_signature_module}
use Rattle.module_judgments.proofs.Determined.{collected-one, seq-kinded}

pub returns-clause-named : goal.returns-clause-named
returns-clause-named c = one_named

pub returns-clause-projected : goal.returns-clause-projected
returns-clause-projected c = one_projected

pub returns-clause-pure_projected : goal.returns-clause-pure_projected
returns-clause-pure_projected c = one_pure_projected

pub returns-clause-type_path : goal.returns-clause-type_path
returns-clause-type_path c = one_type_path

pub returns-clause-value_path : goal.returns-clause-value_path
returns-clause-value_path c = one_value_path

pub returns-clause-sig_path : goal.returns-clause-sig_path
returns-clause-sig_path c = one_sig_path

pub returns-clause-generative : goal.returns-clause-generative
returns-clause-generative c = one_generative

pub returns-clause-parts : goal.returns-clause-parts
returns-clause-parts c = one_parts

pub returns-clause-apply : goal.returns-clause-apply
returns-clause-apply c = one_apply

pub returns-clause-include : goal.returns-clause-include
returns-clause-include c = one_include

pub returns-clause-end : goal.returns-clause-end
returns-clause-end c g names b = collected-one g (in_order names) (bound-in_order g names b)

pub returns-clause-sequence : goal.returns-clause-sequence
returns-clause-sequence c = seq-kinded

pub returns-clause-seal : goal.returns-clause-seal
returns-clause-seal c = one_seal

pub returns-clause-value : goal.returns-clause-value
returns-clause-value c = one_value_module

pub returns-clause-type_ : goal.returns-clause-type_
returns-clause-type_ c = one_type_module

pub returns-clause-signature : goal.returns-clause-signature
returns-clause-signature c = one_signature_module
