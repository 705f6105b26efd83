use Rattle.elab_laws.proofs.typed.Goals as goal
use Rattle.elab_laws.proofs.TypedClaims.{whole_is_typed, whole_is_normal, whole_is_synthesised, whole_is_never_stuck, pure_module_is_typed, sig_of_program_is_normal, type_is_kinded, expression_is_typed, expression_is_normal, signature_is_normal, module_is_typed, module_is_normal}

pub returns-clause-whole : goal.returns-clause-whole
returns-clause-whole c = whole_is_typed

pub returns-clause-program : goal.returns-clause-program
returns-clause-program c = sig_of_program_is_normal

pub returns-clause-kinded : goal.returns-clause-kinded
returns-clause-kinded c = type_is_kinded

pub returns-clause-expression : goal.returns-clause-expression
returns-clause-expression c = expression_is_typed

pub returns-clause-signature : goal.returns-clause-signature
returns-clause-signature c = signature_is_normal

pub returns-clause-whole_module : goal.returns-clause-whole_module
returns-clause-whole_module c = module_is_typed

pub returns-clause-normal_whole : goal.returns-clause-normal_whole
returns-clause-normal_whole c = whole_is_normal

pub returns-clause-pure_module : goal.returns-clause-pure_module
returns-clause-pure_module c = pure_module_is_typed

pub returns-clause-never_stuck : goal.returns-clause-never_stuck
returns-clause-never_stuck c = whole_is_never_stuck

pub returns-clause-synthesised : goal.returns-clause-synthesised
returns-clause-synthesised c = whole_is_synthesised

pub returns-clause-normal_expression : goal.returns-clause-normal_expression
returns-clause-normal_expression c = expression_is_normal

pub returns-clause-normal_module : goal.returns-clause-normal_module
returns-clause-normal_module c = module_is_normal
