use Rattle.show_declared.specs.Inner.Declaring.{IsDeclaring}
use Rattle.show_declared.proofs.declaration.declaring.Goals as goal

pub returns-in-KwVal-clause-declares : goal.returns-in-KwVal-clause-declares
returns-in-KwVal-clause-declares c = IsDeclaring.a_value

pub returns-in-KwType-clause-declares : goal.returns-in-KwType-clause-declares
returns-in-KwType-clause-declares c = IsDeclaring.a_type

pub returns-in-KwData-clause-declares : goal.returns-in-KwData-clause-declares
returns-in-KwData-clause-declares c = IsDeclaring.a_data

pub returns-in-KwModule-clause-declares : goal.returns-in-KwModule-clause-declares
returns-in-KwModule-clause-declares c = IsDeclaring.a_module

pub returns-in-KwSignature-clause-declares : goal.returns-in-KwSignature-clause-declares
returns-in-KwSignature-clause-declares c = IsDeclaring.a_signature
