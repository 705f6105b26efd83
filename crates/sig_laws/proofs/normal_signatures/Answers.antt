use Rattle.sig_laws.proofs.normal_signatures.Goals as goal
use Rattle.sig_laws.proofs.LawTheorems.{well_formed_conv, normal_sig_gives, enc_normal, enc_injective, conv_exactly, conv_abs_exactly, found_operator}

pub returns-clause-conv : goal.returns-clause-conv
returns-clause-conv c = well_formed_conv

pub returns-clause-normal : goal.returns-clause-normal
returns-clause-normal c = normal_sig_gives

pub returns-clause-enc : goal.returns-clause-enc
returns-clause-enc c = enc_normal

pub returns-clause-injective : goal.returns-clause-injective
returns-clause-injective c = enc_injective

pub returns-clause-exactly : goal.returns-clause-exactly
returns-clause-exactly c = conv_exactly

pub returns-clause-abs_exactly : goal.returns-clause-abs_exactly
returns-clause-abs_exactly c = conv_abs_exactly

pub returns-clause-operator : goal.returns-clause-operator
returns-clause-operator c = found_operator
