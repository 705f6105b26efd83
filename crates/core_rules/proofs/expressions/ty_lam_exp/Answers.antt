use Rattle.core_judgments.specs.ExpRules.{TypeFunctionGives}
use Rattle.core_rules.proofs.expressions.ty_lam_exp.Goals as goal

pub returns : goal.returns
returns c =
    rw (c.in_ok-ty.ensures, c.in_ok-term.ensures, c.in_ok-share.ensures, c.in_ok-share-2.ensures, c.in_ok-share-3.ensures, c.plain.ensures) TypeFunctionGives.type_function
