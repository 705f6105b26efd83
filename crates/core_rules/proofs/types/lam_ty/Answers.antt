use Rattle.core_judgments.specs.TypeRules.{OperatorGives}
use Rattle.core_rules.proofs.types.lam_ty.Goals as goal

pub returns : goal.returns
returns c =
    rw (c.in_ok-made.ensures, c.in_ok-arrow.ensures.tree, c.in_ok-share.ensures, c.in_ok-share-2.ensures, c.plain.ensures, c.in_ok-share-3.ensures, c.in_ok-share-4.ensures) OperatorGives.operator
