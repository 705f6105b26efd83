use Rattle.std.proofs.Common.{◌≢◌}
use Rattle.core_judgments.specs.CoreWhy.{Differ}
use Rattle.core_judgments.specs.ExpRules.{OperationRefuses}
use Rattle.core_rules.proofs.Conclusions.{exit, left-differs, right-differs, operation-given}
use Rattle.core_rules.proofs.expressions.op_exp.Goals as goal

pub returns-in_err-expect_same-clause-refused : goal.returns-in_err-expect_same-clause-refused
returns-in_err-expect_same-clause-refused c =
    let left = c.args.left.ty in
    let number = c.in_ok-number.number in
    exit (left ≢ number) (Differ left number) (OperationRefuses left c.args.right.ty) (λ n. left-differs left c.args.right.ty number c.in_ok-number.ensures n) c.from_residual-in_err-expect_same.result c.in_err-expect_same.field-0.0 c.from_residual-in_err-expect_same.ensures.1 c.in_err-expect_same.ensures.refused

pub returns-in_err-expect_same-2-clause-refused : goal.returns-in_err-expect_same-2-clause-refused
returns-in_err-expect_same-2-clause-refused c =
    let left = c.args.left.ty in
    let right = c.args.right.ty in
    let number = c.in_ok-number.number in
    exit (right ≢ number) (Differ right number) (OperationRefuses left right) (λ n. right-differs left right number c.in_ok-number.ensures c.in_ok-expect_same.ensures.ok n) c.from_residual-in_err-expect_same-2.result c.in_err-expect_same-2.field-0.0 c.from_residual-in_err-expect_same-2.ensures.1 c.in_err-expect_same-2.ensures.refused

pub returns-clause-given : goal.returns-clause-given
returns-clause-given c =
    operation-given c.args.op c.args.left.ty c.args.right.ty c.in_ok-number.number c.in_ok-ty.ty c.args.left.term c.args.right.term c.in_ok-term.term c.in_ok-number.ensures c.in_ok-expect_same.ensures.ok c.in_ok-expect_same-2.ensures.ok c.in_ok-ty.ensures c.in_ok-term.ensures
