use Rattle.std.proofs.Common.{◌≢◌}
use Rattle.core_judgments.specs.CoreWhy.{Differ}
use Rattle.core_judgments.specs.ExpRules.{IfRefuses}
use Rattle.core_rules.proofs.Conclusions.{exit, test-differs, branches-differ, if-given}
use Rattle.core_rules.proofs.expressions.if_exp.Goals as goal

pub returns-in_err-expect_same-clause-refused : goal.returns-in_err-expect_same-clause-refused
returns-in_err-expect_same-clause-refused c =
    let test = c.args.test.ty in
    let truth = c.in_ok-made.field-0 in
    exit (test ≢ truth) (Differ test truth) (IfRefuses test c.args.yes.ty c.args.no.ty) (λ n. test-differs test c.args.yes.ty c.args.no.ty truth c.in_ok-made.ensures n) c.from_residual-in_err-expect_same.result c.in_err-expect_same.field-0.0 c.from_residual-in_err-expect_same.ensures.1 c.in_err-expect_same.ensures.refused

pub returns-in_err-expect_same-2-clause-refused : goal.returns-in_err-expect_same-2-clause-refused
returns-in_err-expect_same-2-clause-refused c =
    let test = c.args.test.ty in
    let yes = c.args.yes.ty in
    let no = c.args.no.ty in
    exit (yes ≢ no) (Differ yes no) (IfRefuses test yes no) (λ n. branches-differ test yes no c.in_ok-made.field-0 c.in_ok-made.ensures c.in_ok-expect_same.ensures.ok n) c.from_residual-in_err-expect_same-2.result c.in_err-expect_same-2.field-0.0 c.from_residual-in_err-expect_same-2.ensures.1 c.in_err-expect_same-2.ensures.refused

pub returns-clause-given : goal.returns-clause-given
returns-clause-given c =
    if-given c.args.test.ty c.args.yes.ty c.args.no.ty c.in_ok-made.field-0 c.args.test.term c.args.yes.term c.args.no.term c.in_ok-term.term c.in_ok-made.ensures c.in_ok-expect_same.ensures.ok c.in_ok-expect_same-2.ensures.ok c.in_ok-term.ensures
