use Rattle.std.proofs.Common.{◌≡◌, ◌≢◌, sym, ap, ◌∙◌}
use Rattle.omega_types.specs.Ty.{Ty}
use Rattle.omega_types.specs.Inner.View.{ty_of}
use Rattle.core_judgments.specs.CoreWhy.{Differ}
use Rattle.core_judgments.specs.ExpRules.{CallRefuses}
use Rattle.core_rules.proofs.Conclusions.{exit, call-differs, call-given}
use Rattle.core_rules.proofs.Forms.{not-arrow}
use Rattle.core_rules.proofs.expressions.apply_exp.Goals as goal

pub returns-in_default : goal.returns-in_default
returns-in_default c = record { given = tt; refused = not-arrow c.node.result.now c.plain.result.now c.args.function.ty c.args.arg.ty c.in_ok-share.field-0 c.node.ensures c.plain.ensures c.in_default.not-Arrow c.in_ok-share.ensures }

pub returns-in_err-expect_same-clause-refused : goal.returns-in_err-expect_same-clause-refused
returns-in_err-expect_same-clause-refused c =
    let function = c.args.function.ty in
    let arg = c.args.arg.ty in
    let taken = c.in_ok-part.field-0 in
    let form : function ≡ Ty.Arrow c.in-Arrow.from c.in-Arrow.to = sym c.plain.ensures ∙ (sym c.node.ensures ∙ ap ty_of c.in-Arrow.is) in
    exit (arg ≢ taken) (Differ arg taken) (CallRefuses function arg) (λ n. call-differs function arg c.in-Arrow.from c.in-Arrow.to taken form c.in_ok-part.ensures n) c.from_residual-in_err-expect_same.result c.in_err-expect_same.field-0.0 c.from_residual-in_err-expect_same.ensures.1 c.in_err-expect_same.ensures.refused

pub returns-clause-given : goal.returns-clause-given
returns-clause-given c =
    let function = c.args.function.ty in
    let arg = c.args.arg.ty in
    let form : function ≡ Ty.Arrow c.in-Arrow.from c.in-Arrow.to = sym c.plain.ensures ∙ (sym c.node.ensures ∙ ap ty_of c.in-Arrow.is) in
    call-given function arg c.in-Arrow.from c.in-Arrow.to c.in_ok-part.field-0 c.in_ok-ty.ty c.args.function.term c.args.arg.term c.in_ok-term.term form c.in_ok-part.ensures c.in_ok-expect_same.ensures.ok c.in_ok-ty.ensures c.in_ok-term.ensures
