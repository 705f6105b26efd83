use Rattle.std.proofs.Common.{◌≢◌}
use Rattle.omega_kinds.specs.Kind.{Kind}
use Rattle.omega_kinds.specs.View.{kind_tree}
use Rattle.sig_judgments.specs.SigRules.{ValueGives, ValueRefuses}
use Rattle.sig_judgments.specs.SigWhy.{KindDiffer}
use Rattle.sig_rules.proofs.Declared.{exit}
use Rattle.sig_rules.proofs.declarations.decl_val.Goals as goal

pub returns-in_err-expect_star-clause-refused : goal.returns-in_err-expect_star-clause-refused
returns-in_err-expect_star-clause-refused c =
    let ty = c.args.ty.now in
    exit (kind_tree ty.kind ≢ Kind.Star) (KindDiffer (kind_tree ty.kind) Kind.Star) (ValueRefuses ty.ty (kind_tree ty.kind)) (λ n. ValueRefuses.kind n) c.from_residual.result c.in_err-expect_star.field-0.0 c.from_residual.ensures.1 c.in_err-expect_star.ensures.refused

pub returns-clause-given : goal.returns-clause-given
returns-clause-given c = rw (c.in_ok-expect_star.ensures.ok, c.in_ok-one_part.ensures, c.new.ensures, c.in_ok-part.ensures, c.in_ok-share.ensures) ValueGives.value
