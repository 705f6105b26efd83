use Rattle.std.proofs.Common.{◌≡◌, refl}
use Rattle.std.specs.Prelude.{None}
use Rattle.parse_grammar.specs.Grammar as the
use Rattle.parse_stack.specs.Inner.Part.{held}
use Rattle.parse_stack.specs.Inner.Play.{played}
use Rattle.parse_forms.proofs.Chained.{if_err}
use Rattle.parse_productions.proofs.exps.fix.Goals as goal

pub returns-in_err-token-5-clause-misfit : goal.returns-in_err-token-5-clause-misfit
returns-in_err-token-5-clause-misfit c =
    let none : played the.exp_fix (held c.args.stack.now) ≡ None
    = rw (
      c.in_ok-word.ensures.part,
      c.in_ok-function.ensures.part,
      c.in_ok-token.ensures.part,
      c.in_ok-name.ensures.part,
      c.in_ok-token-2.ensures.part,
      c.in_ok-ty.ensures.part,
      c.in_ok-token-3.ensures.part,
      c.in_ok-token-4.ensures.part,
      c.in_ok-ty-2.ensures.part,
      c.in_err-token-5.ensures.misfit,
    ) refl in
    if_err c.from_residual-in_err-token-5.result (λ e m. none)

pub returns-in_err-body-clause-misfit : goal.returns-in_err-body-clause-misfit
returns-in_err-body-clause-misfit c =
    let none : played the.exp_fix (held c.args.stack.now) ≡ None
    = rw (
      c.in_ok-word.ensures.part,
      c.in_ok-function.ensures.part,
      c.in_ok-token.ensures.part,
      c.in_ok-name.ensures.part,
      c.in_ok-token-2.ensures.part,
      c.in_ok-ty.ensures.part,
      c.in_ok-token-3.ensures.part,
      c.in_ok-token-4.ensures.part,
      c.in_ok-ty-2.ensures.part,
      c.in_ok-token-5.ensures.part,
      c.in_err-body.ensures.misfit,
    ) refl in
    if_err c.from_residual-in_err-body.result (λ e m. none)
