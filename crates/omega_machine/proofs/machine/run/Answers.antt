use Rattle.std.proofs.lemmas.Result.{IfOk-weaker}
use Rattle.std.proofs.Common.{subst}
use Rattle.omega_machine.specs.Inner.Outcomes.{Tells}
use Rattle.omega_machine.proofs.Runs.{spent-exactly, one-outcome, not-stuck, values-fit}
use Rattle.omega_machine.proofs.machine.run.Goals as goal

pub returns-clause-spent : goal.returns-clause-spent
returns-clause-spent c =
    IfOk-weaker _ _ _ (λ a h. spent-exactly c.args.checked.now.term c.args.checked.now.ty c.args.budget a c.term-term.ensures.typed (subst (λ e. Tells e c.args.budget a) c.term-term.ensures.term h)) c.reduce_within.ensures

pub returns-clause-one : goal.returns-clause-one
returns-clause-one c = one-outcome c.args.checked.now.term c.args.budget

pub returns-clause-never_stuck : goal.returns-clause-never_stuck
returns-clause-never_stuck c = not-stuck c.args.checked.now.term c.args.checked.now.ty c.term-term.ensures.typed

pub returns-clause-values : goal.returns-clause-values
returns-clause-values c = values-fit c.args.checked.now.term c.args.checked.now.ty c.term-term.ensures.typed
