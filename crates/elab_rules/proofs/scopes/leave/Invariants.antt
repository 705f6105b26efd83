use Rattle.std.proofs.Common.{◌≡◌, drop}
use Rattle.elab_rules.proofs.scopes.leave.Given as goal

abbrev pub invariant-loop-step : goal.invariant-loop-step
invariant-loop-step l = l.env ≡ drop l.step l.initial.env
