use Rattle.std.proofs.Common.{◌≡◌, drop}
use Rattle.unit_judgments.specs.Interfaces.{with_interfaces}
use Rattle.fing_units.proofs.scopes.env_of.Given as goal

abbrev pub invariant-loop-item : goal.invariant-loop-item
invariant-loop-item l = with_interfaces l.env (drop l.item-index l.item-items) ≡ with_interfaces l.initial.env l.item-items
