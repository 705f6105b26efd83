use Rattle.std.proofs.Common.{◌≡◌, ◌+◌, ◌++◌, length, map, drop}
use Rattle.omega_kinds.specs.View.{kind_tree}
use Rattle.omega_types.specs.Binders.{vars}
use Rattle.module_rules.proofs.hidden.own_types.Given as goal

abbrev pub invariant-loop-kind : goal.invariant-loop-kind
invariant-loop-kind l = record {
  left : l.inner + l.kind-index ≡ length l.list;
  built : l.types ++ vars (map kind_tree (drop l.kind-index l.list)) ≡ vars (map kind_tree l.list);
}
