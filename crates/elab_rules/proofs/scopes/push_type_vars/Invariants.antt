use Rattle.std.proofs.Common.{◌≡◌, drop, map}
use Rattle.omega_kinds.specs.View.{kind_tree}
use Rattle.sig_definitions.specs.Env.{type_vars}
use Rattle.elab_rules.proofs.scopes.push_type_vars.Given as goal

abbrev pub invariant-loop-kind : goal.invariant-loop-kind
invariant-loop-kind l = type_vars l.env (map kind_tree (drop l.kind-index l.kind-items)) ≡ type_vars l.initial.env (map kind_tree l.kind-items)
