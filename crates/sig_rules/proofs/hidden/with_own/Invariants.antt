use Rattle.std.proofs.Common.{◌≡◌, ◌+◌, ◌∷◌, ◌++◌, drop, length, map}
use Rattle.omega_kinds.specs.View.{kind_tree}
use Rattle.omega_types.specs.Binders.{vars}
use Rattle.sig_rules.proofs.hidden.with_own.Given as goal

abbrev pub invariant-loop-kind : goal.invariant-loop-kind
invariant-loop-kind l = (l.types ++ vars (map kind_tree (drop l.kind-index l.later)) ≡ l.fn.first ∷ vars (map kind_tree l.later)) × (l.index + l.kind-index ≡ length l.later)
