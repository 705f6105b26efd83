use Rattle.std.proofs.Common.{ℕ, ◌<◌, map}
use Rattle.omega_kinds.specs.View.{kind_tree}
use Rattle.sig_rules.specs.Inner.Hidden.{IsOwn}
use Rattle.sig_rules.proofs.refinement.own_place.Given as goal

abbrev pub invariant-loop-place : goal.invariant-loop-place
invariant-loop-place l = (p : ℕ) → p < l.place → IsOwn (map kind_tree l.kinds) p l.shown → ⊥
