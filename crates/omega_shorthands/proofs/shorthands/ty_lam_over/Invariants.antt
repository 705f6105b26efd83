use Rattle.std.proofs.Common.{◌≡◌, ◌≤◌, length, map, take}
use Rattle.omega_kinds.specs.View.{kind_tree}
use Rattle.omega_terms.specs.Shorthands.{ty_lam_over}
use Rattle.omega_shorthands.proofs.shorthands.ty_lam_over.Given as goal

abbrev pub invariant-loop-left : goal.invariant-loop-left
invariant-loop-left l =
    (l.left ≤ length l.kinds) × (ty_lam_over (map kind_tree (take l.left l.kinds)) l.term ≡ ty_lam_over (map kind_tree l.kinds) l.fn.body)

abbrev pub decreases-loop-left : goal.decreases-loop-left
decreases-loop-left l = l.left
