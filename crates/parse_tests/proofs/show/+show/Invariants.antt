use Rattle.std.proofs.Common.{◌≤◌, drop}
use Rattle.fing_syntax.specs.Inner.Size.{mod_size, bind_size, binds_size, sig_size, decl_size, decls_size, ty_size, tys_size, field_tys_size, exp_size, ops_size, args_size, field_exps_size, branches_size}
use Rattle.fing_syntax.specs.Inner.View.{binds, decls, tys, field_tys, ops, args, field_exps, branches}
use Rattle.parse_tests.proofs.show.+show.Given as goal

abbrev pub decreases-module : goal.decreases-module
decreases-module l = mod_size l.node.now

abbrev pub decreases-binds : goal.decreases-binds
decreases-binds l = binds_size (binds l.all.now)

abbrev pub decreases-bind : goal.decreases-bind
decreases-bind l = bind_size l.node.now

abbrev pub decreases-sig : goal.decreases-sig
decreases-sig l = sig_size l.node.now

abbrev pub decreases-decls : goal.decreases-decls
decreases-decls l = decls_size (decls l.all.now)

abbrev pub decreases-decl : goal.decreases-decl
decreases-decl l = decl_size l.node.now

abbrev pub decreases-ty : goal.decreases-ty
decreases-ty l = ty_size l.node.now

abbrev pub decreases-tys : goal.decreases-tys
decreases-tys l = tys_size (tys l.all.now)

abbrev pub decreases-field_tys : goal.decreases-field_tys
decreases-field_tys l = field_tys_size (field_tys l.all.now)

abbrev pub decreases-exp : goal.decreases-exp
decreases-exp l = exp_size l.node.now

abbrev pub decreases-ops : goal.decreases-ops
decreases-ops l = ops_size (ops l.all.now)

abbrev pub decreases-args : goal.decreases-args
decreases-args l = args_size (args l.all.now)

abbrev pub decreases-field_exps : goal.decreases-field_exps
decreases-field_exps l = field_exps_size (field_exps l.all.now)

abbrev pub decreases-branches : goal.decreases-branches
decreases-branches l = branches_size (branches l.all.now)

abbrev pub invariant-binds-loop-item : goal.invariant-binds-loop-item
invariant-binds-loop-item l = binds_size (binds (drop l.item-index l.all)) ≤ binds_size (binds l.all)

abbrev pub invariant-decls-loop-item : goal.invariant-decls-loop-item
invariant-decls-loop-item l = decls_size (decls (drop l.item-index l.all)) ≤ decls_size (decls l.all)

abbrev pub invariant-tys-loop-item : goal.invariant-tys-loop-item
invariant-tys-loop-item l = tys_size (tys (drop l.item-index l.all)) ≤ tys_size (tys l.all)

abbrev pub invariant-field_tys-loop-item : goal.invariant-field_tys-loop-item
invariant-field_tys-loop-item l = field_tys_size (field_tys (drop l.item-index l.all)) ≤ field_tys_size (field_tys l.all)

abbrev pub invariant-ops-loop-item : goal.invariant-ops-loop-item
invariant-ops-loop-item l = ops_size (ops (drop l.item-index l.all)) ≤ ops_size (ops l.all)

abbrev pub invariant-args-loop-item : goal.invariant-args-loop-item
invariant-args-loop-item l = args_size (args (drop l.item-index l.all)) ≤ args_size (args l.all)

abbrev pub invariant-field_exps-loop-item : goal.invariant-field_exps-loop-item
invariant-field_exps-loop-item l = field_exps_size (field_exps (drop l.item-index l.all)) ≤ field_exps_size (field_exps l.all)

abbrev pub invariant-branches-loop-item : goal.invariant-branches-loop-item
invariant-branches-loop-item l = branches_size (branches (drop l.item-index l.all)) ≤ branches_size (branches l.all)
