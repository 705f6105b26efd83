use Rattle.std.proofs.Common.{◌*◌, ◌+◌, ◌≤◌, drop}
use Rattle.fing_syntax.specs.Inner.Size.{mod_size, bind_size, binds_size, sig_size, decl_size, decls_size, ty_size, tys_size, field_tys_size, exp_size, ops_size, args_size, field_exps_size, branches_size}
use Rattle.fing_syntax.specs.Inner.View.{args, binds, branches, decls, field_exps, field_tys, ops, tys}
use Rattle.show_rules.proofs.walk.+walk.Given as goal

abbrev pub decreases-walk_bind : goal.decreases-walk_bind
decreases-walk_bind l = 4 * bind_size l.bind.now

abbrev pub decreases-walk_mod : goal.decreases-walk_mod
decreases-walk_mod l = 4 * mod_size l.module.now

abbrev pub decreases-walk_sig : goal.decreases-walk_sig
decreases-walk_sig l = 4 * sig_size l.sig.now

abbrev pub decreases-walk_decl : goal.decreases-walk_decl
decreases-walk_decl l = 4 * decl_size l.decl.now

abbrev pub decreases-walk_ty : goal.decreases-walk_ty
decreases-walk_ty l = 4 * ty_size l.ty.now

abbrev pub decreases-walk_exp : goal.decreases-walk_exp
decreases-walk_exp l = 4 * exp_size l.exp.now + 1

abbrev pub decreases-walk_more : goal.decreases-walk_more
decreases-walk_more l = 4 * exp_size l.exp.now

abbrev pub decreases-walk_under : goal.decreases-walk_under
decreases-walk_under l = 4 * exp_size l.body.now + 2

abbrev pub decreases-walk_binds : goal.decreases-walk_binds
decreases-walk_binds l = 4 * binds_size (binds l.binds.now)

abbrev pub invariant-walk_binds-loop-bind : goal.invariant-walk_binds-loop-bind
invariant-walk_binds-loop-bind l = binds_size (binds (drop l.bind-index l.binds)) ≤ binds_size (binds l.binds)

abbrev pub decreases-walk_decls : goal.decreases-walk_decls
decreases-walk_decls l = 4 * decls_size (decls l.decls.now)

abbrev pub invariant-walk_decls-loop-decl : goal.invariant-walk_decls-loop-decl
invariant-walk_decls-loop-decl l = decls_size (decls (drop l.decl-index l.decls)) ≤ decls_size (decls l.decls)

abbrev pub decreases-walk_tys : goal.decreases-walk_tys
decreases-walk_tys l = 4 * tys_size (tys l.types.now)

abbrev pub invariant-walk_tys-loop-ty : goal.invariant-walk_tys-loop-ty
invariant-walk_tys-loop-ty l = tys_size (tys (drop l.ty-index l.types)) ≤ tys_size (tys l.types)

abbrev pub decreases-walk_ty_fields : goal.decreases-walk_ty_fields
decreases-walk_ty_fields l = 4 * field_tys_size (field_tys l.fields.now)

abbrev pub invariant-walk_ty_fields-loop-field : goal.invariant-walk_ty_fields-loop-field
invariant-walk_ty_fields-loop-field l = field_tys_size (field_tys (drop l.field-index l.fields)) ≤ field_tys_size (field_tys l.fields)

abbrev pub decreases-walk_operands : goal.decreases-walk_operands
decreases-walk_operands l = 4 * ops_size (ops l.operands.now)

abbrev pub invariant-walk_operands-loop-operand : goal.invariant-walk_operands-loop-operand
invariant-walk_operands-loop-operand l = ops_size (ops (drop l.operand-index l.operands)) ≤ ops_size (ops l.operands)

abbrev pub decreases-walk_args : goal.decreases-walk_args
decreases-walk_args l = 4 * args_size (args l.arguments.now)

abbrev pub invariant-walk_args-loop-argument : goal.invariant-walk_args-loop-argument
invariant-walk_args-loop-argument l = args_size (args (drop l.argument-index l.arguments)) ≤ args_size (args l.arguments)

abbrev pub decreases-walk_fields : goal.decreases-walk_fields
decreases-walk_fields l = 4 * field_exps_size (field_exps l.fields.now)

abbrev pub invariant-walk_fields-loop-field : goal.invariant-walk_fields-loop-field
invariant-walk_fields-loop-field l = field_exps_size (field_exps (drop l.field-index l.fields)) ≤ field_exps_size (field_exps l.fields)

abbrev pub decreases-walk_branches : goal.decreases-walk_branches
decreases-walk_branches l = 4 * branches_size (branches l.branches.now)

abbrev pub invariant-walk_branches-loop-branch : goal.invariant-walk_branches-loop-branch
invariant-walk_branches-loop-branch l = branches_size (branches (drop l.branch-index l.branches)) ≤ branches_size (branches l.branches)
