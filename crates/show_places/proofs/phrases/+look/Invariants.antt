use Rattle.std.proofs.Common.{◌*◌, ◌+◌, ◌≤◌, drop}
use Rattle.fing_syntax.specs.Inner.Size.{mod_size, bind_size, binds_size, sig_size, decl_size, decls_size, ty_size, tys_size, field_tys_size, exp_size, ops_size, args_size, field_exps_size, branches_size}
use Rattle.fing_syntax.specs.Inner.View.{args, binds, branches, decls, field_exps, field_tys, ops, tys}
use Rattle.show_places.proofs.phrases.+look.Given as goal

abbrev pub decreases-look_bind : goal.decreases-look_bind
decreases-look_bind l = 4 * bind_size l.bind.now

abbrev pub decreases-look_mod : goal.decreases-look_mod
decreases-look_mod l = 4 * mod_size l.module.now

abbrev pub decreases-look_sig : goal.decreases-look_sig
decreases-look_sig l = 4 * sig_size l.sig.now

abbrev pub decreases-look_decl : goal.decreases-look_decl
decreases-look_decl l = 4 * decl_size l.decl.now

abbrev pub decreases-look_ty : goal.decreases-look_ty
decreases-look_ty l = 4 * ty_size l.ty.now + 1

abbrev pub decreases-look_in_ty : goal.decreases-look_in_ty
decreases-look_in_ty l = 4 * ty_size l.ty.now

abbrev pub decreases-look_exp : goal.decreases-look_exp
decreases-look_exp l = 4 * exp_size l.exp.now + 1

abbrev pub decreases-look_more : goal.decreases-look_more
decreases-look_more l = 4 * exp_size l.exp.now

abbrev pub decreases-look_binds : goal.decreases-look_binds
decreases-look_binds l = 4 * binds_size (binds l.binds.now)

abbrev pub invariant-look_binds-loop-bind : goal.invariant-look_binds-loop-bind
invariant-look_binds-loop-bind l = binds_size (binds (drop l.bind-index l.binds)) ≤ binds_size (binds l.binds)

abbrev pub decreases-look_decls : goal.decreases-look_decls
decreases-look_decls l = 4 * decls_size (decls l.decls.now)

abbrev pub invariant-look_decls-loop-decl : goal.invariant-look_decls-loop-decl
invariant-look_decls-loop-decl l = decls_size (decls (drop l.decl-index l.decls)) ≤ decls_size (decls l.decls)

abbrev pub decreases-look_tys : goal.decreases-look_tys
decreases-look_tys l = 4 * tys_size (tys l.types.now)

abbrev pub invariant-look_tys-loop-ty : goal.invariant-look_tys-loop-ty
invariant-look_tys-loop-ty l = tys_size (tys (drop l.ty-index l.types)) ≤ tys_size (tys l.types)

abbrev pub decreases-look_ty_fields : goal.decreases-look_ty_fields
decreases-look_ty_fields l = 4 * field_tys_size (field_tys l.fields.now)

abbrev pub invariant-look_ty_fields-loop-field : goal.invariant-look_ty_fields-loop-field
invariant-look_ty_fields-loop-field l = field_tys_size (field_tys (drop l.field-index l.fields)) ≤ field_tys_size (field_tys l.fields)

abbrev pub decreases-look_operands : goal.decreases-look_operands
decreases-look_operands l = 4 * ops_size (ops l.operands.now)

abbrev pub invariant-look_operands-loop-operand : goal.invariant-look_operands-loop-operand
invariant-look_operands-loop-operand l = ops_size (ops (drop l.operand-index l.operands)) ≤ ops_size (ops l.operands)

abbrev pub decreases-look_args : goal.decreases-look_args
decreases-look_args l = 4 * args_size (args l.arguments.now)

abbrev pub invariant-look_args-loop-argument : goal.invariant-look_args-loop-argument
invariant-look_args-loop-argument l = args_size (args (drop l.argument-index l.arguments)) ≤ args_size (args l.arguments)

abbrev pub decreases-look_fields : goal.decreases-look_fields
decreases-look_fields l = 4 * field_exps_size (field_exps l.fields.now)

abbrev pub invariant-look_fields-loop-field : goal.invariant-look_fields-loop-field
invariant-look_fields-loop-field l = field_exps_size (field_exps (drop l.field-index l.fields)) ≤ field_exps_size (field_exps l.fields)

abbrev pub decreases-look_branches : goal.decreases-look_branches
decreases-look_branches l = 4 * branches_size (branches l.branches.now)

abbrev pub invariant-look_branches-loop-branch : goal.invariant-look_branches-loop-branch
invariant-look_branches-loop-branch l = branches_size (branches (drop l.branch-index l.branches)) ≤ branches_size (branches l.branches)
