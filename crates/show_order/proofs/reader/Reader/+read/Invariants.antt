use Rattle.std.proofs.Common.{◌*◌, ◌+◌, ◌≤◌, drop}
use Rattle.fing_syntax.specs.Inner.Size.{mod_size, bind_size, binds_size, sig_size, decl_size, decls_size, ty_size, tys_size, field_tys_size, exp_size, ops_size, args_size, field_exps_size, branches_size}
use Rattle.fing_syntax.specs.Inner.View.{args, binds, branches, decls, field_exps, field_tys, ops, tys}
use Rattle.show_order.proofs.reader.Reader.+read.Given as goal

abbrev pub decreases-read_mod : goal.decreases-read_mod
decreases-read_mod l = 4 * mod_size l.module.now

abbrev pub decreases-read_parameter : goal.decreases-read_parameter
decreases-read_parameter l = 4 * sig_size l.param.now + 1

abbrev pub decreases-read_sealing : goal.decreases-read_sealing
decreases-read_sealing l = 4 * sig_size l.sig.now + 1

abbrev pub decreases-read_bind : goal.decreases-read_bind
decreases-read_bind l = 4 * bind_size l.bind.now

abbrev pub decreases-read_sig : goal.decreases-read_sig
decreases-read_sig l = 4 * sig_size l.sig.now

abbrev pub decreases-read_decl : goal.decreases-read_decl
decreases-read_decl l = 4 * decl_size l.decl.now

abbrev pub decreases-read_ty : goal.decreases-read_ty
decreases-read_ty l = 4 * ty_size l.ty.now

abbrev pub decreases-read_exp : goal.decreases-read_exp
decreases-read_exp l = 4 * exp_size l.exp.now + 1

abbrev pub decreases-read_more : goal.decreases-read_more
decreases-read_more l = 4 * exp_size l.exp.now

abbrev pub decreases-read_binds : goal.decreases-read_binds
decreases-read_binds l = 4 * binds_size (binds l.binds.now)

abbrev pub invariant-read_binds-loop-bind : goal.invariant-read_binds-loop-bind
invariant-read_binds-loop-bind l = binds_size (binds (drop l.bind-index l.binds)) ≤ binds_size (binds l.binds)

abbrev pub decreases-read_decls : goal.decreases-read_decls
decreases-read_decls l = 4 * decls_size (decls l.decls.now)

abbrev pub invariant-read_decls-loop-decl : goal.invariant-read_decls-loop-decl
invariant-read_decls-loop-decl l = decls_size (decls (drop l.decl-index l.decls)) ≤ decls_size (decls l.decls)

abbrev pub decreases-read_tys : goal.decreases-read_tys
decreases-read_tys l = 4 * tys_size (tys l.types.now)

abbrev pub invariant-read_tys-loop-ty : goal.invariant-read_tys-loop-ty
invariant-read_tys-loop-ty l = tys_size (tys (drop l.ty-index l.types)) ≤ tys_size (tys l.types)

abbrev pub decreases-read_ty_fields : goal.decreases-read_ty_fields
decreases-read_ty_fields l = 4 * field_tys_size (field_tys l.fields.now)

abbrev pub invariant-read_ty_fields-loop-field : goal.invariant-read_ty_fields-loop-field
invariant-read_ty_fields-loop-field l = field_tys_size (field_tys (drop l.field-index l.fields)) ≤ field_tys_size (field_tys l.fields)

abbrev pub decreases-read_operands : goal.decreases-read_operands
decreases-read_operands l = 4 * ops_size (ops l.operands.now)

abbrev pub invariant-read_operands-loop-operand : goal.invariant-read_operands-loop-operand
invariant-read_operands-loop-operand l = ops_size (ops (drop l.operand-index l.operands)) ≤ ops_size (ops l.operands)

abbrev pub decreases-read_args : goal.decreases-read_args
decreases-read_args l = 4 * args_size (args l.arguments.now)

abbrev pub invariant-read_args-loop-argument : goal.invariant-read_args-loop-argument
invariant-read_args-loop-argument l = args_size (args (drop l.argument-index l.arguments)) ≤ args_size (args l.arguments)

abbrev pub decreases-read_fields : goal.decreases-read_fields
decreases-read_fields l = 4 * field_exps_size (field_exps l.fields.now)

abbrev pub invariant-read_fields-loop-field : goal.invariant-read_fields-loop-field
invariant-read_fields-loop-field l = field_exps_size (field_exps (drop l.field-index l.fields)) ≤ field_exps_size (field_exps l.fields)

abbrev pub decreases-read_branches : goal.decreases-read_branches
decreases-read_branches l = 4 * branches_size (branches l.branches.now)

abbrev pub invariant-read_branches-loop-branch : goal.invariant-read_branches-loop-branch
invariant-read_branches-loop-branch l = branches_size (branches (drop l.branch-index l.branches)) ≤ branches_size (branches l.branches)
