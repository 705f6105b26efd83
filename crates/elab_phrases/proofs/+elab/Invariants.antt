use Rattle.std.proofs.Common.{◌*◌, ◌+◌}
use Rattle.fing_syntax.specs.Inner.Size.{mod_size, bind_size, binds_size, sig_size, decl_size, decls_size, ty_size, tys_size, field_tys_size, exp_size, ops_size, args_size, field_exps_size, branches_size}
use Rattle.fing_syntax.specs.Inner.View.{args, binds, branches, decls, field_exps, field_tys, ops, tys}
use Rattle.elab_phrases.proofs.+elab.Given as goal

abbrev pub decreases-types::ty : goal.decreases-types::ty
decreases-types::ty l = 4 * ty_size l.phrase.now

abbrev pub decreases-types::value_ty : goal.decreases-types::value_ty
decreases-types::value_ty l = 4 * ty_size l.phrase.now + 1

abbrev pub decreases-types::ty_arrow : goal.decreases-types::ty_arrow
decreases-types::ty_arrow l = 4 * (ty_size l.from.now + ty_size l.to.now) + 2

abbrev pub decreases-types::ty_apply : goal.decreases-types::ty_apply
decreases-types::ty_apply l = 4 * (ty_size l.operator.now + tys_size (tys l.args.now)) + 3

abbrev pub decreases-types::ty_args : goal.decreases-types::ty_args
decreases-types::ty_args l = 4 * tys_size (tys l.args.now) + 2

abbrev pub decreases-types::ty_record : goal.decreases-types::ty_record
decreases-types::ty_record l = 4 * field_tys_size (field_tys l.fields.now) + 3

abbrev pub decreases-types::ty_fields : goal.decreases-types::ty_fields
decreases-types::ty_fields l = 4 * field_tys_size (field_tys l.fields.now) + 2

abbrev pub decreases-types::ty_under : goal.decreases-types::ty_under
decreases-types::ty_under l = 4 * ty_size l.body.now + 1

abbrev pub decreases-types::ty_all : goal.decreases-types::ty_all
decreases-types::ty_all l = 4 * ty_size l.body.now + 2

abbrev pub decreases-types::ty_lam : goal.decreases-types::ty_lam
decreases-types::ty_lam l = 4 * ty_size l.body.now + 2

abbrev pub decreases-uses::path_type : goal.decreases-uses::path_type
decreases-uses::path_type l = 4 * mod_size l.path.now + 1

abbrev pub decreases-uses::pack_type : goal.decreases-uses::pack_type
decreases-uses::pack_type l = 4 * sig_size l.by.now + 1

abbrev pub decreases-uses::path_value : goal.decreases-uses::path_value
decreases-uses::path_value l = 4 * mod_size l.path.now + 1

abbrev pub decreases-uses::pack_value : goal.decreases-uses::pack_value
decreases-uses::pack_value l = 4 * sig_size l.by.now + 1

abbrev pub decreases-expressions::exp : goal.decreases-expressions::exp
decreases-expressions::exp l = 4 * exp_size l.phrase.now

abbrev pub decreases-expressions::exp_under : goal.decreases-expressions::exp_under
decreases-expressions::exp_under l = 4 * exp_size l.body.now + 1

abbrev pub decreases-expressions::exp_lam : goal.decreases-expressions::exp_lam
decreases-expressions::exp_lam l = 4 * (ty_size l.param.now + exp_size l.body.now) + 2

abbrev pub decreases-expressions::exp_ty_lam : goal.decreases-expressions::exp_ty_lam
decreases-expressions::exp_ty_lam l = 4 * exp_size l.body.now + 2

abbrev pub decreases-expressions::exp_fix : goal.decreases-expressions::exp_fix
decreases-expressions::exp_fix l = 4 * (ty_size l.param.now + ty_size l.target.now + exp_size l.body.now) + 2

abbrev pub decreases-expressions::exp_if : goal.decreases-expressions::exp_if
decreases-expressions::exp_if l = 4 * (exp_size l.test.now + exp_size l.yes.now + exp_size l.no.now) + 2

abbrev pub decreases-expressions::exp_ops : goal.decreases-expressions::exp_ops
decreases-expressions::exp_ops l = 4 * (exp_size l.first.now + ops_size (ops l.rest.now)) + 3

abbrev pub decreases-expressions::operands : goal.decreases-expressions::operands
decreases-expressions::operands l = 4 * ops_size (ops l.rest.now) + 2

abbrev pub decreases-expressions::exp_apply : goal.decreases-expressions::exp_apply
decreases-expressions::exp_apply l = 4 * (exp_size l.function.now + args_size (args l.args.now)) + 3

abbrev pub decreases-expressions::arguments : goal.decreases-expressions::arguments
decreases-expressions::arguments l = 4 * args_size (args l.args.now) + 2

abbrev pub decreases-expressions::exp_record : goal.decreases-expressions::exp_record
decreases-expressions::exp_record l = 4 * field_exps_size (field_exps l.fields.now) + 3

abbrev pub decreases-expressions::exp_fields : goal.decreases-expressions::exp_fields
decreases-expressions::exp_fields l = 4 * field_exps_size (field_exps l.fields.now) + 2

abbrev pub decreases-expressions::exp_get : goal.decreases-expressions::exp_get
decreases-expressions::exp_get l = 4 * exp_size l.whole.now + 2

abbrev pub decreases-sigs::sig : goal.decreases-sigs::sig
decreases-sigs::sig l = 4 * sig_size l.phrase.now

abbrev pub decreases-sigs::path_sig : goal.decreases-sigs::path_sig
decreases-sigs::path_sig l = 4 * mod_size l.path.now + 1

abbrev pub decreases-sigs::sig_decls : goal.decreases-sigs::sig_decls
decreases-sigs::sig_decls l = 4 * decls_size (decls l.list.now) + 3

abbrev pub decreases-sigs::sig_under : goal.decreases-sigs::sig_under
decreases-sigs::sig_under l = 4 * sig_size l.body.now + 1

abbrev pub decreases-sigs::sig_fun : goal.decreases-sigs::sig_fun
decreases-sigs::sig_fun l = 4 * (sig_size l.param.now + sig_size l.target.now) + 2

abbrev pub decreases-sigs::sig_refine : goal.decreases-sigs::sig_refine
decreases-sigs::sig_refine l = 4 * (sig_size l.whole.now + ty_size l.by.now) + 2

abbrev pub decreases-declarations::decl : goal.decreases-declarations::decl
decreases-declarations::decl l = 4 * decl_size l.phrase.now

abbrev pub decreases-declarations::decl_val : goal.decreases-declarations::decl_val
decreases-declarations::decl_val l = 4 * ty_size l.of.now + 1

abbrev pub decreases-declarations::decl_is : goal.decreases-declarations::decl_is
decreases-declarations::decl_is l = 4 * ty_size l.of.now + 1

abbrev pub decreases-declarations::decl_module : goal.decreases-declarations::decl_module
decreases-declarations::decl_module l = 4 * sig_size l.of.now + 1

abbrev pub decreases-declarations::decl_signature : goal.decreases-declarations::decl_signature
decreases-declarations::decl_signature l = 4 * sig_size l.of.now + 1

abbrev pub decreases-declarations::decl_include : goal.decreases-declarations::decl_include
decreases-declarations::decl_include l = 4 * sig_size l.of.now + 1

abbrev pub decreases-declarations::decls : goal.decreases-declarations::decls
decreases-declarations::decls l = 4 * decls_size (decls l.list.now) + 2

abbrev pub decreases-declarations::decls_under : goal.decreases-declarations::decls_under
decreases-declarations::decls_under l = 4 * decls_size (decls l.rest.now) + 3

abbrev pub decreases-modules::module : goal.decreases-modules::module
decreases-modules::module l = 4 * mod_size l.phrase.now

abbrev pub decreases-modules::mod_struct : goal.decreases-modules::mod_struct
decreases-modules::mod_struct l = 4 * binds_size (binds l.list.now) + 3

abbrev pub decreases-modules::mod_project : goal.decreases-modules::mod_project
decreases-modules::mod_project l = 4 * mod_size l.whole.now + 1

abbrev pub decreases-modules::mod_under : goal.decreases-modules::mod_under
decreases-modules::mod_under l = 4 * mod_size l.body.now + 1

abbrev pub decreases-modules::mod_functor : goal.decreases-modules::mod_functor
decreases-modules::mod_functor l = 4 * (sig_size l.param.now + mod_size l.body.now) + 2

abbrev pub decreases-modules::mod_seal : goal.decreases-modules::mod_seal
decreases-modules::mod_seal l = 4 * sig_size l.by.now + 1

abbrev pub decreases-modules::mod_unpack : goal.decreases-modules::mod_unpack
decreases-modules::mod_unpack l = 4 * (exp_size l.value.now + sig_size l.by.now) + 1

abbrev pub decreases-bindings::binds : goal.decreases-bindings::binds
decreases-bindings::binds l = 4 * binds_size (binds l.list.now) + 2

abbrev pub decreases-bindings::gathered : goal.decreases-bindings::gathered
decreases-bindings::gathered l = 4 * binds_size (binds l.list.now) + 1

abbrev pub decreases-bindings::binds_under : goal.decreases-bindings::binds_under
decreases-bindings::binds_under l = 4 * binds_size (binds l.rest.now) + 2

abbrev pub decreases-bindings::included : goal.decreases-bindings::included
decreases-bindings::included l = 4 * (mod_size l.whole.now + binds_size (binds l.rest.now)) + 4

abbrev pub decreases-bindings::included_under : goal.decreases-bindings::included_under
decreases-bindings::included_under l = 4 * binds_size (binds l.rest.now) + 2

abbrev pub decreases-bindings::bind : goal.decreases-bindings::bind
decreases-bindings::bind l = 4 * bind_size l.phrase.now

abbrev pub decreases-types::ty_arg : goal.decreases-types::ty_arg
decreases-types::ty_arg l = 4 * (ty_size l.first.now + tys_size (tys l.rest.now)) + 3

abbrev pub decreases-types::ty_field : goal.decreases-types::ty_field
decreases-types::ty_field l = 4 * (ty_size l.first.now.1 + field_tys_size (field_tys l.rest.now)) + 3

abbrev pub decreases-expressions::operand : goal.decreases-expressions::operand
decreases-expressions::operand l = 4 * (exp_size l.first.now.1 + ops_size (ops l.rest.now)) + 3

abbrev pub decreases-expressions::value_argument : goal.decreases-expressions::value_argument
decreases-expressions::value_argument l = 4 * (exp_size l.first.now + args_size (args l.rest.now)) + 3

abbrev pub decreases-expressions::type_argument : goal.decreases-expressions::type_argument
decreases-expressions::type_argument l = 4 * (ty_size l.first.now + args_size (args l.rest.now)) + 3

abbrev pub decreases-expressions::exp_field : goal.decreases-expressions::exp_field
decreases-expressions::exp_field l = 4 * (exp_size l.first.now.1 + field_exps_size (field_exps l.rest.now)) + 3

abbrev pub decreases-bindings::binds_from : goal.decreases-bindings::binds_from
decreases-bindings::binds_from l = 4 * (bind_size l.first.now + binds_size (binds l.rest.now)) + 4

abbrev pub decreases-bindings::bound : goal.decreases-bindings::bound
decreases-bindings::bound l = 4 * (bind_size l.first.now + binds_size (binds l.rest.now)) + 3

abbrev pub decreases-types::ty_sum : goal.decreases-types::ty_sum
decreases-types::ty_sum l = 4 * field_tys_size (field_tys l.labels.now) + 3

abbrev pub decreases-types::ty_mu : goal.decreases-types::ty_mu
decreases-types::ty_mu l = 4 * ty_size l.body.now + 2

abbrev pub decreases-sums::exp_inj : goal.decreases-sums::exp_inj
decreases-sums::exp_inj l = 4 * (exp_size l.value.now + ty_size l.target.now) + 2

abbrev pub decreases-sums::exp_case : goal.decreases-sums::exp_case
decreases-sums::exp_case l = 4 * (exp_size l.whole.now + ty_size l.target.now + branches_size (branches l.branches.now)) + 3

abbrev pub decreases-sums::case_branches : goal.decreases-sums::case_branches
decreases-sums::case_branches l = 4 * branches_size (branches l.branches.now) + 2

abbrev pub decreases-sums::case_branch : goal.decreases-sums::case_branch
decreases-sums::case_branch l = 4 * (exp_size l.first.now.body + branches_size (branches l.rest.now)) + 3

abbrev pub decreases-sums::exp_roll : goal.decreases-sums::exp_roll
decreases-sums::exp_roll l = 4 * (exp_size l.value.now + ty_size l.target.now) + 2

abbrev pub decreases-sums::exp_unroll : goal.decreases-sums::exp_unroll
decreases-sums::exp_unroll l = 4 * exp_size l.whole.now + 2
