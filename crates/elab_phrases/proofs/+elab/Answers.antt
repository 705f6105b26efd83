use Rattle.elab_laws.proofs.Kept.{sig_ok}
use Rattle.elab_judgments.specs.Judgments.Meaning.{ArgTysMean, ArgsMean, DeclMeans, OpsMean, SigMeans}
use Rattle.elab_judgments.specs.Judgments.Meaning.ArgTysMean.{next_arg, no_args}
use Rattle.elab_judgments.specs.Judgments.Meaning.ArgsMean.{next_type, next_value, no_arg}
use Rattle.elab_judgments.specs.Judgments.Meaning.BindMeans.{bind_module, bind_signature, bind_ty, bind_val}
use Rattle.elab_judgments.specs.Judgments.Meaning.ExpMeans.{exp_apply, exp_fix, exp_get, exp_if, exp_inj, exp_lam, exp_ops, exp_path, exp_roll, exp_ty_lam, exp_unroll}
use Rattle.elab_judgments.specs.Judgments.Meaning.ModMeans.{mod_project, mod_seal, mod_struct, mod_unpack}
use Rattle.elab_judgments.specs.Judgments.Meaning.OpsMean.{next_op, no_ops}
use Rattle.elab_judgments.specs.Judgments.Meaning.TyMeans.{ty_all, ty_apply, ty_arrow, ty_lam, ty_mu, ty_pack, ty_path}
use Rattle.elab_judgments.specs.Operators.{omega_op}
use Rattle.elab_judgments.specs.Refusals.Task.{binds as binds_task}
use Rattle.elab_phrases.proofs.ArgSteps.{applied-normal, args-at, called-normal, env-in, exp-normal, instance-normal, normal-in, operands-at, type-normal, type_args-at}
use Rattle.elab_phrases.proofs.BaseSteps.{bool-means, bool_exp-means, int-means, int_exp-means, text-means, text_exp-means}
use Rattle.elab_phrases.proofs.CaseSteps.{BranchesLeft, branch-env, branches-later, branches-next, branches-none, case-means, case-parts, case-rule}
use Rattle.elab_phrases.proofs.FieldSteps.{ExpsLeft, TypesLeft, exps-later, exps-next, exps-none, record-means, record-parts, record-rule, record_type-means, record_type-parts, record_type-rule, sum_type-means, sum_type-parts, sum_type-rule, types-later, types-next, types-none}
use Rattle.elab_phrases.proofs.FixSteps.{entered, fix-env-in, left, value-env-in}
use Rattle.elab_rules.proofs.Given.{err-at, err-map, exit, no_star, no_type, ok-at, ok-map, stays}
use Rattle.elab_phrases.proofs.Included.{bind-include, body-module, ended, include-in, include-joined, include-means, include-none, include-rest, include-size, included-env, included-names, left-included, left-under as mods-left-under, means-bind, placed-at, refused-bind}
use Rattle.elab_phrases.proofs.Means.{bind-env, bind-names, bind-rest, binds-in, decls-again-in, decls-in, functor-means, generative-means, joined, mod-kinded, mod_functor-in, param-env, refine-in, sig_fun-in}
use Rattle.elab_phrases.proofs.Moved.{injection-at, refused-in, roll-at, rule-at, test-at}
use Rattle.elab_rules.proofs.Refuse.Expressions.{arg-later, arg-no_arrow, arg-rule, arg-value, exp_apply-args, exp_apply-function, exp_field-again, exp_field-value, exp_fix-body, exp_fix-param, exp_fix-result, exp_fix-rule, exp_get-no_record, exp_get-record, exp_get-rule, exp_if-no, exp_if-rule, exp_if-test, exp_if-test_type, exp_if-yes, exp_lam-body, exp_lam-param, exp_lam-rule, exp_ops-first, exp_ops-rest, exp_pack-name, exp_pack-sig, exp_path-module, exp_path-use, exp_ty_lam-body, operand-later, operand-left, operand-right, operand-rule, ty_arg-later as exps-ty_arg-later, ty_arg-no_all, ty_arg-rule as exps-ty_arg-rule, ty_arg-type as exps-ty_arg-type}
use Rattle.elab_rules.proofs.Refuse.Modules.{bind_module-module, bind_signature-sig, bind_ty-type, bind_val-value, binds-first, include-module, mod_functor-param, mod_project-rule, mod_project-whole, mod_seal-match, mod_seal-name, mod_seal-sig, mod_struct-list, mod_unpack-rule, mod_unpack-sig, mod_unpack-value}
use Rattle.elab_rules.proofs.Refuse.Signatures.{decl_include-rule, decl_include-sig, decl_is-type, decl_module-sig, decl_signature-sig, decl_val-rule, decl_val-type, decls-first, sig_decls-list, sig_fun-param, sig_path-module, sig_path-use, sig_refine-sig, sig_refine-type}
use Rattle.elab_rules.proofs.Refuse.Sums.{branch-again, branch-body, branch-no_label, branch-type, exp_case-no_sum, exp_case-type, exp_case-whole, exp_inj-rule, exp_inj-type, exp_inj-value, exp_roll-rule, exp_roll-type, exp_roll-value, exp_unroll-rule, exp_unroll-value}
use Rattle.elab_rules.proofs.Refuse.Types.{ty_all-body, ty_all-rule, ty_apply-args, ty_apply-operator, ty_arg-later, ty_arg-no_operator, ty_arg-rule, ty_arg-type, ty_arrow-from, ty_arrow-rule, ty_arrow-to, ty_field-again, ty_field-type, ty_lam-body, ty_mu-body, ty_mu-rule, ty_pack-sig, ty_path-module, ty_path-use}
use Rattle.elab_rules.proofs.Ruled.{is-structure}
use Rattle.elab_phrases.proofs.SigLaws.{abstract-means, decl-body, decl-in, decls-mean, fields-env, left-decl, left-under, lifted-means, module-in, no-row, param-in, refused-row, row-means, row-size, sig-in}
use Rattle.elab_rules.proofs.Slices.{empty}
use Rattle.elab_phrases.proofs.UseSteps.{found-in, pack-means, pack-unmatched}
use Rattle.elab_phrases.specs.Inner.Rests.{RestMeans}
use Rattle.elab_rules.specs.Inner.Answered.{RefusedAs}
use Rattle.fing_syntax.specs.Inner.Leaves.{op_of, place, spelled}
use Rattle.fing_syntax.specs.Phrase.{BindAt, BindInclude, Exp, MoreBinds, Span}
use Rattle.fing_syntax.specs.Place.{exp_span, mod_span, sig_span, ty_span, up_to}
use Rattle.fing_syntax.specs.Inner.View.{args, binds, branches, field_exps, field_tys, ops, tys}
use Rattle.fing_syntax.specs.declared.leaf.Op.{Op as OpIn}
use Rattle.omega_kinds.specs.View.{kind_tree}
use Rattle.sig_premise_laws.proofs.Environments.{find-good}
use Rattle.semantic_sigs.specs.Inner.Fields.{sig_row}
use Rattle.semantic_sigs.specs.Inner.Made.{module_of}
use Rattle.semantic_sigs.specs.Inner.View.{kinds_of}
use Rattle.sig_definitions.specs.Env.{kinds, named_fields, type_vars}
use Rattle.std.proofs.Common.{ap, arith, length, refl, rules, subst, sym, ◌+◌, ◌∙◌}
use Rattle.std.proofs.lemmas.Int.{to_z-of_z}
use mir.Syntax.{w64}
use mir.Val.{SFits, of_z, to_z}
use Rattle.elab_phrases.proofs.+elab.Goals as goal

-- types of values

pub types::value_ty-returns-in_err-found-clause-refused : goal.types::value_ty-returns-in_err-found-clause-refused
types::value_ty-returns-in_err-found-clause-refused t c = exit _ c.from_residual.result c.in_err-found.field-0.0 c.from_residual.ensures.1 (no_type c.in_err-found.ensures.refused)

pub types::value_ty-returns-in_err-expect_star-clause-refused : goal.types::value_ty-returns-in_err-expect_star-clause-refused
types::value_ty-returns-in_err-expect_star-clause-refused t c = exit _ c.from_residual-in_err-expect_star.result c.in_err-expect_star.field-0.0 c.from_residual-in_err-expect_star.ensures.1 (no_star c.in_ok-found.ensures.same (ap ty_span c.phrase.view_is) c.in_ok-found.ensures.given c.in_err-expect_star.ensures.refused)

-- T -> U

pub types::ty_arrow-returns-in_err-left-clause-refused : goal.types::ty_arrow-returns-in_err-left-clause-refused
types::ty_arrow-returns-in_err-left-clause-refused t c = exit _ c.from_residual.result c.in_err-left.field-0.0 c.from_residual.ensures.1 (λ at. ty_arrow-from c.in_err-left.ensures.refused)

pub types::ty_arrow-returns-in_err-right-clause-refused : goal.types::ty_arrow-returns-in_err-right-clause-refused
types::ty_arrow-returns-in_err-right-clause-refused t c = let same = c.in_ok-left.ensures.same in exit _ c.from_residual-in_err-right.result c.in_err-right.field-0.0 c.from_residual-in_err-right.ensures.1 (λ at. ty_arrow-to c.in_ok-left.ensures.given (rw same at c.in_err-right.ensures.refused))

pub types::ty_arrow-returns-clause-given : goal.types::ty_arrow-returns-clause-given
types::ty_arrow-returns-clause-given t c = let same = c.in_ok-left.ensures.same in ok-at _ (rw c.in_ok-left.ensures.star at c.arrow_rule.ensures.given) (λ o p at. ty_arrow c.in_ok-left.ensures.given (rw same at c.in_ok-right.ensures.given) p)

pub types::ty_apply-returns-in_err-found-clause-refused : goal.types::ty_apply-returns-in_err-found-clause-refused
types::ty_apply-returns-in_err-found-clause-refused t c = exit _ c.from_residual.result c.in_err-found.field-0.0 c.from_residual.ensures.1 (λ at. ty_apply-operator c.in_err-found.ensures.refused)

pub types::ty_all-returns-in_err-inner-clause-refused : goal.types::ty_all-returns-in_err-inner-clause-refused
types::ty_all-returns-in_err-inner-clause-refused t c = exit _ c.from_residual.result c.in_err-inner.field-0.0 c.from_residual.ensures.1 (λ at. ty_all-body c.in_err-inner.ensures.refused)

pub types::ty_lam-returns-in_err-inner-clause-refused : goal.types::ty_lam-returns-in_err-inner-clause-refused
types::ty_lam-returns-in_err-inner-clause-refused t c = exit _ c.from_residual.result c.in_err-inner.field-0.0 c.from_residual.ensures.1 (λ at. ty_lam-body c.in_err-inner.ensures.refused)

pub types::ty_lam-returns-clause-given : goal.types::ty_lam-returns-clause-given
types::ty_lam-returns-clause-given t c = ok-at _ c.lam_rule.ensures.given (λ o p at. ty_lam c.in_ok-inner.ensures.given p)

pub types::ty_arrow-returns-clause-refused : goal.types::ty_arrow-returns-clause-refused
types::ty_arrow-returns-clause-refused t c = let same = c.in_ok-left.ensures.same in err-at _ (rw c.in_ok-left.ensures.star at c.arrow_rule.ensures.refused) (λ e r at. ty_arrow-rule c.in_ok-left.ensures.given (rw same at c.in_ok-right.ensures.given) (rule-at (c.in_ok-right.ensures.same ∙ same) (ap ty_span c.to.view_is) r))

pub types::ty_apply-ty_args-requires : goal.types::ty_apply-ty_args-requires
types::ty_apply-ty_args-requires t c = (omega arith, (env-in c.in_ok-found.ensures.same c.requires, type-normal c.in_ok-found.ensures.same c.requires c.in_ok-found.ensures.given))

pub types::ty_apply-returns-clause-refused : goal.types::ty_apply-returns-clause-refused
types::ty_apply-returns-clause-refused t c = err-at _ c.ty_args.ensures.refused (λ e r at. ty_apply-args c.in_ok-found.ensures.given (type_args-at c.in_ok-found.ensures.same (ap ty_span c.operator.view_is) r))

pub types::ty_apply-returns-clause-given : goal.types::ty_apply-returns-clause-given
types::ty_apply-returns-clause-given t c = ok-at _ (rw c.in_ok-found.ensures.same at c.ty_args.ensures.given) (λ o p at. ty_apply c.in_ok-found.ensures.given p)

pub types::ty_all-returns-clause-refused : goal.types::ty_all-returns-clause-refused
types::ty_all-returns-clause-refused t c = err-at _ c.all_rule.ensures.refused (λ e r at. ty_all-rule c.in_ok-inner.ensures.given (rule-at c.in_ok-inner.ensures.same (ap ty_span c.body.view_is) r))

pub types::ty_all-returns-clause-given : goal.types::ty_all-returns-clause-given
types::ty_all-returns-clause-given t c = ok-at _ c.all_rule.ensures.given (λ o p at. ty_all c.in_ok-inner.ensures.given p)

pub types::ty-returns-in-Int-clause-given : goal.types::ty-returns-in-Int-clause-given
types::ty-returns-in-Int-clause-given t c = int-means _ c.phrase.inside.span c.phrase.inside.what _ c.base_rule.result c.phrase.view_is c.in-Int.is c.base_rule.ensures.given

pub types::ty-returns-in-Bool-clause-given : goal.types::ty-returns-in-Bool-clause-given
types::ty-returns-in-Bool-clause-given t c = bool-means _ c.phrase.inside.span c.phrase.inside.what _ c.base_rule-in-Bool.result c.phrase.view_is c.in-Bool.is c.base_rule-in-Bool.ensures.given

pub types::ty-returns-in-Text-clause-given : goal.types::ty-returns-in-Text-clause-given
types::ty-returns-in-Text-clause-given t c = text-means _ c.phrase.inside.span c.phrase.inside.what _ c.base_rule-in-Text.result c.phrase.view_is c.in-Text.is c.base_rule-in-Text.ensures.given

pub types::ty_args-returns-in-empty-clause-given : goal.types::ty_args-returns-in-empty-clause-given
types::ty_args-returns-in-empty-clause-given t c = subst (λ xs. ArgTysMean c.args.env.now c.args.operator.ty (kind_tree c.args.operator.kind) (tys xs) c.args.operator.ty (kind_tree c.args.operator.kind)) (sym (empty c.args.args.now c.in-empty.len_below)) no_args

pub types::ty_arg-returns-in_err-expect_operator-clause-refused : goal.types::ty_arg-returns-in_err-expect_operator-clause-refused
types::ty_arg-returns-in_err-expect_operator-clause-refused t c = exit _ c.from_residual.result c.in_err-expect_operator.field-0.0 c.from_residual.ensures.1 (ty_arg-no_operator c.in_err-expect_operator.ensures.refused)

pub types::ty_arg-returns-in_err-arg-clause-refused : goal.types::ty_arg-returns-in_err-arg-clause-refused
types::ty_arg-returns-in_err-arg-clause-refused t c = exit _ c.from_residual-in_err-arg.result c.in_err-arg.field-0.0 c.from_residual-in_err-arg.ensures.1 (ty_arg-type c.in_ok-expect_operator.ensures.given.1 c.in_err-arg.ensures.refused)

pub types::ty_arg-apply_rule-requires-clause-arg : goal.types::ty_arg-apply_rule-requires-clause-arg
types::ty_arg-apply_rule-requires-clause-arg t c = type-normal c.in_ok-arg.ensures.same c.requires.env c.in_ok-arg.ensures.given

pub types::ty_arg-returns-in_err-applied-clause-refused : goal.types::ty_arg-returns-in_err-applied-clause-refused
types::ty_arg-returns-in_err-applied-clause-refused t c = exit _ c.from_residual-in_err-applied.result c.in_err-applied.field-0.0 c.from_residual-in_err-applied.ensures.1 (ty_arg-rule c.in_ok-expect_operator.ensures.given.1 c.in_ok-arg.ensures.given (rule-at c.in_ok-arg.ensures.same (ap ty_span c.first.view_is) c.in_err-applied.ensures.refused))

pub types::ty_arg-ty_args-requires : goal.types::ty_arg-ty_args-requires
types::ty_arg-ty_args-requires t c = (omega (arith, c.decreases), (env-in c.in_ok-arg.ensures.same c.requires.env, applied-normal c.in_ok-applied.ensures.given))

pub types::ty_arg-returns-clause-refused : goal.types::ty_arg-returns-clause-refused
types::ty_arg-returns-clause-refused t c = let same = c.in_ok-arg.ensures.same in let both = ap place c.up_to-both.ensures ∙ ap (up_to (place c.args.at)) (ap ty_span c.first.view_is) in err-map _ c.ty_args.ensures.refused (λ e r. ty_arg-later c.in_ok-expect_operator.ensures.given.1 c.in_ok-arg.ensures.given (rw same at c.in_ok-applied.ensures.given) (type_args-at same both r))

pub types::ty_arg-returns-clause-given : goal.types::ty_arg-returns-clause-given
types::ty_arg-returns-clause-given t c = let same = c.in_ok-arg.ensures.same in ok-map _ (rw same at c.ty_args.ensures.given) (λ o p. next_arg c.in_ok-arg.ensures.given (rw same at c.in_ok-applied.ensures.given) p)

-- record types

pub types::ty_record-returns-in_err-ty_fields-clause-refused : goal.types::ty_record-returns-in_err-ty_fields-clause-refused
types::ty_record-returns-in_err-ty_fields-clause-refused t c = exit _ c.from_residual.result c.in_err-ty_fields.field-0.0 c.from_residual.ensures.1 (record_type-parts c.new-parts.result.items c.new-parts.ensures.items c.in_err-ty_fields.ensures.refused)

pub types::ty_record-returns-clause-refused : goal.types::ty_record-returns-clause-refused
types::ty_record-returns-clause-refused t c = err-map _ (rw c.in_ok-ty_fields.ensures.same at c.fields_rule.ensures.refused) (λ e r. record_type-rule c.new-parts.result.items c.ty_fields.new.done.items c.new-parts.ensures.items c.in_ok-ty_fields.ensures.given r)

pub types::ty_record-returns-clause-given : goal.types::ty_record-returns-clause-given
types::ty_record-returns-clause-given t c = ok-map _ c.fields_rule.ensures.given (λ o p. record_type-means c.new-parts.result.items c.ty_fields.new.done.items c.new-parts.ensures.items c.in_ok-ty_fields.ensures.given p)

pub types::ty_fields-returns-in-empty-clause-given : goal.types::ty_fields-returns-in-empty-clause-given
types::ty_fields-returns-in-empty-clause-given t c = subst (λ fs. TypesLeft c.args.env.now c.args.done.now.items (field_tys fs) c.args.done.now.items) (sym (empty c.args.fields.now c.in-empty.len_below)) (types-none _ _)

pub types::ty_field-returns-in_err-expect_new-clause-refused : goal.types::ty_field-returns-in_err-expect_new-clause-refused
types::ty_field-returns-in_err-expect_new-clause-refused t c = exit _ c.from_residual.result c.in_err-expect_new.field-0.0 c.from_residual.ensures.1 (ty_field-again {x = spelled c.args.first.now.0} (rw c.deref.ensures.value at c.in_err-expect_new.ensures.refused))

pub types::ty_field-returns-in_err-part-clause-refused : goal.types::ty_field-returns-in_err-part-clause-refused
types::ty_field-returns-in_err-part-clause-refused t c = exit _ c.from_residual-in_err-part.result c.in_err-part.field-0.0 c.from_residual-in_err-part.ensures.1 (ty_field-type {x = spelled c.args.first.now.0} (rw c.deref.ensures.value at c.in_ok-expect_new.ensures.given) c.in_err-part.ensures.refused)

pub types::ty_field-returns-clause-refused : goal.types::ty_field-returns-clause-refused
types::ty_field-returns-clause-refused t c = let new = rw c.deref.ensures.value at c.in_ok-expect_new.ensures.given in err-map _ (rw c.in_ok-part.ensures.same at c.ty_fields.ensures.refused) (λ e r. types-later {x = spelled c.args.first.now.0} c.args.done.now.items c.add.new.done.items c.in_ok-part.part new c.in_ok-part.ensures.given c.in_ok-add.ensures r)

pub types::ty_field-returns-clause-given : goal.types::ty_field-returns-clause-given
types::ty_field-returns-clause-given t c = let new = rw c.deref.ensures.value at c.in_ok-expect_new.ensures.given in ok-map _ (rw c.in_ok-part.ensures.same at c.ty_fields.ensures.given) (λ _ p. types-next {x = spelled c.args.first.now.0} c.args.done.now.items c.add.new.done.items c.ty_fields.new.done.items c.in_ok-part.part new c.in_ok-part.ensures.given c.in_ok-part.ensures.star c.in_ok-add.ensures p)

-- functions

pub expressions::exp_lam-returns-in_err-from-clause-refused : goal.expressions::exp_lam-returns-in_err-from-clause-refused
expressions::exp_lam-returns-in_err-from-clause-refused t c = exit _ c.from_residual.result c.in_err-from.field-0.0 c.from_residual.ensures.1 (λ at. exp_lam-param c.in_err-from.ensures.refused)

pub expressions::exp_lam-exp_under-requires : goal.expressions::exp_lam-exp_under-requires
expressions::exp_lam-exp_under-requires t c = (omega arith, value-env-in c.args.name.now.name c.in_ok-from.ensures.same c.requires c.in_ok-from.ensures.given)

pub expressions::exp_lam-returns-in_err-inner-clause-refused : goal.expressions::exp_lam-returns-in_err-inner-clause-refused
expressions::exp_lam-returns-in_err-inner-clause-refused t c = exit _ c.from_residual-in_err-inner.result c.in_err-inner.field-0.0 c.from_residual-in_err-inner.ensures.1 (λ at. exp_lam-body c.in_ok-from.ensures.given (rw c.in_ok-from.ensures.same at c.in_err-inner.ensures.refused))

pub expressions::exp_lam-returns-clause-refused : goal.expressions::exp_lam-returns-clause-refused
expressions::exp_lam-returns-clause-refused t c = let same = c.in_ok-from.ensures.same in err-at _ (rw c.in_ok-from.ensures.star at c.function_rule.ensures.refused) (λ e r at. exp_lam-rule c.in_ok-from.ensures.given (rw same at c.in_ok-inner.ensures.given) (rule-at (c.in_ok-inner.ensures.same ∙ same) (ap ty_span c.param.view_is) r))

pub expressions::exp_lam-returns-clause-given : goal.expressions::exp_lam-returns-clause-given
expressions::exp_lam-returns-clause-given t c = let same = c.in_ok-from.ensures.same in ok-at _ (rw c.in_ok-from.ensures.star at c.function_rule.ensures.given) (λ o p at. exp_lam c.in_ok-from.ensures.given (rw same at c.in_ok-inner.ensures.given) p)

pub expressions::exp_ty_lam-returns-in_err-inner-clause-refused : goal.expressions::exp_ty_lam-returns-in_err-inner-clause-refused
expressions::exp_ty_lam-returns-in_err-inner-clause-refused t c = exit _ c.from_residual-in_err-inner.result c.in_err-inner.field-0.0 c.from_residual-in_err-inner.ensures.1 (λ at. exp_ty_lam-body (refused-in c.in_ok-push_type.ensures c.in_err-inner.ensures.refused))

pub expressions::exp_ty_lam-returns-clause-given : goal.expressions::exp_ty_lam-returns-clause-given
expressions::exp_ty_lam-returns-clause-given t c = let means = rw c.in_ok-push_type.ensures at c.in_ok-inner.ensures.given in ok-at _ c.type_function_rule.ensures.given (λ o p at. exp_ty_lam means p)

-- recursive functions

pub expressions::exp_fix-returns-in_err-from-clause-refused : goal.expressions::exp_fix-returns-in_err-from-clause-refused
expressions::exp_fix-returns-in_err-from-clause-refused t c = exit _ c.from_residual.result c.in_err-from.field-0.0 c.from_residual.ensures.1 (λ at. exp_fix-param c.in_err-from.ensures.refused)

pub expressions::exp_fix-returns-in_err-to-clause-refused : goal.expressions::exp_fix-returns-in_err-to-clause-refused
expressions::exp_fix-returns-in_err-to-clause-refused t c = exit _ c.from_residual-in_err-to.result c.in_err-to.field-0.0 c.from_residual-in_err-to.ensures.1 (λ at. exp_fix-result c.in_ok-from.ensures.given (rw c.in_ok-from.ensures.same at c.in_err-to.ensures.refused))

pub expressions::exp_fix-exp_under-requires : goal.expressions::exp_fix-exp_under-requires
expressions::exp_fix-exp_under-requires t c = let same = c.in_ok-from.ensures.same in let scope = entered c.in_ok-push_value.ensures c.in_ok-own.ensures (c.in_ok-to.ensures.same ∙ same) in (omega arith, fix-env-in c.args.function.now.name c.args.name.now.name scope c.requires c.in_ok-from.ensures.given (rw same at c.in_ok-to.ensures.given))

pub expressions::exp_fix-returns-in_err-inner-clause-refused : goal.expressions::exp_fix-returns-in_err-inner-clause-refused
expressions::exp_fix-returns-in_err-inner-clause-refused t c = let same = c.in_ok-from.ensures.same in let scope = entered c.in_ok-push_value.ensures c.in_ok-own.ensures (c.in_ok-to.ensures.same ∙ same) in exit _ c.from_residual-in_err-inner.result c.in_err-inner.field-0.0 c.from_residual-in_err-inner.ensures.1 (λ at. exp_fix-body c.in_ok-from.ensures.given (rw same at c.in_ok-to.ensures.given) (rw scope at c.in_err-inner.ensures.refused))

pub expressions::exp_fix-returns-clause-refused : goal.expressions::exp_fix-returns-clause-refused
expressions::exp_fix-returns-clause-refused t c = let same = c.in_ok-from.ensures.same in let scope = entered c.in_ok-push_value.ensures c.in_ok-own.ensures (c.in_ok-to.ensures.same ∙ same) in err-at _ (rw (c.in_ok-from.ensures.star, c.in_ok-to.ensures.star) at c.fix_rule.ensures.refused) (λ e r at. exp_fix-rule c.in_ok-from.ensures.given (rw same at c.in_ok-to.ensures.given) (rw scope at c.in_ok-inner.ensures.given) (rule-at (left c.leave.ensures (c.in_ok-inner.ensures.same ∙ scope)) (ap exp_span c.body.view_is) r))

pub expressions::exp_fix-returns-clause-given : goal.expressions::exp_fix-returns-clause-given
expressions::exp_fix-returns-clause-given t c = let same = c.in_ok-from.ensures.same in let scope = entered c.in_ok-push_value.ensures c.in_ok-own.ensures (c.in_ok-to.ensures.same ∙ same) in ok-at _ (rw (c.in_ok-from.ensures.star, c.in_ok-to.ensures.star) at c.fix_rule.ensures.given) (λ o p at. exp_fix c.in_ok-from.ensures.given (rw same at c.in_ok-to.ensures.given) (rw scope at c.in_ok-inner.ensures.given) p)

pub expressions::exp_fix-returns-clause-same : goal.expressions::exp_fix-returns-clause-same
expressions::exp_fix-returns-clause-same t c = let scope = entered c.in_ok-push_value.ensures c.in_ok-own.ensures (c.in_ok-to.ensures.same ∙ c.in_ok-from.ensures.same) in stays c.fix_rule.result (left c.leave.ensures (c.in_ok-inner.ensures.same ∙ scope))

-- a choice

pub expressions::exp_if-returns-in_err-first-clause-refused : goal.expressions::exp_if-returns-in_err-first-clause-refused
expressions::exp_if-returns-in_err-first-clause-refused t c = exit _ c.from_residual.result c.in_err-first.field-0.0 c.from_residual.ensures.1 (λ at. exp_if-test c.in_err-first.ensures.refused)

pub expressions::exp_if-returns-in_err-expect_bool-clause-refused : goal.expressions::exp_if-returns-in_err-expect_bool-clause-refused
expressions::exp_if-returns-in_err-expect_bool-clause-refused t c = exit _ c.from_residual-in_err-expect_bool.result c.in_err-expect_bool.field-0.0 c.from_residual-in_err-expect_bool.ensures.1 (λ at. exp_if-test_type c.in_ok-first.ensures.given (test-at c.in_ok-first.ensures.same (ap exp_span c.test.view_is) c.in_err-expect_bool.ensures.refused))

pub expressions::exp_if-returns-in_err-second-clause-refused : goal.expressions::exp_if-returns-in_err-second-clause-refused
expressions::exp_if-returns-in_err-second-clause-refused t c = exit _ c.from_residual-in_err-second.result c.in_err-second.field-0.0 c.from_residual-in_err-second.ensures.1 (λ at. exp_if-yes c.in_ok-first.ensures.given c.in_ok-expect_bool.ensures.given (refused-in c.in_ok-first.ensures.same c.in_err-second.ensures.refused))

pub expressions::exp_if-returns-in_err-third-clause-refused : goal.expressions::exp_if-returns-in_err-third-clause-refused
expressions::exp_if-returns-in_err-third-clause-refused t c = let same = c.in_ok-first.ensures.same in exit _ c.from_residual-in_err-third.result c.in_err-third.field-0.0 c.from_residual-in_err-third.ensures.1 (λ at. exp_if-no c.in_ok-first.ensures.given c.in_ok-expect_bool.ensures.given (rw same at c.in_ok-second.ensures.given) (refused-in (c.in_ok-second.ensures.same ∙ same) c.in_err-third.ensures.refused))

pub expressions::exp_if-returns-clause-refused : goal.expressions::exp_if-returns-clause-refused
expressions::exp_if-returns-clause-refused t c = let same = c.in_ok-first.ensures.same in let both = c.in_ok-second.ensures.same ∙ same in err-at _ c.if_rule.ensures.refused (λ e r at. exp_if-rule c.in_ok-first.ensures.given c.in_ok-expect_bool.ensures.given (rw same at c.in_ok-second.ensures.given) (rw both at c.in_ok-third.ensures.given) (rule-at (c.in_ok-third.ensures.same ∙ both) (ap exp_span c.yes.view_is) r))

pub expressions::exp_if-returns-clause-given : goal.expressions::exp_if-returns-clause-given
expressions::exp_if-returns-clause-given t c = let same = c.in_ok-first.ensures.same in let both = c.in_ok-second.ensures.same ∙ same in ok-at _ c.if_rule.ensures.given (λ o p at. exp_if c.in_ok-first.ensures.given (rw same at c.in_ok-second.ensures.given) (rw both at c.in_ok-third.ensures.given) p)

-- operators

pub expressions::exp_ops-returns-in_err-left-clause-refused : goal.expressions::exp_ops-returns-in_err-left-clause-refused
expressions::exp_ops-returns-in_err-left-clause-refused t c = exit _ c.from_residual.result c.in_err-left.field-0.0 c.from_residual.ensures.1 (λ at. exp_ops-first c.in_err-left.ensures.refused)

pub expressions::exp_ops-returns-clause-refused : goal.expressions::exp_ops-returns-clause-refused
expressions::exp_ops-returns-clause-refused t c = err-at _ c.operands.ensures.refused (λ e r at. exp_ops-rest c.in_ok-left.ensures.given (operands-at c.in_ok-left.ensures.same (ap exp_span c.first.view_is) r))

pub expressions::exp_ops-returns-clause-given : goal.expressions::exp_ops-returns-clause-given
expressions::exp_ops-returns-clause-given t c = ok-at _ (rw c.in_ok-left.ensures.same at c.operands.ensures.given) (λ o p at. exp_ops c.in_ok-left.ensures.given p)

pub expressions::exp_apply-returns-in_err-found-clause-refused : goal.expressions::exp_apply-returns-in_err-found-clause-refused
expressions::exp_apply-returns-in_err-found-clause-refused t c = exit _ c.from_residual.result c.in_err-found.field-0.0 c.from_residual.ensures.1 (λ at. exp_apply-function c.in_err-found.ensures.refused)

pub expressions::exp_apply-arguments-requires : goal.expressions::exp_apply-arguments-requires
expressions::exp_apply-arguments-requires t c = (omega arith, (env-in c.in_ok-found.ensures.same c.requires, exp-normal c.in_ok-found.ensures.same c.requires c.in_ok-found.ensures.given))

pub expressions::exp_apply-returns-clause-refused : goal.expressions::exp_apply-returns-clause-refused
expressions::exp_apply-returns-clause-refused t c = err-at _ c.arguments.ensures.refused (λ e r at. exp_apply-args c.in_ok-found.ensures.given (args-at c.in_ok-found.ensures.same (ap exp_span c.function.view_is) r))

pub expressions::exp_apply-returns-clause-given : goal.expressions::exp_apply-returns-clause-given
expressions::exp_apply-returns-clause-given t c = ok-at _ (rw c.in_ok-found.ensures.same at c.arguments.ensures.given) (λ o p at. exp_apply c.in_ok-found.ensures.given p)

-- records

pub expressions::exp_record-returns-in_err-exp_fields-clause-refused : goal.expressions::exp_record-returns-in_err-exp_fields-clause-refused
expressions::exp_record-returns-in_err-exp_fields-clause-refused t c = exit _ c.from_residual.result c.in_err-exp_fields.field-0.0 c.from_residual.ensures.1 (record-parts c.new-parts.result.items c.new-parts.ensures.items c.in_err-exp_fields.ensures.refused)

pub expressions::exp_record-returns-clause-refused : goal.expressions::exp_record-returns-clause-refused
expressions::exp_record-returns-clause-refused t c = err-map _ (rw c.in_ok-exp_fields.ensures.same at c.record_rule.ensures.refused) (λ e r. record-rule c.new-parts.result.items c.exp_fields.new.done.items c.new-parts.ensures.items c.in_ok-exp_fields.ensures.given r)

pub expressions::exp_record-returns-clause-given : goal.expressions::exp_record-returns-clause-given
expressions::exp_record-returns-clause-given t c = ok-map _ c.record_rule.ensures.given (λ o p. record-means c.new-parts.result.items c.exp_fields.new.done.items c.new-parts.ensures.items c.in_ok-exp_fields.ensures.given p)

pub expressions::exp_get-returns-in_err-found-clause-refused : goal.expressions::exp_get-returns-in_err-found-clause-refused
expressions::exp_get-returns-in_err-found-clause-refused t c = exit _ c.from_residual.result c.in_err-found.field-0.0 c.from_residual.ensures.1 (λ at. exp_get-record c.in_err-found.ensures.refused)

pub expressions::exp_get-returns-in_err-expect_record-clause-refused : goal.expressions::exp_get-returns-in_err-expect_record-clause-refused
expressions::exp_get-returns-in_err-expect_record-clause-refused t c = exit _ c.from_residual-in_err-expect_record.result c.in_err-expect_record.field-0.0 c.from_residual-in_err-expect_record.ensures.1 (λ at. exp_get-no_record c.in_ok-found.ensures.given (test-at c.in_ok-found.ensures.same (ap exp_span c.whole.view_is) c.in_err-expect_record.ensures.refused))

pub expressions::exp_get-returns-clause-refused : goal.expressions::exp_get-returns-clause-refused
expressions::exp_get-returns-clause-refused t c = err-at _ (rw c.in_ok-found.ensures.same at c.get_rule.ensures.refused) (λ e r at. exp_get-rule c.in_ok-found.ensures.given c.in_ok-expect_record.ensures.given.1 r)

pub expressions::exp_get-returns-clause-given : goal.expressions::exp_get-returns-clause-given
expressions::exp_get-returns-clause-given t c = ok-at _ c.get_rule.ensures.given (λ o p at. exp_get c.in_ok-found.ensures.given p)

pub expressions::operands-returns-in-empty-clause-given : goal.expressions::operands-returns-in-empty-clause-given
expressions::operands-returns-in-empty-clause-given t c = subst (λ xs. OpsMean c.args.env.now c.args.left.ty c.args.left.term (ops xs) c.args.left.ty c.args.left.term) (sym (empty c.args.rest.now c.in-empty.len_below)) no_ops

pub expressions::operand-returns-in_err-expect_int-clause-refused : goal.expressions::operand-returns-in_err-expect_int-clause-refused
expressions::operand-returns-in_err-expect_int-clause-refused t c = exit _ c.from_residual.result c.in_err-expect_int.field-0.0 c.from_residual.ensures.1 (operand-left c.in_err-expect_int.ensures.refused)

pub expressions::operand-returns-in_err-right-clause-refused : goal.expressions::operand-returns-in_err-right-clause-refused
expressions::operand-returns-in_err-right-clause-refused t c = exit _ c.from_residual-in_err-right.result c.in_err-right.field-0.0 c.from_residual-in_err-right.ensures.1 (operand-right c.in_ok-expect_int.ensures.given c.in_err-right.ensures.refused)

pub expressions::operand-returns-in_err-whole-clause-refused : goal.expressions::operand-returns-in_err-whole-clause-refused
expressions::operand-returns-in_err-whole-clause-refused t c = exit _ c.from_residual-in_err-whole.result c.in_err-whole.field-0.0 c.from_residual-in_err-whole.ensures.1 (operand-rule c.in_ok-expect_int.ensures.given c.in_ok-right.ensures.given (rule-at c.in_ok-right.ensures.same (ap (λ (p : OpIn × Exp). exp_span p.1) c.first.view_is) c.in_err-whole.ensures.refused))

pub expressions::operand-returns-clause-refused : goal.expressions::operand-returns-clause-refused
expressions::operand-returns-clause-refused t c = let means = rw (c.omega_op-op.ensures ∙ ap (λ (p : OpIn × Exp). omega_op (op_of p.0)) c.first.view_is) at c.in_ok-whole.ensures.given in let both = ap place c.up_to-both.ensures ∙ ap (up_to (place c.args.at)) (ap (λ (p : OpIn × Exp). exp_span p.1) c.first.view_is) in err-map _ c.operands.ensures.refused (λ e r. operand-later c.in_ok-expect_int.ensures.given c.in_ok-right.ensures.given means (operands-at c.in_ok-right.ensures.same both r))

pub expressions::operand-returns-clause-given : goal.expressions::operand-returns-clause-given
expressions::operand-returns-clause-given t c = let means = rw (c.omega_op-op.ensures ∙ ap (λ (p : OpIn × Exp). omega_op (op_of p.0)) c.first.view_is) at c.in_ok-whole.ensures.given in ok-map _ (rw c.in_ok-right.ensures.same at c.operands.ensures.given) (λ o p. next_op c.in_ok-right.ensures.given means p)

pub expressions::arguments-returns-in-empty-clause-given : goal.expressions::arguments-returns-in-empty-clause-given
expressions::arguments-returns-in-empty-clause-given t c = subst (λ xs. ArgsMean c.args.env.now c.args.function.ty c.args.function.term (args xs) c.args.function.ty c.args.function.term) (sym (empty c.args.args.now c.in-empty.len_below)) no_arg

pub expressions::value_argument-returns-in_err-expect_arrow-clause-refused : goal.expressions::value_argument-returns-in_err-expect_arrow-clause-refused
expressions::value_argument-returns-in_err-expect_arrow-clause-refused t c = exit _ c.from_residual.result c.in_err-expect_arrow.field-0.0 c.from_residual.ensures.1 (arg-no_arrow c.in_err-expect_arrow.ensures.refused)

pub expressions::value_argument-returns-in_err-arg-clause-refused : goal.expressions::value_argument-returns-in_err-arg-clause-refused
expressions::value_argument-returns-in_err-arg-clause-refused t c = exit _ c.from_residual-in_err-arg.result c.in_err-arg.field-0.0 c.from_residual-in_err-arg.ensures.1 (arg-value c.in_ok-expect_arrow.ensures.given.1 c.in_err-arg.ensures.refused)

pub expressions::value_argument-returns-in_err-whole-clause-refused : goal.expressions::value_argument-returns-in_err-whole-clause-refused
expressions::value_argument-returns-in_err-whole-clause-refused t c = exit _ c.from_residual-in_err-whole.result c.in_err-whole.field-0.0 c.from_residual-in_err-whole.ensures.1 (arg-rule c.in_ok-expect_arrow.ensures.given.1 c.in_ok-arg.ensures.given (rule-at c.in_ok-arg.ensures.same (ap exp_span c.first.view_is) c.in_err-whole.ensures.refused))

pub expressions::value_argument-arguments-requires : goal.expressions::value_argument-arguments-requires
expressions::value_argument-arguments-requires t c = (omega (arith, c.decreases), (env-in c.in_ok-arg.ensures.same c.requires.env, called-normal (normal-in c.in_ok-arg.ensures.same c.requires.normal) c.in_ok-whole.ensures.given))

pub expressions::value_argument-returns-clause-refused : goal.expressions::value_argument-returns-clause-refused
expressions::value_argument-returns-clause-refused t c = let both = ap place c.up_to-both.ensures ∙ ap (up_to (place c.args.at)) (ap exp_span c.first.view_is) in err-map _ c.arguments.ensures.refused (λ e r. arg-later c.in_ok-expect_arrow.ensures.given.1 c.in_ok-arg.ensures.given c.in_ok-whole.ensures.given (args-at c.in_ok-arg.ensures.same both r))

pub expressions::value_argument-returns-clause-given : goal.expressions::value_argument-returns-clause-given
expressions::value_argument-returns-clause-given t c = ok-map _ (rw c.in_ok-arg.ensures.same at c.arguments.ensures.given) (λ o p. next_value c.in_ok-arg.ensures.given c.in_ok-whole.ensures.given p)

pub expressions::type_argument-returns-in_err-expect_all-clause-refused : goal.expressions::type_argument-returns-in_err-expect_all-clause-refused
expressions::type_argument-returns-in_err-expect_all-clause-refused t c = exit _ c.from_residual.result c.in_err-expect_all.field-0.0 c.from_residual.ensures.1 (ty_arg-no_all c.in_err-expect_all.ensures.refused)

pub expressions::type_argument-returns-in_err-arg-clause-refused : goal.expressions::type_argument-returns-in_err-arg-clause-refused
expressions::type_argument-returns-in_err-arg-clause-refused t c = exit _ c.from_residual-in_err-arg.result c.in_err-arg.field-0.0 c.from_residual-in_err-arg.ensures.1 (exps-ty_arg-type c.in_ok-expect_all.ensures.given.1 c.in_err-arg.ensures.refused)

pub expressions::type_argument-instance_rule-requires-clause-function : goal.expressions::type_argument-instance_rule-requires-clause-function
expressions::type_argument-instance_rule-requires-clause-function t c = normal-in c.in_ok-arg.ensures.same c.requires.normal

pub expressions::type_argument-instance_rule-requires-clause-arg : goal.expressions::type_argument-instance_rule-requires-clause-arg
expressions::type_argument-instance_rule-requires-clause-arg t c = type-normal c.in_ok-arg.ensures.same c.requires.env c.in_ok-arg.ensures.given

pub expressions::type_argument-returns-in_err-whole-clause-refused : goal.expressions::type_argument-returns-in_err-whole-clause-refused
expressions::type_argument-returns-in_err-whole-clause-refused t c = exit _ c.from_residual-in_err-whole.result c.in_err-whole.field-0.0 c.from_residual-in_err-whole.ensures.1 (exps-ty_arg-rule c.in_ok-expect_all.ensures.given.1 c.in_ok-arg.ensures.given (rule-at c.in_ok-arg.ensures.same (ap ty_span c.first.view_is) c.in_err-whole.ensures.refused))

pub expressions::type_argument-arguments-requires : goal.expressions::type_argument-arguments-requires
expressions::type_argument-arguments-requires t c = (omega (arith, c.decreases), (env-in c.in_ok-arg.ensures.same c.requires.env, instance-normal c.in_ok-whole.ensures.given))

pub expressions::type_argument-returns-clause-refused : goal.expressions::type_argument-returns-clause-refused
expressions::type_argument-returns-clause-refused t c = let same = c.in_ok-arg.ensures.same in err-map _ c.arguments.ensures.refused (λ e r. exps-ty_arg-later c.in_ok-expect_all.ensures.given.1 c.in_ok-arg.ensures.given (rw same at c.in_ok-whole.ensures.given) (args-at same (ap place c.up_to-both.ensures) r))

pub expressions::type_argument-returns-clause-given : goal.expressions::type_argument-returns-clause-given
expressions::type_argument-returns-clause-given t c = let same = c.in_ok-arg.ensures.same in ok-map _ (rw same at c.arguments.ensures.given) (λ o p. next_type c.in_ok-arg.ensures.given (rw same at c.in_ok-whole.ensures.given) p)

-- fields

pub expressions::exp_fields-returns-in-empty-clause-given : goal.expressions::exp_fields-returns-in-empty-clause-given
expressions::exp_fields-returns-in-empty-clause-given t c = subst (λ fs. ExpsLeft c.args.env.now c.args.done.now.items (field_exps fs) c.args.done.now.items) (sym (empty c.args.fields.now c.in-empty.len_below)) (exps-none _ _)

pub expressions::exp_field-returns-in_err-expect_new-clause-refused : goal.expressions::exp_field-returns-in_err-expect_new-clause-refused
expressions::exp_field-returns-in_err-expect_new-clause-refused t c = exit _ c.from_residual.result c.in_err-expect_new.field-0.0 c.from_residual.ensures.1 (exp_field-again {x = spelled c.args.first.now.0} (rw c.deref.ensures.value at c.in_err-expect_new.ensures.refused))

pub expressions::exp_field-returns-in_err-part-clause-refused : goal.expressions::exp_field-returns-in_err-part-clause-refused
expressions::exp_field-returns-in_err-part-clause-refused t c = exit _ c.from_residual-in_err-part.result c.in_err-part.field-0.0 c.from_residual-in_err-part.ensures.1 (exp_field-value {x = spelled c.args.first.now.0} (rw c.deref.ensures.value at c.in_ok-expect_new.ensures.given) c.in_err-part.ensures.refused)

pub expressions::exp_field-returns-clause-refused : goal.expressions::exp_field-returns-clause-refused
expressions::exp_field-returns-clause-refused t c = let new = rw c.deref.ensures.value at c.in_ok-expect_new.ensures.given in err-map _ (rw c.in_ok-part.ensures.same at c.exp_fields.ensures.refused) (λ e r. exps-later {x = spelled c.args.first.now.0} c.args.done.now.items c.add.new.done.items c.in_ok-part.part new c.in_ok-part.ensures.given c.in_ok-add.ensures r)

pub expressions::exp_field-returns-clause-given : goal.expressions::exp_field-returns-clause-given
expressions::exp_field-returns-clause-given t c = let new = rw c.deref.ensures.value at c.in_ok-expect_new.ensures.given in ok-map _ (rw c.in_ok-part.ensures.same at c.exp_fields.ensures.given) (λ _ p. exps-next {x = spelled c.args.first.now.0} c.args.done.now.items c.add.new.done.items c.exp_fields.new.done.items c.in_ok-part.part new c.in_ok-part.ensures.given c.in_ok-add.ensures p)

pub expressions::exp-returns-in-Int-clause-given : goal.expressions::exp-returns-in-Int-clause-given
expressions::exp-returns-in-Int-clause-given t c = let fits : SFits w64 c.in-Int.number = search rules in int_exp-means _ c.phrase.inside.span c.phrase.inside.what _ c.literal_rule.result c.in-Int.number (to_z w64 (of_z w64 c.in-Int.number)) c.phrase.view_is c.in-Int.is (to_z-of_z w64 c.in-Int.number fits) c.literal_rule.ensures.given

pub expressions::exp-returns-in-Bool-clause-given : goal.expressions::exp-returns-in-Bool-clause-given
expressions::exp-returns-in-Bool-clause-given t c = bool_exp-means _ c.phrase.inside.span c.phrase.inside.what _ c.literal_rule-in-Bool.result c.in-Bool.truth c.phrase.view_is c.in-Bool.is c.literal_rule-in-Bool.ensures.given

pub expressions::exp-returns-in_ok-share-in-Text-clause-given : goal.expressions::exp-returns-in_ok-share-in-Text-clause-given
expressions::exp-returns-in_ok-share-in-Text-clause-given t c = text_exp-means _ c.phrase.inside.span c.phrase.inside.what _ c.literal_rule-in-Text.result c.in-Text.text c.in_ok-share-in-Text.field-0 c.phrase.view_is c.in-Text.is c.in_ok-share-in-Text.ensures c.literal_rule-in-Text.ensures.given

-- sum types and recursive types

pub types::ty_sum-returns-in_err-ty_fields-clause-refused : goal.types::ty_sum-returns-in_err-ty_fields-clause-refused
types::ty_sum-returns-in_err-ty_fields-clause-refused t c = exit _ c.from_residual.result c.in_err-ty_fields.field-0.0 c.from_residual.ensures.1 (sum_type-parts c.new-parts.result.items c.new-parts.ensures.items c.in_err-ty_fields.ensures.refused)

pub types::ty_sum-returns-clause-refused : goal.types::ty_sum-returns-clause-refused
types::ty_sum-returns-clause-refused t c = err-map _ (rw c.in_ok-ty_fields.ensures.same at c.sum_rule.ensures.refused) (λ e r. sum_type-rule c.new-parts.result.items c.ty_fields.new.done.items c.new-parts.ensures.items c.in_ok-ty_fields.ensures.given r)

pub types::ty_sum-returns-clause-given : goal.types::ty_sum-returns-clause-given
types::ty_sum-returns-clause-given t c = ok-map _ c.sum_rule.ensures.given (λ o p. sum_type-means c.new-parts.result.items c.ty_fields.new.done.items c.new-parts.ensures.items c.in_ok-ty_fields.ensures.given p)

pub types::ty_mu-returns-in_err-inner-clause-refused : goal.types::ty_mu-returns-in_err-inner-clause-refused
types::ty_mu-returns-in_err-inner-clause-refused t c = exit _ c.from_residual.result c.in_err-inner.field-0.0 c.from_residual.ensures.1 (λ at. ty_mu-body c.in_err-inner.ensures.refused)

pub types::ty_mu-returns-clause-refused : goal.types::ty_mu-returns-clause-refused
types::ty_mu-returns-clause-refused t c = err-at _ c.mu_rule.ensures.refused (λ e r at. ty_mu-rule c.in_ok-inner.ensures.given (rule-at c.in_ok-inner.ensures.same (ap ty_span c.body.view_is) r))

pub types::ty_mu-returns-clause-given : goal.types::ty_mu-returns-clause-given
types::ty_mu-returns-clause-given t c = ok-at _ c.mu_rule.ensures.given (λ o p at. ty_mu c.in_ok-inner.ensures.given p)

-- injections

pub sums::exp_inj-returns-in_err-found-clause-refused : goal.sums::exp_inj-returns-in_err-found-clause-refused
sums::exp_inj-returns-in_err-found-clause-refused t c = exit _ c.from_residual.result c.in_err-found.field-0.0 c.from_residual.ensures.1 (λ at. exp_inj-value c.in_err-found.ensures.refused)

pub sums::exp_inj-returns-in_err-to-clause-refused : goal.sums::exp_inj-returns-in_err-to-clause-refused
sums::exp_inj-returns-in_err-to-clause-refused t c = exit _ c.from_residual-in_err-to.result c.in_err-to.field-0.0 c.from_residual-in_err-to.ensures.1 (λ at. exp_inj-type c.in_ok-found.ensures.given (rw c.in_ok-found.ensures.same at c.in_err-to.ensures.refused))

pub sums::exp_inj-returns-clause-refused : goal.sums::exp_inj-returns-clause-refused
sums::exp_inj-returns-clause-refused t c = let same = c.in_ok-found.ensures.same in err-at _ c.injection_rule.ensures.refused (λ e r at. exp_inj-rule c.in_ok-found.ensures.given (rw same at c.in_ok-to.ensures.given) (injection-at (c.in_ok-to.ensures.same ∙ same) (ap exp_span c.value.view_is) (ap ty_span c.target.view_is) r))

pub sums::exp_inj-returns-clause-given : goal.sums::exp_inj-returns-clause-given
sums::exp_inj-returns-clause-given t c = ok-at _ (rw c.in_ok-to.ensures.star at c.injection_rule.ensures.given) (λ o p at. exp_inj c.in_ok-found.ensures.given (rw c.in_ok-found.ensures.same at c.in_ok-to.ensures.given) p)

-- cases

pub sums::exp_case-returns-in_err-found-clause-refused : goal.sums::exp_case-returns-in_err-found-clause-refused
sums::exp_case-returns-in_err-found-clause-refused t c = exit _ c.from_residual.result c.in_err-found.field-0.0 c.from_residual.ensures.1 (exp_case-whole c.in_err-found.ensures.refused)

pub sums::exp_case-returns-in_err-expect_sum-clause-refused : goal.sums::exp_case-returns-in_err-expect_sum-clause-refused
sums::exp_case-returns-in_err-expect_sum-clause-refused t c = exit _ c.from_residual-in_err-expect_sum.result c.in_err-expect_sum.field-0.0 c.from_residual-in_err-expect_sum.ensures.1 (exp_case-no_sum c.in_ok-found.ensures.given (rule-at c.in_ok-found.ensures.same (ap exp_span c.whole.view_is) c.in_err-expect_sum.ensures.refused))

pub sums::exp_case-returns-in_err-to-clause-refused : goal.sums::exp_case-returns-in_err-to-clause-refused
sums::exp_case-returns-in_err-to-clause-refused t c = exit _ c.from_residual-in_err-to.result c.in_err-to.field-0.0 c.from_residual-in_err-to.ensures.1 (exp_case-type c.in_ok-found.ensures.given c.in_ok-expect_sum.ensures.given.1 (rw c.in_ok-found.ensures.same at c.in_err-to.ensures.refused))

pub sums::exp_case-case_branches-requires : goal.sums::exp_case-case_branches-requires
sums::exp_case-case_branches-requires t c = let both = c.in_ok-to.ensures.same ∙ c.in_ok-found.ensures.same in (omega arith, (env-in both c.requires, exp-normal both c.requires c.in_ok-found.ensures.given))

pub sums::exp_case-returns-in_err-case_branches-clause-refused : goal.sums::exp_case-returns-in_err-case_branches-clause-refused
sums::exp_case-returns-in_err-case_branches-clause-refused t c = let same = c.in_ok-found.ensures.same in exit _ c.from_residual-in_err-case_branches.result c.in_err-case_branches.field-0.0 c.from_residual-in_err-case_branches.ensures.1 (case-parts c.new-parts.result.items c.in_ok-found.ensures.given c.in_ok-expect_sum.ensures.given.1 (rw same at c.in_ok-to.ensures.given) c.new-parts.ensures.items (refused-in (c.in_ok-to.ensures.same ∙ same) c.in_err-case_branches.ensures.refused))

pub sums::exp_case-returns-clause-refused : goal.sums::exp_case-returns-clause-refused
sums::exp_case-returns-clause-refused t c = let same = c.in_ok-found.ensures.same in let both = c.in_ok-to.ensures.same ∙ same in err-map _ (rw (c.in_ok-case_branches.ensures.same ∙ both, c.in_ok-to.ensures.star) at c.case_rule.ensures.refused) (λ e r. case-rule c.new-parts.result.items c.case_branches.new.done.items c.in_ok-found.ensures.given c.in_ok-expect_sum.ensures.given.1 (rw same at c.in_ok-to.ensures.given) c.new-parts.ensures.items (rw both at c.in_ok-case_branches.ensures.given) r)

pub sums::exp_case-returns-clause-given : goal.sums::exp_case-returns-clause-given
sums::exp_case-returns-clause-given t c = let same = c.in_ok-found.ensures.same in ok-map _ (rw c.in_ok-to.ensures.star at c.case_rule.ensures.given) (λ o p. case-means c.new-parts.result.items c.case_branches.new.done.items c.in_ok-found.ensures.given (rw same at c.in_ok-to.ensures.given) c.new-parts.ensures.items (rw (c.in_ok-to.ensures.same ∙ same) at c.in_ok-case_branches.ensures.given) p)

pub sums::case_branches-returns-in-empty-clause-given : goal.sums::case_branches-returns-in-empty-clause-given
sums::case_branches-returns-in-empty-clause-given t c = subst (λ bs. BranchesLeft c.args.env.now c.args.whole.now.ty c.args.target.now c.args.done.now.items (branches bs) c.args.done.now.items) (sym (empty c.args.branches.now c.in-empty.len_below)) (branches-none _ _ _ _)

pub sums::case_branch-returns-in_err-expect_new-clause-refused : goal.sums::case_branch-returns-in_err-expect_new-clause-refused
sums::case_branch-returns-in_err-expect_new-clause-refused t c = exit _ c.from_residual.result c.in_err-expect_new.field-0.0 c.from_residual.ensures.1 (branch-again {x = spelled c.args.first.now.label} (rw c.deref.ensures.value at c.in_err-expect_new.ensures.refused))

pub sums::case_branch-returns-in_err-part-clause-refused : goal.sums::case_branch-returns-in_err-part-clause-refused
sums::case_branch-returns-in_err-part-clause-refused t c = exit _ c.from_residual-in_err-part.result c.in_err-part.field-0.0 c.from_residual-in_err-part.ensures.1 (branch-no_label {x = spelled c.args.first.now.label} (rw c.deref.ensures.value at c.in_ok-expect_new.ensures.given) c.in_err-part.ensures.refused)

pub sums::case_branch-exp_under-requires : goal.sums::case_branch-exp_under-requires
sums::case_branch-exp_under-requires t c = (omega arith, branch-env c.args.env.now c.args.first.now.name.name c.requires.env c.requires.normal c.in_ok-part.ensures.given)

pub sums::case_branch-returns-in_err-body-clause-refused : goal.sums::case_branch-returns-in_err-body-clause-refused
sums::case_branch-returns-in_err-body-clause-refused t c = exit _ c.from_residual-in_err-body.result c.in_err-body.field-0.0 c.from_residual-in_err-body.ensures.1 (branch-body {x = spelled c.args.first.now.label} {y = spelled c.args.first.now.name} (rw c.deref.ensures.value at c.in_ok-expect_new.ensures.given) c.in_ok-part.ensures.given c.in_err-body.ensures.refused)

pub sums::case_branch-returns-in_err-expect_same-clause-refused : goal.sums::case_branch-returns-in_err-expect_same-clause-refused
sums::case_branch-returns-in_err-expect_same-clause-refused t c = let new = rw c.deref.ensures.value at c.in_ok-expect_new.ensures.given in exit _ c.from_residual-in_err-expect_same.result c.in_err-expect_same.field-0.0 c.from_residual-in_err-expect_same.ensures.1 (branch-type {x = spelled c.args.first.now.label} {y = spelled c.args.first.now.name} new c.in_ok-part.ensures.given c.in_ok-body.ensures.given (test-at c.in_ok-body.ensures.same c.branch_place.ensures c.in_err-expect_same.ensures.refused))

pub sums::case_branch-case_branches-requires : goal.sums::case_branch-case_branches-requires
sums::case_branch-case_branches-requires t c = (omega (arith, c.decreases), (env-in c.in_ok-body.ensures.same c.requires.env, normal-in c.in_ok-body.ensures.same c.requires.normal))

pub sums::case_branch-returns-clause-refused : goal.sums::case_branch-returns-clause-refused
sums::case_branch-returns-clause-refused t c = let new = rw c.deref.ensures.value at c.in_ok-expect_new.ensures.given in err-map _ (rw c.in_ok-body.ensures.same at c.case_branches.ensures.refused) (λ e r. branches-later {x = spelled c.args.first.now.label} {y = spelled c.args.first.now.name} c.args.done.now.items c.add.new.done.items c.in_ok-body.body new c.in_ok-part.ensures.given c.in_ok-body.ensures.given c.in_ok-expect_same.ensures.given c.in_ok-add.ensures r)

pub sums::case_branch-returns-clause-given : goal.sums::case_branch-returns-clause-given
sums::case_branch-returns-clause-given t c = let new = rw c.deref.ensures.value at c.in_ok-expect_new.ensures.given in ok-map _ (rw c.in_ok-body.ensures.same at c.case_branches.ensures.given) (λ _ p. branches-next {x = spelled c.args.first.now.label} {y = spelled c.args.first.now.name} c.args.done.now.items c.add.new.done.items c.case_branches.new.done.items c.in_ok-body.body new c.in_ok-part.ensures.given c.in_ok-body.ensures.given c.in_ok-expect_same.ensures.given c.in_ok-add.ensures p)

-- rolled and unrolled values

pub sums::exp_roll-returns-in_err-found-clause-refused : goal.sums::exp_roll-returns-in_err-found-clause-refused
sums::exp_roll-returns-in_err-found-clause-refused t c = exit _ c.from_residual.result c.in_err-found.field-0.0 c.from_residual.ensures.1 (λ at. exp_roll-value c.in_err-found.ensures.refused)

pub sums::exp_roll-returns-in_err-to-clause-refused : goal.sums::exp_roll-returns-in_err-to-clause-refused
sums::exp_roll-returns-in_err-to-clause-refused t c = exit _ c.from_residual-in_err-to.result c.in_err-to.field-0.0 c.from_residual-in_err-to.ensures.1 (λ at. exp_roll-type c.in_ok-found.ensures.given (rw c.in_ok-found.ensures.same at c.in_err-to.ensures.refused))

pub sums::exp_roll-roll_rule-requires-clause-normal : goal.sums::exp_roll-roll_rule-requires-clause-normal
sums::exp_roll-roll_rule-requires-clause-normal t c = rw c.in_ok-to.ensures.star (type-normal c.in_ok-to.ensures.same (env-in c.in_ok-found.ensures.same c.requires) c.in_ok-to.ensures.given)

pub sums::exp_roll-returns-clause-refused : goal.sums::exp_roll-returns-clause-refused
sums::exp_roll-returns-clause-refused t c = let same = c.in_ok-found.ensures.same in err-at _ c.roll_rule.ensures.refused (λ e r at. exp_roll-rule c.in_ok-found.ensures.given (rw same at c.in_ok-to.ensures.given) (roll-at (c.in_ok-to.ensures.same ∙ same) (ap exp_span c.value.view_is) (ap ty_span c.target.view_is) r))

pub sums::exp_roll-returns-clause-given : goal.sums::exp_roll-returns-clause-given
sums::exp_roll-returns-clause-given t c = let same = c.in_ok-found.ensures.same in ok-at _ (rw (c.in_ok-to.ensures.same ∙ same, c.in_ok-to.ensures.star) at c.roll_rule.ensures.given) (λ o p at. exp_roll c.in_ok-found.ensures.given (rw same at c.in_ok-to.ensures.given) p)

pub sums::exp_unroll-returns-in_err-found-clause-refused : goal.sums::exp_unroll-returns-in_err-found-clause-refused
sums::exp_unroll-returns-in_err-found-clause-refused t c = exit _ c.from_residual.result c.in_err-found.field-0.0 c.from_residual.ensures.1 (λ at. exp_unroll-value c.in_err-found.ensures.refused)

pub sums::exp_unroll-unroll_rule-requires : goal.sums::exp_unroll-unroll_rule-requires
sums::exp_unroll-unroll_rule-requires t c = exp-normal c.in_ok-found.ensures.same c.requires c.in_ok-found.ensures.given

pub sums::exp_unroll-returns-clause-refused : goal.sums::exp_unroll-returns-clause-refused
sums::exp_unroll-returns-clause-refused t c = err-at _ c.unroll_rule.ensures.refused (λ e r at. exp_unroll-rule c.in_ok-found.ensures.given (rule-at c.in_ok-found.ensures.same (ap exp_span c.whole.view_is) r))

pub sums::exp_unroll-returns-clause-given : goal.sums::exp_unroll-returns-clause-given
sums::exp_unroll-returns-clause-given t c = ok-at _ (rw c.in_ok-found.ensures.same at c.unroll_rule.ensures.given) (λ o p at. exp_unroll c.in_ok-found.ensures.given p)

-- single declarations

pub declarations::decl-returns-in-TyOf-clause-given : goal.declarations::decl-returns-in-TyOf-clause-given
declarations::decl-returns-in-TyOf-clause-given t c = abstract-means c.args.env.now c.args.phrase.now c.phrase.inside.what c.phrase.inside.span c.in-TyOf.name c.in-TyOf.kind c.abstract_rule.result c.phrase.view_is c.in-TyOf.is c.abstract_rule.ensures.given

pub declarations::decl_module-returns-in_err-found-clause-refused : goal.declarations::decl_module-returns-in_err-found-clause-refused
declarations::decl_module-returns-in_err-found-clause-refused t c = exit _ c.from_residual.result c.in_err-found.field-0.0 c.from_residual.ensures.1 (λ at. decl_module-sig c.in_err-found.ensures.refused)

pub declarations::decl_module-returns-clause-given : goal.declarations::decl_module-returns-clause-given
declarations::decl_module-returns-clause-given t c = ok-at _ c.module_rule.ensures.given (λ x p at. DeclMeans.decl_module c.in_ok-found.ensures.given p)

pub declarations::decl_signature-returns-in_err-found-clause-refused : goal.declarations::decl_signature-returns-in_err-found-clause-refused
declarations::decl_signature-returns-in_err-found-clause-refused t c = exit _ c.from_residual.result c.in_err-found.field-0.0 c.from_residual.ensures.1 (λ at. decl_signature-sig c.in_err-found.ensures.refused)

pub declarations::decl_signature-returns-clause-given : goal.declarations::decl_signature-returns-clause-given
declarations::decl_signature-returns-clause-given t c = ok-at _ c.signature_rule.ensures.given (λ x p at. DeclMeans.decl_signature c.in_ok-found.ensures.given p)

pub declarations::decl_include-returns-in_err-found-clause-refused : goal.declarations::decl_include-returns-in_err-found-clause-refused
declarations::decl_include-returns-in_err-found-clause-refused t c = exit _ c.from_residual.result c.in_err-found.field-0.0 c.from_residual.ensures.1 (λ at. decl_include-sig c.in_err-found.ensures.refused)

pub declarations::decl_include-returns-clause-refused : goal.declarations::decl_include-returns-clause-refused
declarations::decl_include-returns-clause-refused t c = err-at _ c.include_rule.ensures.refused (λ e r at. decl_include-rule c.in_ok-found.ensures.given (rule-at c.in_ok-found.ensures.same (ap sig_span c.of.view_is) r))

pub declarations::decl_include-returns-clause-given : goal.declarations::decl_include-returns-clause-given
declarations::decl_include-returns-clause-given t c = ok-at _ c.include_rule.ensures.given (λ x p at. DeclMeans.decl_include c.in_ok-found.ensures.given p)

-- declarations in a row

pub declarations::decls-returns-in_err-head-in-len1-up-clause-refused : goal.declarations::decls-returns-in_err-head-in-len1-up-clause-refused
declarations::decls-returns-in_err-head-in-len1-up-clause-refused t c = exit _ c.from_residual.result c.in_err-head-in-len1-up.field-0.0 c.from_residual.ensures.1 (refused-row c.args.list.now c.first-item.result c.in-len1-up.len_at_least c.first-item.is (decls-first c.in_err-head-in-len1-up.ensures.refused))

pub declarations::decls-returns-in_err-distinct_rule-in-len1-up-clause-refused : goal.declarations::decls-returns-in_err-distinct_rule-in-len1-up-clause-refused
declarations::decls-returns-in_err-distinct_rule-in-len1-up-clause-refused t c = let head = c.in_ok-head-in-len1-up in exit _ c.from_residual-in_err-distinct_rule-in-len1-up.result c.in_err-distinct_rule-in-len1-up.field-0.0 c.from_residual-in_err-distinct_rule-in-len1-up.ensures.1 (refused-row c.args.list.now c.first-item.result c.in-len1-up.len_at_least c.first-item.is (decls-again-in head.head head.ensures.given (rule-at head.ensures.same c.decl_place.ensures c.in_err-distinct_rule-in-len1-up.ensures.refused)))

pub declarations::decls-decls_under-requires : goal.declarations::decls-decls_under-requires
declarations::decls-decls_under-requires t c = let head = c.in_ok-head-in-len1-up in (omega (arith, row-size c.args.list.now c.first-item.result c.in-len1-up.len_at_least c.first-item.is), (decl-in head.head head.ensures.same c.requires head.ensures.given, decl-body head.head head.ensures.given))

pub declarations::decls-returns-in_err-tail-in-len1-up-clause-refused : goal.declarations::decls-returns-in_err-tail-in-len1-up-clause-refused
declarations::decls-returns-in_err-tail-in-len1-up-clause-refused t c = let head = c.in_ok-head-in-len1-up in exit _ c.from_residual-in_err-tail-in-len1-up.result c.in_err-tail-in-len1-up.field-0.0 c.from_residual-in_err-tail-in-len1-up.ensures.1 (refused-row c.args.list.now c.first-item.result c.in-len1-up.len_at_least c.first-item.is (decls-in head.head head.ensures.given c.in_ok-distinct_rule-in-len1-up.ensures.given (rw head.ensures.same at c.in_err-tail-in-len1-up.ensures.refused)))

pub declarations::decls-returns-in-empty-clause-given : goal.declarations::decls-returns-in-empty-clause-given
declarations::decls-returns-in-empty-clause-given t c = no-row c.args.list.now c.in-empty.len_below c.new.ensures

pub declarations::decls-returns-in_ok-tail-in-len1-up-clause-given : goal.declarations::decls-returns-in_ok-tail-in-len1-up-clause-given
declarations::decls-returns-in_ok-tail-in-len1-up-clause-given t c = let head = c.in_ok-head-in-len1-up in let tail = c.in_ok-tail-in-len1-up in let later = rw head.ensures.same at tail.ensures.given in ok-map _ c.declarations_rule.ensures.given (λ x p. row-means c.args.list.now c.first-item.result c.in-len1-up.len_at_least c.first-item.is (decls-mean head.head tail.tail x head.ensures.given c.in_ok-distinct_rule-in-len1-up.ensures.given later p))

pub declarations::decls_under-decls-requires : goal.declarations::decls_under-decls-requires
declarations::decls_under-decls-requires t c = (omega arith, env-in (fields-env c.args.env.now c.push_type_vars.new.env c.push_fields.new.env c.args.head.now c.fields_of-fields.result.now c.kinds.result.now c.kinds.ensures c.fields_of-fields.ensures c.in_ok-push_type_vars.ensures c.in_ok-push_fields.ensures) c.requires.env)

pub declarations::decls_under-returns-clause-same : goal.declarations::decls_under-returns-clause-same
declarations::decls_under-returns-clause-same t c = let g = c.args.env.now in let fields = c.fields_of-fields.result.now in let entered = c.in_ok-found.ensures.same ∙ (c.in_ok-push_fields.ensures ∙ ap (λ e. named_fields e (sig_row fields)) (c.in_ok-push_type_vars.ensures ∙ ap (type_vars g) c.kinds.ensures)) in left-decl g (kinds_of c.args.head.now) c.kinds-2.result.now c.items-2.result.now fields c.items.result.now c.decls.new.env c.leave.new.env c.leave-2.new.env c.items.ensures.value c.items-2.ensures c.kinds-2.ensures entered c.leave.ensures c.leave-2.ensures

-- signatures of declarations

pub sigs::sig_decls-returns-in_err-found-clause-refused : goal.sigs::sig_decls-returns-in_err-found-clause-refused
sigs::sig_decls-returns-in_err-found-clause-refused t c = exit _ c.from_residual.result c.in_err-found.field-0.0 c.from_residual.ensures.1 (λ at. sig_decls-list (rw c.new.ensures at c.in_err-found.ensures.refused))

pub sigs::sig_decls-returns-clause-given : goal.sigs::sig_decls-returns-clause-given
sigs::sig_decls-returns-clause-given t c = λ at. SigMeans.sig_decls (rw c.in_ok-whole.ensures (rw c.new.ensures at c.in_ok-found.ensures.given))

-- signatures of functors

pub sigs::sig_under-sig-requires : goal.sigs::sig_under-sig-requires
sigs::sig_under-sig-requires t c = (omega arith, env-in c.in_ok-push_module.ensures c.requires)

pub sigs::sig_under-returns-clause-same : goal.sigs::sig_under-returns-clause-same
sigs::sig_under-returns-clause-same t c = left-under c.args.env.now c.args.param.now c.args.name.now c.items.result.now c.kinds.result.now (length c.items.result.now + 1) c.sig.new.env c.leave.new.env c.items.ensures c.kinds.ensures refl (c.in_ok-found.ensures.same ∙ c.in_ok-push_module.ensures) c.leave.ensures

pub sigs::sig_fun-returns-in_err-from-clause-refused : goal.sigs::sig_fun-returns-in_err-from-clause-refused
sigs::sig_fun-returns-in_err-from-clause-refused t c = exit _ c.from_residual.result c.in_err-from.field-0.0 c.from_residual.ensures.1 (λ at. sig_fun-param c.in_err-from.ensures.refused)

pub sigs::sig_fun-sig_under-requires : goal.sigs::sig_fun-sig_under-requires
sigs::sig_fun-sig_under-requires t c = (omega arith, param-in c.in_ok-from.from c.args.name.now.name c.in_ok-from.ensures.same c.requires c.in_ok-from.ensures.given)

pub sigs::sig_fun-returns-in_err-to-clause-refused : goal.sigs::sig_fun-returns-in_err-to-clause-refused
sigs::sig_fun-returns-in_err-to-clause-refused t c = exit _ c.from_residual-in_err-to.result c.in_err-to.field-0.0 c.from_residual-in_err-to.ensures.1 (λ at. sig_fun-in c.args.pure c.in_ok-from.from c.in_ok-from.ensures.given (rw c.in_ok-from.ensures.same at c.in_err-to.ensures.refused))

pub sigs::sig_fun-returns-then-pure-clause-given : goal.sigs::sig_fun-returns-then-pure-clause-given
sigs::sig_fun-returns-then-pure-clause-given t c = let from = c.in_ok-from in λ at. rw c.if-pure.true (lifted-means from.from c.in_ok-to.to c.in_ok-lift_rule.field-0 c.requires from.ensures.given (rw from.ensures.same at c.in_ok-to.ensures.given) c.in_ok-lift_rule.ensures)

pub sigs::sig_fun-returns-clause-given : goal.sigs::sig_fun-returns-clause-given
sigs::sig_fun-returns-clause-given t c = let same = c.in_ok-from.ensures.same in rw c.if-pure.false (ok-at _ c.functor_rule.ensures.given (λ x p at. generative-means c.in_ok-from.from c.in_ok-from.ensures.given (rw same at c.in_ok-to.ensures.given) p))

-- signatures in which a type is fixed

pub sigs::sig_refine-returns-in_err-found-clause-refused : goal.sigs::sig_refine-returns-in_err-found-clause-refused
sigs::sig_refine-returns-in_err-found-clause-refused t c = exit _ c.from_residual.result c.in_err-found.field-0.0 c.from_residual.ensures.1 (λ at. sig_refine-sig c.in_err-found.ensures.refused)

pub sigs::sig_refine-returns-in_err-fixed-clause-refused : goal.sigs::sig_refine-returns-in_err-fixed-clause-refused
sigs::sig_refine-returns-in_err-fixed-clause-refused t c = exit _ c.from_residual-in_err-fixed.result c.in_err-fixed.field-0.0 c.from_residual-in_err-fixed.ensures.1 (λ at. sig_refine-type c.in_ok-found.ensures.given (rw c.in_ok-found.ensures.same at c.in_err-fixed.ensures.refused))

pub sigs::sig_refine-where_rule-requires-clause-sig : goal.sigs::sig_refine-where_rule-requires-clause-sig
sigs::sig_refine-where_rule-requires-clause-sig t c = sig-in (c.in_ok-fixed.ensures.same ∙ c.in_ok-found.ensures.same) c.requires c.in_ok-found.ensures.given

pub sigs::sig_refine-where_rule-requires-clause-ty : goal.sigs::sig_refine-where_rule-requires-clause-ty
sigs::sig_refine-where_rule-requires-clause-ty t c = type-normal c.in_ok-fixed.ensures.same (env-in c.in_ok-found.ensures.same c.requires) c.in_ok-fixed.ensures.given

pub sigs::sig_refine-returns-clause-refused : goal.sigs::sig_refine-returns-clause-refused
sigs::sig_refine-returns-clause-refused t c = let same = c.in_ok-found.ensures.same in err-at _ (rw (c.in_ok-fixed.ensures.same ∙ same) at c.where_rule.ensures.refused) (λ e r at. refine-in c.in_ok-found.found c.in_ok-found.ensures.given (rw same at c.in_ok-fixed.ensures.given) r)

pub sigs::sig_refine-returns-clause-given : goal.sigs::sig_refine-returns-clause-given
sigs::sig_refine-returns-clause-given t c = ok-at _ (rw (c.in_ok-fixed.ensures.same ∙ c.in_ok-found.ensures.same) at c.where_rule.ensures.given) (λ x p at. SigMeans.sig_refine c.in_ok-found.ensures.given (rw c.in_ok-found.ensures.same at c.in_ok-fixed.ensures.given) p)

-- structures

pub modules::mod_struct-returns-clause-refused : goal.modules::mod_struct-returns-clause-refused
modules::mod_struct-returns-clause-refused t c = err-at _ (rw c.new.ensures at c.binds.ensures.refused) (λ e r at. mod_struct-list r)

pub modules::mod_struct-returns-clause-given : goal.modules::mod_struct-returns-clause-given
modules::mod_struct-returns-clause-given t c = ok-at _ (rw c.new.ensures at c.binds.ensures.given) (λ m p at. mod_struct p)

pub modules::mod_project-returns-in_err-found-clause-refused : goal.modules::mod_project-returns-in_err-found-clause-refused
modules::mod_project-returns-in_err-found-clause-refused t c = exit _ c.from_residual-in_err-found.result c.in_err-found.field-0.0 c.from_residual-in_err-found.ensures.1 (λ at. mod_project-whole c.in_err-found.ensures.refused)

pub modules::mod_project-returns-clause-refused : goal.modules::mod_project-returns-clause-refused
modules::mod_project-returns-clause-refused t c = err-at _ (rw c.in_ok-found.ensures.same at c.project_rule.ensures.refused) (λ e r at. mod_project-rule c.in_ok-found.ensures.given r)

pub modules::mod_project-returns-clause-given : goal.modules::mod_project-returns-clause-given
modules::mod_project-returns-clause-given t c = ok-at _ c.project_rule.ensures.given (λ m p at. mod_project c.in_ok-found.ensures.given (p _ (mod-kinded _ _ _ c.requires c.in_ok-found.ensures.given)))

-- functors

pub modules::mod_under-module-requires : goal.modules::mod_under-module-requires
modules::mod_under-module-requires t c = (omega arith, env-in c.in_ok-push_module.ensures c.requires)

pub modules::mod_under-returns-clause-same : goal.modules::mod_under-returns-clause-same
modules::mod_under-returns-clause-same t c = mods-left-under c.args.env.now c.items.result.now _ c.args.name.now _ _ _ (c.items.ensures ∙ c.kinds.ensures) (c.in_ok-found.ensures.same ∙ c.in_ok-push_module.ensures) c.leave.ensures

pub modules::mod_functor-returns-in_err-from-clause-refused : goal.modules::mod_functor-returns-in_err-from-clause-refused
modules::mod_functor-returns-in_err-from-clause-refused t c = exit _ c.from_residual.result c.in_err-from.field-0.0 c.from_residual.ensures.1 (λ at. mod_functor-param c.in_err-from.ensures.refused)

pub modules::mod_functor-mod_under-requires : goal.modules::mod_functor-mod_under-requires
modules::mod_functor-mod_under-requires t c = (omega arith, rw c.in_ok-from.ensures.same (param-env _ _ c.in_ok-from.from c.args.name.now.name c.requires c.in_ok-from.ensures.given))

pub modules::mod_functor-returns-in_err-inner-clause-refused : goal.modules::mod_functor-returns-in_err-inner-clause-refused
modules::mod_functor-returns-in_err-inner-clause-refused t c = exit _ c.from_residual-in_err-inner.result c.in_err-inner.field-0.0 c.from_residual-in_err-inner.ensures.1 (λ at. mod_functor-in c.in_ok-from.from c.in_ok-from.ensures.given (rw c.in_ok-from.ensures.same at c.in_err-inner.ensures.refused))

pub modules::mod_functor-returns-clause-given : goal.modules::mod_functor-returns-clause-given
modules::mod_functor-returns-clause-given t c = let means = c.in_ok-from.ensures.given in let body = rw c.in_ok-from.ensures.same at c.in_ok-inner.ensures.given in λ at. functor-means c.args.generative c.in_ok-from.from _ means body (c.in_ok-functor_rule.ensures _ (sig_ok _ _ _ c.requires means) (body-module _ _ _ _ _ _ c.requires means body))

-- single bindings

pub bindings::bind-returns-in_err-found-in-Val-clause-refused : goal.bindings::bind-returns-in_err-found-in-Val-clause-refused
bindings::bind-returns-in_err-found-in-Val-clause-refused t c = exit _ c.from_residual.result c.in_err-found-in-Val.field-0.0 c.from_residual.ensures.1 (refused-bind c.phrase.view_is c.in-Val.is (bind_val-value c.in_err-found-in-Val.ensures.refused))

pub bindings::bind-returns-in_err-found-in-Ty-clause-refused : goal.bindings::bind-returns-in_err-found-in-Ty-clause-refused
bindings::bind-returns-in_err-found-in-Ty-clause-refused t c = exit _ c.from_residual-in_err-found-in-Ty.result c.in_err-found-in-Ty.field-0.0 c.from_residual-in_err-found-in-Ty.ensures.1 (refused-bind c.phrase.view_is c.in-Ty.is (bind_ty-type c.in_err-found-in-Ty.ensures.refused))

pub bindings::bind-returns-in_err-made-in-Module-clause-refused : goal.bindings::bind-returns-in_err-made-in-Module-clause-refused
bindings::bind-returns-in_err-made-in-Module-clause-refused t c = exit _ c.from_residual-in_err-made-in-Module.result c.in_err-made-in-Module.field-0.0 c.from_residual-in_err-made-in-Module.ensures.1 (refused-bind c.phrase.view_is c.in-Module.is (bind_module-module c.in_err-made-in-Module.ensures.refused))

pub bindings::bind-returns-in_err-found-in-Signature-clause-refused : goal.bindings::bind-returns-in_err-found-in-Signature-clause-refused
bindings::bind-returns-in_err-found-in-Signature-clause-refused t c = exit _ c.from_residual-in_err-found-in-Signature.result c.in_err-found-in-Signature.field-0.0 c.from_residual-in_err-found-in-Signature.ensures.1 (refused-bind c.phrase.view_is c.in-Signature.is (bind_signature-sig c.in_err-found-in-Signature.ensures.refused))

pub bindings::bind-returns-in_ok-own-in-Val-clause-given : goal.bindings::bind-returns-in_ok-own-in-Val-clause-given
bindings::bind-returns-in_ok-own-in-Val-clause-given t c = means-bind c.phrase.view_is c.in-Val.is c.in_ok-own-in-Val.ensures (bind_val c.in_ok-found-in-Val.ensures.given c.in_ok-made-in-Val.ensures)

pub bindings::bind-returns-in_ok-own-in-Ty-clause-given : goal.bindings::bind-returns-in_ok-own-in-Ty-clause-given
bindings::bind-returns-in_ok-own-in-Ty-clause-given t c = means-bind c.phrase.view_is c.in-Ty.is c.in_ok-own-in-Ty.ensures (bind_ty c.in_ok-found-in-Ty.ensures.given c.in_ok-made-in-Ty.ensures)

pub bindings::bind-returns-in_ok-own-in-Module-clause-given : goal.bindings::bind-returns-in_ok-own-in-Module-clause-given
bindings::bind-returns-in_ok-own-in-Module-clause-given t c = means-bind c.phrase.view_is c.in-Module.is c.in_ok-own-in-Module.ensures (bind_module c.in_ok-made-in-Module.ensures.given)

pub bindings::bind-returns-in_ok-own-in-Signature-clause-given : goal.bindings::bind-returns-in_ok-own-in-Signature-clause-given
bindings::bind-returns-in_ok-own-in-Signature-clause-given t c = means-bind c.phrase.view_is c.in-Signature.is c.in_ok-own-in-Signature.ensures (bind_signature c.in_ok-found-in-Signature.ensures.given c.in_ok-made-in-Signature.ensures)

pub bindings::bind-returns-in-Include-clause-refused : goal.bindings::bind-returns-in-Include-clause-refused
bindings::bind-returns-in-Include-clause-refused t c = refused-bind c.phrase.view_is c.in-Include.is (bind-include c.refuse.ensures)

-- bindings in a row

pub bindings::binds-returns-clause-given : goal.bindings::binds-returns-clause-given
bindings::binds-returns-clause-given t c = joined c.args.env.now c.args.before (binds c.args.list.now) c.in_ok-rest.rest (module_of c.in_ok-whole.whole) c.requires.env c.requires.names.1 c.in_ok-rest.ensures.given c.in_ok-whole.ensures

pub bindings::gathered-returns-in_ok-end-in-empty-clause-given : goal.bindings::gathered-returns-in_ok-end-in-empty-clause-given
bindings::gathered-returns-in_ok-end-in-empty-clause-given t c = (module_of c.in_ok-end-in-empty.end, ended c.args.list.now (module_of c.in_ok-end-in-empty.end) c.in-empty.len_below c.requires.names c.in_ok-end-in-empty.ensures, c.of.ensures (kinds c.args.env.now))

pub bindings::binds_under-returns-clause-same : goal.bindings::binds_under-returns-clause-same
bindings::binds_under-returns-clause-same t c = mods-left-under c.args.env.now c.items.result.now _ c.args.name.now _ _ _ (c.items.ensures ∙ c.kinds.ensures) (c.in_ok-found.ensures.same ∙ c.in_ok-push_module.ensures) c.leave.ensures

pub bindings::included-returns-in_err-head-clause-refused : goal.bindings::included-returns-in_err-head-clause-refused
bindings::included-returns-in_err-head-clause-refused t c = exit _ c.from_residual.result c.in_err-head.field-0.0 c.from_residual.ensures.1 (λ at. include-module c.in_err-head.ensures.refused)

pub bindings::included-returns-in_default-clause-refused : goal.bindings::included-returns-in_default-clause-refused
bindings::included-returns-in_default-clause-refused t c = λ at. include-none c.in_ok-head.head.sig c.in_ok-head.ensures.given (λ fs e. c.in_default.ensures fs (c.body.ensures ∙ e)) (placed-at c.in_ok-head.ensures.same (ap mod_span c.whole.view_is) c.refuse.ensures)

pub bindings::included-included_under-requires : goal.bindings::included-included_under-requires
bindings::included-included_under-requires t c = let same = c.in_ok-head.ensures.same in let is = sym c.body.ensures ∙ c.in-Some.ensures in (omega (arith, c.decreases), (rw same (included-env _ _ _ c.in_ok-head.head.sig _ _ _ c.requires.env c.in_ok-head.ensures.given is), rw same (included-names c.args.env.now c.in_ok-head.head.sig (sig_row c.in-Some.fields.now) c.args.before c.requires.names)))

pub bindings::included-returns-in_err-tail-clause-refused : goal.bindings::included-returns-in_err-tail-clause-refused
bindings::included-returns-in_err-tail-clause-refused t c = exit _ c.from_residual-in_err-tail.result c.in_err-tail.field-0.0 c.from_residual-in_err-tail.ensures.1 (λ at. include-in c.in_ok-head.head.sig c.in_ok-head.ensures.given (sym c.body.ensures ∙ c.in-Some.ensures) (rw c.in_ok-head.ensures.same at c.in_err-tail.ensures.refused))

pub bindings::included-include_rule-requires : goal.bindings::included-include_rule-requires
bindings::included-include_rule-requires t c = is-structure c.in_ok-head.head.effect c.in_ok-head.head.sig c.in_ok-head.head.types c.in_ok-head.head.term _ (sym c.body.ensures ∙ c.in-Some.ensures)

pub bindings::included-returns-clause-given : goal.bindings::included-returns-clause-given
bindings::included-returns-clause-given t c = let y = c.in_ok-head.head.sig in let means = c.in_ok-head.ensures.given in let is = sym c.body.ensures ∙ c.in-Some.ensures in let tail = rw c.in_ok-head.ensures.same at c.in_ok-tail.ensures.given in let rest = include-joined c.args.env.now c.args.before c.args.whole.now (binds c.args.rest.now) c.in_ok-head.head.effect y c.in_ok-head.head.types c.in_ok-head.head.term (sig_row c.in-Some.fields.now) c.in_ok-tail.tail (module_of c.in_ok-last.last) c.requires.env c.requires.names means is tail c.in_ok-last.ensures in λ at. (module_of c.in_ok-made.made, include-means y means is rest (c.in_ok-made.ensures (kinds c.args.env.now) (mod-kinded _ _ _ c.requires.env means) (include-rest _ _ _ _ y _ _ _ _ _ c.requires.env c.requires.names means is rest)), c.of.ensures (kinds c.args.env.now))

pub bindings::included_under-returns-clause-same : goal.bindings::included_under-returns-clause-same
bindings::included_under-returns-clause-same t c = left-included c.args.env.now c.items-2.result.now c.args.head.now c.args.fields.now c.items.result.now _ _ _ c.items.ensures.value (c.items-2.ensures ∙ c.kinds.ensures) (c.in_ok-found.ensures.same ∙ c.in_ok-push_included.ensures) c.leave.ensures c.leave-2.ensures

pub bindings::binds_from-included-requires : goal.bindings::binds_from-included-requires
bindings::binds_from-included-requires t c = (omega (arith, c.decreases, include-size c.args.first.now c.in-Some.whole.now c.in-Some.ensures), (c.requires.env, c.requires.names))

pub bindings::binds_from-returns-clause-given : goal.bindings::binds_from-returns-clause-given
bindings::binds_from-returns-clause-given t c = ok-map {P = λ r. (at : Span) → RestMeans c.args.env.now c.args.before (MoreBinds (BindAt at (BindInclude c.in-Some.whole.now)) (binds c.args.rest.now)) r} {Q = λ r. RestMeans c.args.env.now c.args.before (MoreBinds c.args.first.now (binds c.args.rest.now)) r} c.included.result c.included.ensures.given (λ r p. rw c.in-Some.ensures.1 (p c.in-Some.ensures.0))

pub bindings::binds_from-returns-clause-refused : goal.bindings::binds_from-returns-clause-refused
bindings::binds_from-returns-clause-refused t c = err-map {P = λ e. (at : Span) → RefusedAs c.args.env.now (binds_task c.args.before (MoreBinds (BindAt at (BindInclude c.in-Some.whole.now)) (binds c.args.rest.now))) e} {Q = λ e. RefusedAs c.args.env.now (binds_task c.args.before (MoreBinds c.args.first.now (binds c.args.rest.now))) e} c.included.result c.included.ensures.refused (λ e r. rw c.in-Some.ensures.1 (r c.in-Some.ensures.0))

pub bindings::bound-returns-in_err-own-clause-refused : goal.bindings::bound-returns-in_err-own-clause-refused
bindings::bound-returns-in_err-own-clause-refused t c = exit _ c.from_residual.result c.in_err-own.field-0.0 c.from_residual.ensures.1 (binds-first c.args.first.now c.requires.single c.in_err-own.ensures.refused)

pub bindings::bound-binds_under-requires : goal.bindings::bound-binds_under-requires
bindings::bound-binds_under-requires t c = let same = c.in_ok-own.ensures.same in (omega (arith, c.decreases), (rw same (bind-env _ c.args.first.now _ _ _ _ _ c.requires.env c.in_ok-own.ensures.given), rw same (bind-names c.args.env.now c.in_ok-own.own.0 c.in_ok-own.own.1.sig c.args.before c.requires.names)))

pub bindings::bound-returns-in_err-tail-clause-refused : goal.bindings::bound-returns-in_err-tail-clause-refused
bindings::bound-returns-in_err-tail-clause-refused t c = exit _ c.from_residual-in_err-tail.result c.in_err-tail.field-0.0 c.from_residual-in_err-tail.ensures.1 (binds-in c.args.first.now c.in_ok-own.own.1.sig c.requires.single c.in_ok-own.ensures.given (rw c.in_ok-own.ensures.same at c.in_err-tail.ensures.refused))

pub bindings::bound-returns-clause-given : goal.bindings::bound-returns-clause-given
bindings::bound-returns-clause-given t c = bind-rest c.args.env.now c.args.before (binds c.args.rest.now) c.in_ok-own.own.0 c.args.first.now c.in_ok-own.own.1.effect c.in_ok-own.own.1.sig c.in_ok-own.own.1.types c.in_ok-own.own.1.term c.in_ok-tail.tail c.in_ok-more.more c.requires.env c.requires.names c.in_ok-own.ensures.given (rw c.in_ok-own.ensures.same at c.in_ok-tail.ensures.given) c.in_ok-more.ensures

pub declarations::decl_val-returns-in_err-found-clause-refused : goal.declarations::decl_val-returns-in_err-found-clause-refused
declarations::decl_val-returns-in_err-found-clause-refused t c = exit _ c.from_residual.result c.in_err-found.field-0.0 c.from_residual.ensures.1 (λ at. decl_val-type c.in_err-found.ensures.refused)

pub declarations::decl_val-returns-clause-refused : goal.declarations::decl_val-returns-clause-refused
declarations::decl_val-returns-clause-refused t c = err-at _ c.value_rule.ensures.refused (λ e r at. decl_val-rule c.in_ok-found.ensures.given (rule-at c.in_ok-found.ensures.same (ap ty_span c.of.view_is) r))

pub declarations::decl_val-returns-clause-given : goal.declarations::decl_val-returns-clause-given
declarations::decl_val-returns-clause-given t c = ok-at _ c.value_rule.ensures.given (λ x p at. DeclMeans.decl_val c.in_ok-found.ensures.given p)

pub declarations::decl_is-returns-in_err-found-clause-refused : goal.declarations::decl_is-returns-in_err-found-clause-refused
declarations::decl_is-returns-in_err-found-clause-refused t c = exit _ c.from_residual.result c.in_err-found.field-0.0 c.from_residual.ensures.1 (λ at. decl_is-type c.in_err-found.ensures.refused)

pub declarations::decl_is-returns-clause-given : goal.declarations::decl_is-returns-clause-given
declarations::decl_is-returns-clause-given t c = ok-at _ c.type_rule.ensures.given (λ x p at. DeclMeans.decl_is c.in_ok-found.ensures.given p)

pub sigs::path_sig-returns-in_err-found-clause-refused : goal.sigs::path_sig-returns-in_err-found-clause-refused
sigs::path_sig-returns-in_err-found-clause-refused t c = exit _ c.from_residual.result c.in_err-found.field-0.0 c.from_residual.ensures.1 (sig_path-module c.in_err-found.ensures.refused)

pub sigs::path_sig-sig_path_rule-requires : goal.sigs::path_sig-sig_path_rule-requires
sigs::path_sig-sig_path_rule-requires t c = module-in c.in_ok-found.ensures.same c.requires c.in_ok-found.ensures.given

pub sigs::path_sig-returns-clause-refused : goal.sigs::path_sig-returns-clause-refused
sigs::path_sig-returns-clause-refused t c = err-map _ (rw c.in_ok-found.ensures.same at c.sig_path_rule.ensures.refused) (λ e r. sig_path-use c.in_ok-found.ensures.given r)

pub sigs::path_sig-returns-clause-given : goal.sigs::path_sig-returns-clause-given
sigs::path_sig-returns-clause-given t c = ok-map _ (rw c.in_ok-found.ensures.same at c.sig_path_rule.ensures.given) (λ x p. SigMeans.sig_path c.in_ok-found.ensures.given p)

pub modules::mod_seal-returns-in_err-found-clause-refused : goal.modules::mod_seal-returns-in_err-found-clause-refused
modules::mod_seal-returns-in_err-found-clause-refused t c = exit _ c.from_residual.result c.in_err-found.field-0.0 c.from_residual.ensures.1 (λ at. mod_seal-name c.in_err-found.ensures.refused)

pub modules::mod_seal-returns-in_err-target-clause-refused : goal.modules::mod_seal-returns-in_err-target-clause-refused
modules::mod_seal-returns-in_err-target-clause-refused t c = exit _ c.from_residual-in_err-target.result c.in_err-target.field-0.0 c.from_residual-in_err-target.ensures.1 (λ at. mod_seal-sig c.in_ok-found.ensures.found c.in_err-target.ensures.refused)

pub modules::mod_seal-match_rule-requires-clause-left : goal.modules::mod_seal-match_rule-requires-clause-left
modules::mod_seal-match_rule-requires-clause-left t c = rw (c.in_ok-target.ensures.same, c.body.ensures) (find-good c.args.env.now _ c.requires _ c.in_ok-found.ensures.found)

pub modules::mod_seal-match_rule-requires-clause-right : goal.modules::mod_seal-match_rule-requires-clause-right
modules::mod_seal-match_rule-requires-clause-right t c = rw c.in_ok-target.ensures.same (sig_ok _ _ _ c.requires c.in_ok-target.ensures.given)

pub modules::mod_seal-returns-in_err-matched-clause-refused : goal.modules::mod_seal-returns-in_err-matched-clause-refused
modules::mod_seal-returns-in_err-matched-clause-refused t c = exit _ c.from_residual-in_err-matched.result c.in_err-matched.field-0.0 c.from_residual-in_err-matched.ensures.1 (λ at. mod_seal-match c.in_ok-found.ensures.found c.in_ok-target.ensures.given (rw (c.in_ok-target.ensures.same, c.body.ensures, ap sig_span c.by.view_is) at c.in_err-matched.ensures.refused))

pub modules::mod_seal-returns-clause-given : goal.modules::mod_seal-returns-clause-given
modules::mod_seal-returns-clause-given t c = λ at. mod_seal c.in_ok-found.ensures.found c.in_ok-target.ensures.given (rw (c.in_ok-target.ensures.same, c.body.ensures) at c.in_ok-matched.ensures.given) c.in_ok-seal.ensures

pub modules::mod_unpack-returns-in_err-packed-clause-refused : goal.modules::mod_unpack-returns-in_err-packed-clause-refused
modules::mod_unpack-returns-in_err-packed-clause-refused t c = exit _ c.from_residual.result c.in_err-packed.field-0.0 c.from_residual.ensures.1 (λ at. mod_unpack-value c.in_err-packed.ensures.refused)

pub modules::mod_unpack-returns-in_err-target-clause-refused : goal.modules::mod_unpack-returns-in_err-target-clause-refused
modules::mod_unpack-returns-in_err-target-clause-refused t c = exit _ c.from_residual-in_err-target.result c.in_err-target.field-0.0 c.from_residual-in_err-target.ensures.1 (λ at. mod_unpack-sig c.in_ok-packed.ensures.given (rw c.in_ok-packed.ensures.same at c.in_err-target.ensures.refused))

pub modules::mod_unpack-returns-clause-refused : goal.modules::mod_unpack-returns-clause-refused
modules::mod_unpack-returns-clause-refused t c = let same = c.in_ok-packed.ensures.same in let means = rw same at c.in_ok-target.ensures.given in err-at _ (rw (c.in_ok-target.ensures.same, same, ap exp_span c.value.view_is) at c.unpack_rule.ensures.refused) (λ e r at. mod_unpack-rule c.in_ok-packed.ensures.given means (c.in_ok-order.ensures.value _ (sig_ok _ _ _ c.requires means)) r)

pub modules::mod_unpack-returns-clause-given : goal.modules::mod_unpack-returns-clause-given
modules::mod_unpack-returns-clause-given t c = let means = rw c.in_ok-packed.ensures.same at c.in_ok-target.ensures.given in ok-at _ c.unpack_rule.ensures.given (λ m p at. mod_unpack c.in_ok-packed.ensures.given means (c.in_ok-order.ensures.value _ (sig_ok _ _ _ c.requires means)) p)

pub uses::path_type-returns-in_err-found-clause-refused : goal.uses::path_type-returns-in_err-found-clause-refused
uses::path_type-returns-in_err-found-clause-refused t c = exit _ c.from_residual.result c.in_err-found.field-0.0 c.from_residual.ensures.1 (ty_path-module c.in_err-found.ensures.refused)

pub uses::path_type-type_path_rule-requires : goal.uses::path_type-type_path_rule-requires
uses::path_type-type_path_rule-requires t c = module-in c.in_ok-found.ensures.same c.requires c.in_ok-found.ensures.given

pub uses::path_type-returns-clause-refused : goal.uses::path_type-returns-clause-refused
uses::path_type-returns-clause-refused t c = err-map _ (rw c.in_ok-found.ensures.same at c.type_path_rule.ensures.refused) (λ e r. ty_path-use c.in_ok-found.ensures.given r)

pub uses::path_type-returns-clause-given : goal.uses::path_type-returns-clause-given
uses::path_type-returns-clause-given t c = ok-map _ (rw c.in_ok-found.ensures.same at c.type_path_rule.ensures.given) (λ o p. ty_path c.in_ok-found.ensures.given p)

pub uses::pack_type-returns-in_err-target-clause-refused : goal.uses::pack_type-returns-in_err-target-clause-refused
uses::pack_type-returns-in_err-target-clause-refused t c = exit _ c.from_residual.result c.in_err-target.field-0.0 c.from_residual.ensures.1 (λ at. ty_pack-sig c.in_err-target.ensures.refused)

pub uses::pack_type-returns-clause-given : goal.uses::pack_type-returns-clause-given
uses::pack_type-returns-clause-given t c = λ at. rw c.in_ok-pack_type.ensures.kind (ty_pack c.in_ok-target.ensures.given (c.in_ok-pack_type.ensures.given (kinds c.args.env.now) (sig_ok _ _ _ c.requires c.in_ok-target.ensures.given)))

pub uses::path_value-returns-in_err-found-clause-refused : goal.uses::path_value-returns-in_err-found-clause-refused
uses::path_value-returns-in_err-found-clause-refused t c = exit _ c.from_residual.result c.in_err-found.field-0.0 c.from_residual.ensures.1 (exp_path-module c.in_err-found.ensures.refused)

pub uses::path_value-value_path_rule-requires : goal.uses::path_value-value_path_rule-requires
uses::path_value-value_path_rule-requires t c = module-in c.in_ok-found.ensures.same c.requires c.in_ok-found.ensures.given

pub uses::path_value-returns-clause-refused : goal.uses::path_value-returns-clause-refused
uses::path_value-returns-clause-refused t c = err-map _ (rw c.in_ok-found.ensures.same at c.value_path_rule.ensures.refused) (λ e r. exp_path-use c.in_ok-found.ensures.given r)

pub uses::path_value-returns-clause-given : goal.uses::path_value-returns-clause-given
uses::path_value-returns-clause-given t c = ok-map _ (rw c.in_ok-found.ensures.same at c.value_path_rule.ensures.given) (λ o p. exp_path c.in_ok-found.ensures.given p)

pub uses::pack_value-returns-in_err-found-clause-refused : goal.uses::pack_value-returns-in_err-found-clause-refused
uses::pack_value-returns-in_err-found-clause-refused t c = exit _ c.from_residual.result c.in_err-found.field-0.0 c.from_residual.ensures.1 (λ at. exp_pack-name {x = spelled c.args.name.now} c.in_err-found.ensures.refused)

pub uses::pack_value-returns-in_err-target-clause-refused : goal.uses::pack_value-returns-in_err-target-clause-refused
uses::pack_value-returns-in_err-target-clause-refused t c = exit _ c.from_residual-in_err-target.result c.in_err-target.field-0.0 c.from_residual-in_err-target.ensures.1 (λ at. exp_pack-sig {x = spelled c.args.name.now} c.in_ok-found.ensures.found c.in_err-target.ensures.refused)

pub uses::pack_value-match_rule-requires-clause-left : goal.uses::pack_value-match_rule-requires-clause-left
uses::pack_value-match_rule-requires-clause-left t c = found-in c.args.name.now.name c.in_ok-target.ensures.same c.requires c.in_ok-found.ensures.found c.body.ensures

pub uses::pack_value-match_rule-requires-clause-right : goal.uses::pack_value-match_rule-requires-clause-right
uses::pack_value-match_rule-requires-clause-right t c = c.in_ok-ordered.ensures.good _ (sig-in c.in_ok-target.ensures.same c.requires c.in_ok-target.ensures.given)

pub uses::pack_value-returns-in_err-matched-clause-refused : goal.uses::pack_value-returns-in_err-matched-clause-refused
uses::pack_value-returns-in_err-matched-clause-refused t c = exit _ c.from_residual-in_err-matched.result c.in_err-matched.field-0.0 c.from_residual-in_err-matched.ensures.1 (λ at. pack-unmatched {x = spelled c.args.name.now} c.requires c.in_ok-target.ensures.same c.in_ok-found.ensures.found c.in_ok-target.ensures.given c.in_ok-ordered.ensures.value c.body.ensures (ap sig_span c.by.view_is) c.in_err-matched.ensures.refused)

pub uses::pack_value-returns-clause-given : goal.uses::pack_value-returns-clause-given
uses::pack_value-returns-clause-given t c = λ at. pack-means {x = spelled c.args.name.now} c.requires c.in_ok-target.ensures.same c.in_ok-found.ensures.found c.in_ok-target.ensures.given c.in_ok-ordered.ensures.value c.in_ok-ordered.ensures.good c.body.ensures c.in_ok-matched.ensures.given c.items-types.ensures c.in_ok-pack_value.ensures
