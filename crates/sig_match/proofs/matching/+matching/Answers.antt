use Rattle.std.proofs.Common.{◌+◌, ◌∷◌, length, map, rules, None, Ok, Err, IfOk, sym, ap, ◌∙◌, subst, arith}
use Rattle.std.proofs.lemmas.Result.{IfOk-weaker, err_from_is_err_and}
use Rattle.omega_kinds.specs.View.{kind_tree}
use Rattle.omega_kinds.specs.declared.effect.Effect.TheVariants.{Pure}
use Rattle.semantic_sigs.specs.Inner.Fields.{SigPairs, sig_row}
use Rattle.semantic_sigs.specs.Inner.Items.{item_of}
use Rattle.semantic_sigs.specs.Inner.View.{sig_of, kinds_of}
use Rattle.sig_definitions.specs.Explicit.SigPath.{Item}
use Rattle.sig_definitions.specs.Signatures.Sig.{Sig}
use Rattle.sig_definitions.specs.Signatures.SigSize.{size, size_abs, size_row}
use Rattle.sig_laws.proofs.Algebra.SizeLaws.{field-size, size_abs-rename}
use Rattle.sig_cut_laws.proofs.Cuts.{no_larger}
use Rattle.sig_match.specs.Inner.Looking.{EachLook, EachLookInto, NextSides}
use Rattle.sig_match.specs.Inner.Outcomes.{EachSub, MaySub}
use Rattle.sig_match.specs.Inner.Refusals.{plain_refusal}
use Rattle.omega_types.specs.Binders.{past}
use Rattle.sig_definitions.specs.Matching.MatchRefusal.{Effects, RefusesSub}
use Rattle.sig_definitions.specs.Signatures.Encoding.{enc}
use Rattle.sig_match.proofs.PutSteps.{raised-past}
use Rattle.sig_match.proofs.SubSteps.{clashed, abs-size, labelled-none, meta-form, fields-form, functor-form, label-follows, labelled-next, item-size}
use Rattle.sig_match.proofs.NextSteps.{rooted}
use Rattle.sig_match.proofs.MadeSteps.{hold-none, known-is, key-holds}
use Rattle.sig_match.proofs.CallSteps.{none-below, result-may_pure, result-pure, result-may_impure, result-impure, match-may_put, match-may_sub, match-in, match-in_no, EachFirst, EachRoots, next-may, next-refused, next-first, all-first, none-first, length-more, root-may_look, root-has, root-lacks, part-size, look-end, look-may_part, look-part, look-no_left, look-no_right, look-arg, look-meta, look-may_put, cut-may_look, cut-each_look, look-may_into, look-into, into-no_left, into-no_right, into-impure, pure-sides, pure-looks, param-may_match, param-may_put, param-size, if-matched, target-made, target-refused, target-none, target-may_look, target-looks, inner-is, inner-at, arg-refused, functor-effects, functor-may_put, functor-may_result, functor-res, functor-ok, may-sub, each-sub, each-plain, each-form, meta-first, meta-second, meta-refused, meta-refused_back, meta-ok, meta-alike, field-left, field-ok, field-no, field-missing, parts-none, item-may_sub, each-parts, parts-refused, parts-same, abs-may, abs-refused, abs-ok}
use Rattle.sig_match.proofs.matching.+matching.Goals as goal

pub match_in-look_all-requires : goal.match_in-look_all-requires
match_in-look_all-requires t c = (omega (arith, c.decreases), (c.requires, hold-none c.new-made.result.items (search rules)))

pub match_in-at_types-requires : goal.match_in-at_types-requires
match_in-at_types-requires t c = match-may_put c.args.depth c.args.left.now c.args.right.now c.in_ok-types.types c.requires c.in_ok-types.ensures.found

pub match_in-sub_sig-requires : goal.match_in-sub_sig-requires
match_in-sub_sig-requires t c = (omega (arith, abs-size c.args.right.now, c.in_ok-at.ensures.size, c.decreases), (match-may_sub c.args.depth c.args.left.now c.args.right.now c.in_ok-types.types c.in_ok-at.at c.requires c.in_ok-types.ensures.found c.in_ok-at.ensures.at, rw c.deref.ensures.value c.in_ok-types.ensures.made))

pub match_in-returns-in_err-types : goal.match_in-returns-in_err-types
match_in-returns-in_err-types t c = let p = err_from_is_err_and c.from_residual.result c.from_residual.ensures.1 in rw (p.1, p.2) (c.in_err-types.ensures.found)

pub match_in-returns-in_err-at : goal.match_in-returns-in_err-at
match_in-returns-in_err-at t c = let p = err_from_is_err_and c.from_residual-in_err-at.result c.from_residual-in_err-at.ensures.1 in rw (p.1, p.2) (λ ctx l w v. tt)

pub match_in-returns-in_err-coercion : goal.match_in-returns-in_err-coercion
match_in-returns-in_err-coercion t c = let p = err_from_is_err_and c.from_residual-in_err-coercion.result c.from_residual-in_err-coercion.ensures.1 in rw (p.1, p.2) (match-in_no c.args.depth c.args.left.now c.args.right.now c.in_ok-types.types c.in_ok-at.at c.in_err-coercion.field-0.0 c.in_ok-types.ensures.found c.in_ok-at.ensures.at c.in_err-coercion.ensures)

pub match_in-returns : goal.match_in-returns
match_in-returns t c = match-in c.args.depth c.args.left.now c.args.right.now c.in_ok-types.types c.in_ok-at.at c.in_ok-coercion.coercion c.in_ok-types.ensures.found c.in_ok-at.ensures.at c.in_ok-coercion.ensures

pub look_all-returns-in_err-roots-clause-found : goal.look_all-returns-in_err-roots-clause-found
look_all-returns-in_err-roots-clause-found t c = let p = err_from_is_err_and c.from_residual.result c.from_residual.ensures.1 in rw (p.1, p.2) (λ ctx l w v. tt)

pub look_all-returns-in_err-push-clause-found : goal.look_all-returns-in_err-push-clause-found
look_all-returns-in_err-push-clause-found t c = let p = err_from_is_err_and c.from_residual-in_err-push.result c.from_residual-in_err-push.ensures.1 in rw (p.1, p.2) (λ ctx l w v. tt)

pub look_all-loop-root-init : goal.look_all-loop-root-init
look_all-loop-root-init t c = (c.requires.made, ap length c.new-found.ensures, subst (EachFirst c.args.depth c.args.left.now c.args.right.now) (sym c.new-found.ensures) (none-first c.args.depth c.args.left.now c.args.right.now))

pub look_all-look_root-requires : goal.look_all-look_root-requires
look_all-look_root-requires t c = (omega (arith, c.decreases), (next-may c.args.depth c.args.left.now c.args.right.now c.loop-root.found c.deref-root-items.result.now c.root-item.result c.loop-root.root-index c.requires.sides (subst (EachRoots c.args.right.now) (sym c.deref-root-items.ensures.value) c.in_ok-roots.ensures.roots) (ap length c.deref-root-items.ensures.value ∙ c.in_ok-roots.ensures.count) c.loop-root-test.true c.root-item.is c.loop-root.invariant.1 c.loop-root.invariant.2, c.loop-root.invariant.0))

pub look_all-returns-in_err-ty-clause-found : goal.look_all-returns-in_err-ty-clause-found
look_all-returns-in_err-ty-clause-found t c = let p = err_from_is_err_and c.from_residual-in_err-ty.result c.from_residual-in_err-ty.ensures.1 in rw (p.1, p.2) (next-refused c.args.depth c.args.left.now c.args.right.now c.loop-root.found c.deref-root-items.result.now c.root-item.result c.loop-root.root-index c.in_err-ty.field-0.0 (subst (EachRoots c.args.right.now) (sym c.deref-root-items.ensures.value) c.in_ok-roots.ensures.roots) (ap length c.deref-root-items.ensures.value ∙ c.in_ok-roots.ensures.count) c.loop-root-test.true c.root-item.is c.loop-root.invariant.1 c.loop-root.invariant.2 c.in_err-ty.ensures.found)

pub look_all-loop-root-preserved : goal.look_all-loop-root-preserved
look_all-loop-root-preserved t c = (c.in_ok-ty.ensures.made, length-more c.loop-root.found c.push.new.self c.in_ok-ty.ty c.loop-root.root-index c.in_ok-push.ensures.ok c.loop-root.invariant.1, next-first c.args.depth c.args.left.now c.args.right.now c.loop-root.found c.push.new.self c.deref-root-items.result.now c.root-item.result c.loop-root.root-index c.in_ok-ty.ty (subst (EachRoots c.args.right.now) (sym c.deref-root-items.ensures.value) c.in_ok-roots.ensures.roots) (ap length c.deref-root-items.ensures.value ∙ c.in_ok-roots.ensures.count) c.loop-root-test.true c.root-item.is c.loop-root.invariant.1 c.in_ok-push.ensures.ok c.loop-root.invariant.2 c.in_ok-ty.ensures.found)

pub look_all-returns-clause-found : goal.look_all-returns-clause-found
look_all-returns-clause-found t c = all-first c.args.depth c.args.left.now c.args.right.now c.loop-root.found c.deref-root-items.result.now c.loop-root.root-index (ap length c.deref-root-items.ensures.value ∙ c.in_ok-roots.ensures.count) c.loop-root-test.false (omega arith) c.loop-root.invariant.1 c.loop-root.invariant.2

pub look_root-look-requires : goal.look_root-look-requires
look_root-look-requires t c = (omega (arith, abs-size c.args.right.now, ap size c.body-body.ensures, c.decreases), (root-may_look c.args.depth c.args.left.now c.body-body.result.now c.args.right.now c.args.found.now c.args.root.now c.in-Some.path c.kinds-kinds.result.now c.in-Some.is c.kinds-kinds.ensures c.body-body.ensures c.requires.sides, c.requires.made))

pub look_root-returns-in_err-ty-in-Some-clause-found : goal.look_root-returns-in_err-ty-in-Some-clause-found
look_root-returns-in_err-ty-in-Some-clause-found t c = let p = err_from_is_err_and c.from_residual.result c.from_residual.ensures.1 in rw (p.1, p.2) (λ ctx l v. tt)

pub look_root-returns-in-Some-ty-clause-found : goal.look_root-returns-in-Some-ty-clause-found
look_root-returns-in-Some-ty-clause-found t c = root-has c.args.depth c.args.left.now c.body-body.result.now c.args.right.now c.args.found.now c.args.root.now c.in-Some.path (map item_of c.items-in-Some.result.now) c.kinds-kinds.result.now c.in-Some-ty.ty c.in-Some.is c.kinds-kinds.ensures c.body-body.ensures c.items-in-Some.ensures (rw c.in-Some-ty.is at c.in_ok-ty-in-Some.ensures.found)

pub look_root-returns-in-None-ty-clause-found : goal.look_root-returns-in-None-ty-clause-found
look_root-returns-in-None-ty-clause-found t c = root-lacks c.args.depth c.args.left.now c.body-body.result.now c.args.right.now c.args.found.now c.args.root.now c.in-Some.path (map item_of c.items-in-Some.result.now) c.kinds-kinds.result.now (length c.items.result.now) c.no_root.result c.in-Some.is c.kinds-kinds.ensures c.body-body.ensures c.items-in-Some.ensures (ap length c.items.ensures) c.no_root.ensures (rw c.in-None-ty.is at c.in_ok-ty-in-Some.ensures.found)

pub look_root-returns-in-None-clause-found : goal.look_root-returns-in-None-clause-found
look_root-returns-in-None-clause-found t c = λ ctx l v. absurd (rooted ctx c.args.left.now c.args.right.now c.args.found.now (subst (NextSides ctx c.args.left.now c.args.right.now c.args.found.now) c.in-None.is v))

pub look-returns-in-empty-clause-found : goal.look-returns-in-empty-clause-found
look-returns-in-empty-clause-found t c = IfOk-weaker c.look_end.result _ (λ o. EachLook c.args.depth c.args.left.now (map item_of c.args.path.now) c.args.right.now.kinds.now c.args.right.now.body.now c.args.right.now.found.now o) (λ o h. subst (λ q. EachLook c.args.depth c.args.left.now q c.args.right.now.kinds.now c.args.right.now.body.now c.args.right.now.found.now o) (sym (ap (map item_of) (none-below c.args.path.now c.in-empty.len_below))) (look-end c.args.depth c.args.left.now c.args.right.now.body.now c.args.right.now.kinds.now c.args.right.now.found.now o h)) c.look_end.ensures

pub look_step-at_found-requires : goal.look_step-at_found-requires
look_step-at_found-requires t c = look-may_put c.args.depth c.in_ok-left-in-Res.left c.in_ok-body-in-Res.body c.args.right.now.kinds.now c.args.right.now.found.now (cut-may_look c.args.depth c.args.left.now c.args.right.now.body.now c.in_ok-left-in-Res.left c.in_ok-body-in-Res.body (Item.Res ∷ map item_of c.args.rest.now) c.args.right.now.kinds.now c.args.right.now.found.now c.in_ok-left-in-Res.ensures c.in_ok-body-in-Res.ensures c.requires.sides)

pub look_step-look_result-requires : goal.look_step-look_result-requires
look_step-look_result-requires t c = (omega (arith, c.in_ok-right-in-Res.ensures.size, no_larger (Item.Res ∷ map item_of c.args.rest.now) c.args.left.now c.in_ok-left-in-Res.left c.in_ok-left-in-Res.ensures, no_larger (Item.Res ∷ map item_of c.args.rest.now) c.args.right.now.body.now c.in_ok-body-in-Res.body c.in_ok-body-in-Res.ensures, c.decreases), (look-may_into c.args.depth c.in_ok-left-in-Res.left c.in_ok-body-in-Res.body c.in_ok-right-in-Res.right c.args.right.now.kinds.now c.args.right.now.found.now (cut-may_look c.args.depth c.args.left.now c.args.right.now.body.now c.in_ok-left-in-Res.left c.in_ok-body-in-Res.body (Item.Res ∷ map item_of c.args.rest.now) c.args.right.now.kinds.now c.args.right.now.found.now c.in_ok-left-in-Res.ensures c.in_ok-body-in-Res.ensures c.requires.sides) c.in_ok-right-in-Res.ensures.at, c.requires.made))

pub look_step-returns-in-Part-clause-found : goal.look_step-returns-in-Part-clause-found
look_step-returns-in-Part-clause-found t c = subst (λ a. IfOk c.look_part.result (λ o. EachLook c.args.depth c.args.left.now (a ∷ map item_of c.args.rest.now) c.args.right.now.kinds.now c.args.right.now.body.now c.args.right.now.found.now o)) (sym (ap item_of c.in-Part.is)) c.look_part.ensures.found

pub look_step-returns-in_ok-right-in-Res-clause-found : goal.look_step-returns-in_ok-right-in-Res-clause-found
look_step-returns-in_ok-right-in-Res-clause-found t c = subst (λ a. IfOk c.look_result.result (λ o. EachLook c.args.depth c.args.left.now (a ∷ map item_of c.args.rest.now) c.args.right.now.kinds.now c.args.right.now.body.now c.args.right.now.found.now o)) (sym (ap item_of c.in-Res.is)) (IfOk-weaker c.look_result.result (λ o. EachLookInto c.args.depth c.in_ok-left-in-Res.left (map item_of c.args.rest.now) c.in_ok-right-in-Res.right o) (λ o. EachLook c.args.depth c.args.left.now (Item.Res ∷ map item_of c.args.rest.now) c.args.right.now.kinds.now c.args.right.now.body.now c.args.right.now.found.now o) (λ o h. cut-each_look c.args.depth c.args.left.now c.args.right.now.body.now c.in_ok-left-in-Res.left c.in_ok-body-in-Res.body (Item.Res ∷ map item_of c.args.rest.now) c.args.right.now.kinds.now c.args.right.now.found.now o c.in_ok-left-in-Res.ensures c.in_ok-body-in-Res.ensures (look-into c.args.depth c.in_ok-left-in-Res.left c.in_ok-body-in-Res.body c.in_ok-right-in-Res.right (map item_of c.args.rest.now) c.args.right.now.kinds.now c.args.right.now.found.now o c.in_ok-right-in-Res.ensures.at h)) c.look_result.ensures.found)

pub look_step-returns-in-Arg-clause-found : goal.look_step-returns-in-Arg-clause-found
look_step-returns-in-Arg-clause-found t c = subst (λ a. EachLook c.args.depth c.args.left.now (a ∷ map item_of c.args.rest.now) c.args.right.now.kinds.now c.args.right.now.body.now c.args.right.now.found.now None) (sym (ap item_of c.in-Arg.is)) (look-arg c.args.depth c.args.left.now c.args.right.now.body.now (map item_of c.args.rest.now) c.args.right.now.kinds.now c.args.right.now.found.now)

pub look_step-returns-in-Meta-clause-found : goal.look_step-returns-in-Meta-clause-found
look_step-returns-in-Meta-clause-found t c = subst (λ a. EachLook c.args.depth c.args.left.now (a ∷ map item_of c.args.rest.now) c.args.right.now.kinds.now c.args.right.now.body.now c.args.right.now.found.now None) (sym (ap item_of c.in-Meta.is)) (look-meta c.args.depth c.args.left.now c.args.right.now.body.now (map item_of c.args.rest.now) c.args.right.now.kinds.now c.args.right.now.found.now)

pub look_part-returns-in_default-clause-found : goal.look_part-returns-in_default-clause-found
look_part-returns-in_default-clause-found t c = look-no_left c.args.depth c.args.left.now c.args.right.now.body.now c.args.name.now (map item_of c.args.rest.now) c.args.right.now.kinds.now c.args.right.now.found.now c.in_default.ensures

pub look_part-returns-in_default-field-clause-found : goal.look_part-returns-in_default-field-clause-found
look_part-returns-in_default-field-clause-found t c = look-no_right c.args.depth c.args.left.now c.args.right.now.body.now c.args.name.now (map item_of c.args.rest.now) c.args.right.now.kinds.now c.args.right.now.found.now c.in_default-field.ensures

pub look_part-look-requires : goal.look_part-look-requires
look_part-look-requires t c = (omega (arith, part-size c.args.left.now c.in-Some.left.now c.args.name.now c.in-Some.ensures, part-size c.args.right.now.body.now c.in-Some-field.body.now c.args.name.now c.in-Some-field.ensures, c.decreases), (look-may_part c.args.depth c.args.left.now c.args.right.now.body.now c.in-Some.left.now c.in-Some-field.body.now c.args.name.now c.args.right.now.kinds.now c.args.right.now.found.now c.requires.sides c.in-Some.ensures c.in-Some-field.ensures, c.requires.made))

pub look_part-returns-clause-found : goal.look_part-returns-clause-found
look_part-returns-clause-found t c = IfOk-weaker c.look.result (λ o. EachLook c.args.depth c.in-Some.left.now (map item_of c.args.rest.now) c.args.right.now.kinds.now c.in-Some-field.body.now c.args.right.now.found.now o) (λ o. EachLook c.args.depth c.args.left.now (Item.Part c.args.name.now ∷ map item_of c.args.rest.now) c.args.right.now.kinds.now c.args.right.now.body.now c.args.right.now.found.now o) (λ o h. look-part c.args.depth c.args.left.now c.args.right.now.body.now c.in-Some.left.now c.in-Some-field.body.now c.args.name.now (map item_of c.args.rest.now) c.args.right.now.kinds.now c.args.right.now.found.now o c.in-Some.ensures c.in-Some-field.ensures h) c.look.ensures.found

pub look_result-returns-in_default-clause-found : goal.look_result-returns-in_default-clause-found
look_result-returns-in_default-clause-found t c = into-no_left c.args.depth c.args.left.now c.args.right.now (map item_of c.args.rest.now) c.in_default.ensures

pub look_result-returns-in_default-as_functor-clause-found : goal.look_result-returns-in_default-as_functor-clause-found
look_result-returns-in_default-as_functor-clause-found t c = into-no_right c.args.depth c.args.left.now c.args.right.now (map item_of c.args.rest.now) c.in_default-as_functor.ensures

pub look_result-returns-then-not-both_pure-clause-found : goal.look_result-returns-then-not-both_pure-clause-found
look_result-returns-then-not-both_pure-clause-found t c = into-impure c.args.depth c.args.left.now c.args.right.now (map item_of c.args.rest.now) c.in-Some.left.effect c.in-Some-as_functor.right.effect c.in-Some.left.kinds.now c.in-Some-as_functor.right.kinds.now c.in-Some.left.param.now c.in-Some-as_functor.right.param.now c.in-Some.left.target.now c.in-Some-as_functor.right.target.now c.in-Some.ensures c.in-Some-as_functor.ensures (λ h. let e = c.both_pure.ensures.1 h in let f = c.if-not-both_pure.true in cc)

pub look_result-look_target-requires : goal.look_result-look_target-requires
look_result-look_target-requires t c = (omega (arith, ap size c.in-Some.ensures, ap size c.in-Some-as_functor.ensures, c.decreases), (pure-sides c.args.depth c.args.left.now c.args.right.now c.in-Some.left.effect c.in-Some-as_functor.right.effect c.in-Some.left.kinds.now c.in-Some-as_functor.right.kinds.now c.in-Some.left.param.now c.in-Some-as_functor.right.param.now c.in-Some.left.target.now c.in-Some-as_functor.right.target.now c.in-Some.ensures c.in-Some-as_functor.ensures (c.both_pure.ensures.0 c.if-not-both_pure.false) c.requires.sides, c.requires.made))

pub look_result-returns-clause-found : goal.look_result-returns-clause-found
look_result-returns-clause-found t c = IfOk-weaker c.look_target.result _ (λ o. EachLookInto c.args.depth c.args.left.now (map item_of c.args.rest.now) c.args.right.now o) (λ o h. pure-looks c.args.depth c.args.left.now c.args.right.now (map item_of c.args.rest.now) c.in-Some.left.effect c.in-Some-as_functor.right.effect c.in-Some.left.kinds.now c.in-Some-as_functor.right.kinds.now c.in-Some.left.param.now c.in-Some-as_functor.right.param.now c.in-Some.left.target.now c.in-Some-as_functor.right.target.now o c.in-Some.ensures c.in-Some-as_functor.ensures (c.both_pure.ensures.0 c.if-not-both_pure.false) h) c.look_target.ensures.found

pub look_target-target_at-requires : goal.look_target-target_at-requires
look_target-target_at-requires t c = (omega (arith, c.decreases), (c.requires.sides, c.requires.made))

pub look_target-returns-in_default-clause-found : goal.look_target-returns-in_default-clause-found
look_target-returns-in_default-clause-found t c = target-none c.args.depth (map item_of c.args.rest.now) c.args.left.now.kinds.now c.args.right.now.kinds.now c.args.left.now.param.now c.args.right.now.param.now c.args.left.now.target.now c.args.right.now.target.now (rw c.in_default.is at c.in_ok-target.ensures.at)

pub look_target-look-requires : goal.look_target-look-requires
look_target-look-requires t c = (omega (arith, (rw c.in-Some.is at c.in_ok-target.ensures.at).3, abs-size c.in-Some.target, abs-size c.args.right.now.target.now, ap size c.body-from.ensures, ap size c.body-to.ensures, c.decreases), (target-may_look c.args.depth c.in_ok-under.under c.args.left.now.kinds.now c.args.right.now.kinds.now c.new-kinds.result c.args.left.now.param.now c.args.right.now.param.now c.body-from.result.now c.body-to.result.now c.args.left.now.target.now c.args.right.now.target.now c.in-Some.target c.new-none.result (c.in_ok-under.ensures ∙ ap (λ n. n + c.args.depth) c.count.ensures) c.body-from.ensures c.body-to.ensures c.new-kinds.ensures c.new-none.ensures c.requires.sides (rw c.in-Some.is at c.in_ok-target.ensures.at), c.in_ok-target.ensures.made))

pub look_target-returns-clause-found : goal.look_target-returns-clause-found
look_target-returns-clause-found t c = IfOk-weaker c.lam_found.result _ (λ o. EachLookInto c.args.depth (Sig.Fun Pure c.args.left.now.kinds.now c.args.left.now.param.now c.args.left.now.target.now) (map item_of c.args.rest.now) (Sig.Fun Pure c.args.right.now.kinds.now c.args.right.now.param.now c.args.right.now.target.now) o) (λ o h. subst (EachLookInto c.args.depth (Sig.Fun Pure c.args.left.now.kinds.now c.args.left.now.param.now c.args.left.now.target.now) (map item_of c.args.rest.now) (Sig.Fun Pure c.args.right.now.kinds.now c.args.right.now.param.now c.args.right.now.target.now)) (sym h) (target-looks c.args.depth c.in_ok-under.under (map item_of c.args.rest.now) c.args.left.now.kinds.now c.args.right.now.kinds.now c.new-kinds.result c.args.left.now.param.now c.args.right.now.param.now c.body-from.result.now c.body-to.result.now c.args.left.now.target.now c.args.right.now.target.now c.in-Some.target c.new-none.result c.in_ok-ty.ty (c.in_ok-under.ensures ∙ ap (λ n. n + c.args.depth) c.count.ensures) c.body-from.ensures c.body-to.ensures c.new-kinds.ensures c.new-none.ensures (rw c.in-Some.is at c.in_ok-target.ensures.at) c.in_ok-ty.ensures.found)) c.lam_found.ensures

pub target_at-match_in-outcome-requires : goal.target_at-match_in-outcome-requires
target_at-match_in-outcome-requires t c = (omega (arith, param-size c.count-by.result c.args.left.now.kinds.now c.args.right.now.kinds.now c.args.left.now.param.now c.in_ok-param.param c.count-by.ensures c.in_ok-param.ensures, c.decreases), param-may_match c.args.depth c.count-by.result c.in_ok-under.under Pure Pure c.args.left.now.kinds.now c.args.right.now.kinds.now c.args.left.now.param.now c.args.right.now.param.now c.args.left.now.target.now c.args.right.now.target.now c.in_ok-param.param c.count-by.ensures c.in_ok-under.ensures c.in_ok-param.ensures c.requires.sides)

pub target_at-result_at-requires : goal.target_at-result_at-requires
target_at-result_at-requires t c = param-may_put c.args.depth c.count-by.result c.in_ok-under.under Pure Pure c.args.left.now.kinds.now c.args.right.now.kinds.now c.args.left.now.param.now c.args.right.now.param.now c.args.left.now.target.now c.args.right.now.target.now c.in_ok-param.param c.in-Some.inner.now c.count-by.ensures c.in_ok-under.ensures c.in_ok-param.ensures c.requires.sides (known-is c.in_ok-key.key c.in-Some.inner.now c.in_ok-under.under c.args.right.now.param.now c.in_ok-param.param c.in_ok-key.ensures c.in-Some.ensures)

pub target_at-returns-in-Some-clause-at : goal.target_at-returns-in-Some-clause-at
target_at-returns-in-Some-clause-at t c = target-made c.args.depth c.count-by.result c.in_ok-under.under c.args.left.now.kinds.now c.args.right.now.kinds.now c.args.left.now.param.now c.args.right.now.param.now c.args.left.now.target.now c.in_ok-result_at.field-0 c.in_ok-param.param c.in-Some.inner.now c.count-by.ensures c.in_ok-under.ensures c.in_ok-param.ensures (known-is c.in_ok-key.key c.in-Some.inner.now c.in_ok-under.under c.args.right.now.param.now c.in_ok-param.param c.in_ok-key.ensures c.in-Some.ensures) c.in_ok-result_at.ensures.at c.in_ok-result_at.ensures.size

pub target_at-returns-in_default-2-clause-at : goal.target_at-returns-in_default-2-clause-at
target_at-returns-in_default-2-clause-at t c = target-refused c.args.depth c.count-by.result c.in_ok-under.under c.args.left.now.kinds.now c.args.right.now.kinds.now c.args.left.now.param.now c.args.right.now.param.now c.args.left.now.target.now c.in_ok-param.param c.match_in-outcome.result c.count-by.ensures c.in_ok-under.ensures c.in_ok-param.ensures (rw c.in_default-2.is at c.in_ok-inner.ensures) c.match_in-outcome.ensures

pub target_at-result_at-requires-2 : goal.target_at-result_at-requires-2
target_at-result_at-requires-2 t c = param-may_put c.args.depth c.count-by.result c.in_ok-under.under Pure Pure c.args.left.now.kinds.now c.args.right.now.kinds.now c.args.left.now.param.now c.args.right.now.param.now c.args.left.now.target.now c.args.right.now.target.now c.in_ok-param.param c.in-Some-2.inner c.count-by.ensures c.in_ok-under.ensures c.in_ok-param.ensures c.requires.sides (if-matched c.in_ok-under.under c.args.right.now.param.now c.in_ok-param.param c.match_in-outcome.result c.in-Some-2.inner (rw c.in-Some-2.is at c.in_ok-inner.ensures) c.match_in-outcome.ensures)

pub target_at-keep-requires-clause-one : goal.target_at-keep-requires-clause-one
target_at-keep-requires-clause-one t c = key-holds c.in_ok-key.key c.in-Some-2.inner c.in_ok-under.under c.args.right.now.param.now c.in_ok-param.param c.in_ok-key.ensures (if-matched c.in_ok-under.under c.args.right.now.param.now c.in_ok-param.param c.match_in-outcome.result c.in-Some-2.inner (rw c.in-Some-2.is at c.in_ok-inner.ensures) c.match_in-outcome.ensures)

pub target_at-returns-clause-at : goal.target_at-returns-clause-at
target_at-returns-clause-at t c = target-made c.args.depth c.count-by.result c.in_ok-under.under c.args.left.now.kinds.now c.args.right.now.kinds.now c.args.left.now.param.now c.args.right.now.param.now c.args.left.now.target.now c.in_ok-target.target c.in_ok-param.param c.in-Some-2.inner c.count-by.ensures c.in_ok-under.ensures c.in_ok-param.ensures (if-matched c.in_ok-under.under c.args.right.now.param.now c.in_ok-param.param c.match_in-outcome.result c.in-Some-2.inner (rw c.in-Some-2.is at c.in_ok-inner.ensures) c.match_in-outcome.ensures) c.in_ok-target.ensures.at c.in_ok-target.ensures.size

pub sub_sig-returns-in_err-from : goal.sub_sig-returns-in_err-from
sub_sig-returns-in_err-from t c = let p = err_from_is_err_and c.from_residual.result c.from_residual.ensures.1 in rw (p.1, p.2) (λ ctx l w v. tt)

pub sub_sig-sub_value-requires : goal.sub_sig-sub_value-requires
sub_sig-sub_value-requires t c = c.in_ok-from.ensures ∙ ap enc (sym c.node.ensures ∙ ap sig_of c.in-Val.is)

pub sub_sig-returns-in-Val : goal.sub_sig-returns-in-Val
sub_sig-returns-in-Val t c = each-plain c.args.depth c.args.left.now (Sig.Val c.in-Val.ty) c.args.right.now c.sub_value.result (sym c.node.ensures ∙ ap sig_of c.in-Val.is) c.sub_value.ensures

pub sub_sig-sub_type-requires : goal.sub_sig-sub_type-requires
sub_sig-sub_type-requires t c = c.in_ok-from.ensures ∙ ap enc (sym c.node.ensures ∙ ap sig_of c.in-Typ.is)

pub sub_sig-returns-in-Typ : goal.sub_sig-returns-in-Typ
sub_sig-returns-in-Typ t c = each-plain c.args.depth c.args.left.now (Sig.Typ c.in-Typ.ty (kind_tree c.in-Typ.kind)) c.args.right.now c.sub_type.result (sym c.node.ensures ∙ ap sig_of c.in-Typ.is) c.sub_type.ensures

pub sub_sig-sub_meta-requires : goal.sub_sig-sub_meta-requires
sub_sig-sub_meta-requires t c = (omega (arith, ap size (sym c.node.ensures ∙ ap sig_of c.in-Meta.is), ap size c.in-Some.ensures, c.decreases), (c.in_ok-from.ensures ∙ ap enc (sym c.node.ensures ∙ ap sig_of c.in-Meta.is), may-sub c.args.depth c.args.left.now c.args.right.now (Sig.Meta c.in-Meta.abs) (Sig.Meta c.in-Some.other.now) (sym c.node.ensures ∙ ap sig_of c.in-Meta.is) c.in-Some.ensures c.requires.sides))

pub sub_sig-returns-in-Some : goal.sub_sig-returns-in-Some
sub_sig-returns-in-Some t c = each-sub c.args.depth c.args.left.now c.args.right.now (Sig.Meta c.in-Meta.abs) (Sig.Meta c.in-Some.other.now) c.sub_meta.result (sym c.node.ensures ∙ ap sig_of c.in-Meta.is) c.in-Some.ensures c.sub_meta.ensures

pub sub_sig-returns-in-Meta : goal.sub_sig-returns-in-Meta
sub_sig-returns-in-Meta t c = each-form c.args.depth c.args.left.now (Sig.Meta c.in-Meta.abs) c.args.right.now c.clash.result (sym c.node.ensures ∙ ap sig_of c.in-Meta.is) c.clash.ensures (λ ctx. meta-form ctx c.in-Meta.abs c.args.right.now c.in-None.ensures)

pub sub_sig-sub_fields-requires : goal.sub_sig-sub_fields-requires
sub_sig-sub_fields-requires t c = (omega (arith, ap size (sym c.node.ensures ∙ ap sig_of c.in-Str.is), ap size c.in-Some-as_structure.ensures, c.decreases), (c.in_ok-from.ensures ∙ ap enc (sym c.node.ensures ∙ ap sig_of c.in-Str.is), (may-sub c.args.depth c.args.left.now c.args.right.now (Sig.Str (sig_row c.in-Str.fields)) (Sig.Str (sig_row c.in-Some-as_structure.other.now)) (sym c.node.ensures ∙ ap sig_of c.in-Str.is) c.in-Some-as_structure.ensures c.requires.sides, c.requires.made)))

pub sub_sig-returns-in-Some-as_structure : goal.sub_sig-returns-in-Some-as_structure
sub_sig-returns-in-Some-as_structure t c = each-sub c.args.depth c.args.left.now c.args.right.now (Sig.Str (sig_row c.in-Str.fields)) (Sig.Str (sig_row c.in-Some-as_structure.other.now)) c.sub_fields.result (sym c.node.ensures ∙ ap sig_of c.in-Str.is) c.in-Some-as_structure.ensures c.sub_fields.ensures

pub sub_sig-returns-in-Str : goal.sub_sig-returns-in-Str
sub_sig-returns-in-Str t c = each-form c.args.depth c.args.left.now (Sig.Str (sig_row c.in-Str.fields)) c.args.right.now c.clash-in-None-as_structure.result (sym c.node.ensures ∙ ap sig_of c.in-Str.is) c.clash-in-None-as_structure.ensures (λ ctx. fields-form ctx (sig_row c.in-Str.fields) c.args.right.now c.in-None-as_structure.ensures)

pub sub_sig-sub_functor-requires : goal.sub_sig-sub_functor-requires
sub_sig-sub_functor-requires t c = (omega (arith, ap size (sym c.node.ensures ∙ ap sig_of c.in-Fun.is), ap size c.in-Some-as_functor.ensures, c.decreases), (c.in_ok-from.ensures ∙ ap enc (sym c.node.ensures ∙ ap sig_of c.in-Fun.is), (may-sub c.args.depth c.args.left.now c.args.right.now (Sig.Fun c.in-Fun.effect c.in-Fun.kinds c.in-Fun.param c.in-Fun.result) (Sig.Fun c.in-Some-as_functor.right.effect c.in-Some-as_functor.right.kinds.now c.in-Some-as_functor.right.param.now c.in-Some-as_functor.right.target.now) (sym c.node.ensures ∙ ap sig_of c.in-Fun.is) c.in-Some-as_functor.ensures c.requires.sides, c.requires.made)))

pub sub_sig-returns-in-Some-as_functor : goal.sub_sig-returns-in-Some-as_functor
sub_sig-returns-in-Some-as_functor t c = each-sub c.args.depth c.args.left.now c.args.right.now (Sig.Fun c.in-Fun.effect c.in-Fun.kinds c.in-Fun.param c.in-Fun.result) (Sig.Fun c.in-Some-as_functor.right.effect c.in-Some-as_functor.right.kinds.now c.in-Some-as_functor.right.param.now c.in-Some-as_functor.right.target.now) c.sub_functor.result (sym c.node.ensures ∙ ap sig_of c.in-Fun.is) c.in-Some-as_functor.ensures c.sub_functor.ensures

pub sub_sig-returns : goal.sub_sig-returns
sub_sig-returns t c = each-form c.args.depth c.args.left.now (Sig.Fun c.in-Fun.effect c.in-Fun.kinds c.in-Fun.param c.in-Fun.result) c.args.right.now c.clash-in-None-as_functor.result (sym c.node.ensures ∙ ap sig_of c.in-Fun.is) c.clash-in-None-as_functor.ensures (λ ctx. functor-form ctx c.in-Fun.effect c.in-Fun.kinds c.in-Fun.param c.in-Fun.result c.args.right.now c.in-None-as_functor.ensures)

pub sub_meta-returns-in_err-is_alike : goal.sub_meta-returns-in_err-is_alike
sub_meta-returns-in_err-is_alike t c = let p = err_from_is_err_and c.from_residual.result c.from_residual.ensures.1 in rw (p.1, p.2) (λ ctx l w v. tt)

pub sub_meta-returns-in_err-encode : goal.sub_meta-returns-in_err-encode
sub_meta-returns-in_err-encode t c = let p = err_from_is_err_and c.from_residual-in_err-encode.result c.from_residual-in_err-encode.ensures.1 in rw (p.1, p.2) (λ ctx l w v. tt)

pub sub_meta-returns-in_err-meta_part : goal.sub_meta-returns-in_err-meta_part
sub_meta-returns-in_err-meta_part t c = let p = err_from_is_err_and c.from_residual-in_err-meta_part.result c.from_residual-in_err-meta_part.ensures.1 in rw (p.1, p.2) (λ ctx l w v. tt)

pub sub_meta-returns-then-is_alike : goal.sub_meta-returns-then-is_alike
sub_meta-returns-then-is_alike t c =
    meta-alike c.args.depth c.args.left.now c.args.right.now c.in_ok-meta_part.field-0 c.args.from.now c.in_ok-encode.field-0 (c.in_ok-is_alike.ensures c.if-is_alike.true) c.requires.from c.in_ok-encode.ensures c.in_ok-meta_part.ensures.value

pub sub_meta-sub_abs_in-requires : goal.sub_meta-sub_abs_in-requires
sub_meta-sub_abs_in-requires t c = (omega (arith, c.decreases), meta-first c.args.depth c.args.left.now c.args.right.now c.requires.sides)

pub sub_meta-sub_back-requires : goal.sub_meta-sub_back-requires
sub_meta-sub_back-requires t c = (omega (arith, c.decreases), (c.requires.from, (c.requires.sides, (c.in-Ok._there, c.in-Ok.ensures))))

pub sub_meta-returns-in-Ok : goal.sub_meta-returns-in-Ok
sub_meta-returns-in-Ok t c = c.sub_back.ensures

pub sub_meta-returns-in-Err : goal.sub_meta-returns-in-Err
sub_meta-returns-in-Err t c = meta-refused c.args.depth c.args.left.now c.args.right.now c.in-Err.refusal c.within.result c.in-Err.ensures c.within.ensures

pub sub_back-sub_abs_in-requires : goal.sub_back-sub_abs_in-requires
sub_back-sub_abs_in-requires t c = (omega (arith, c.decreases), meta-second c.args.depth c.args.left.now c.args.right.now c.requires.sides)

pub sub_back-returns-in_err-encode-in-Ok : goal.sub_back-returns-in_err-encode-in-Ok
sub_back-returns-in_err-encode-in-Ok t c = let p = err_from_is_err_and c.from_residual.result c.from_residual.ensures.1 in rw (p.1, p.2) (λ ctx l w v. tt)

pub sub_back-returns-in_err-meta_part-in-Ok : goal.sub_back-returns-in_err-meta_part-in-Ok
sub_back-returns-in_err-meta_part-in-Ok t c = let p = err_from_is_err_and c.from_residual-in_err-meta_part-in-Ok.result c.from_residual-in_err-meta_part-in-Ok.ensures.1 in rw (p.1, p.2) (λ ctx l w v. tt)

pub sub_back-returns-in_ok-meta_part-in-Ok : goal.sub_back-returns-in_ok-meta_part-in-Ok
sub_back-returns-in_ok-meta_part-in-Ok t c = meta-ok c.args.depth c.args.left.now c.args.right.now c.requires.there.0 c.in-Ok._back c.in_ok-meta_part-in-Ok.field-0 c.args.from.now c.in_ok-encode-in-Ok.field-0 c.requires.from c.in_ok-encode-in-Ok.ensures c.requires.there.1 c.in-Ok.ensures c.in_ok-meta_part-in-Ok.ensures.value

pub sub_back-returns-in-Err : goal.sub_back-returns-in-Err
sub_back-returns-in-Err t c = meta-refused_back c.args.depth c.args.left.now c.args.right.now c.requires.there.0 c.in-Err.refusal c.within.result c.requires.there.1 c.in-Err.ensures c.within.ensures

pub sub_fields-returns-in_err-share : goal.sub_fields-returns-in_err-share
sub_fields-returns-in_err-share t c = let p = err_from_is_err_and c.from_residual-in_err-share.result c.from_residual-in_err-share.ensures.1 in rw (p.1, p.2) (λ ctx l w v. tt)

pub sub_fields-returns-in_err-push : goal.sub_fields-returns-in_err-push
sub_fields-returns-in_err-push t c = let p = err_from_is_err_and c.from_residual-in_err-push.result c.from_residual-in_err-push.ensures.1 in rw (p.1, p.2) (λ ctx l w v. tt)

pub sub_fields-returns-in_err-fields_part : goal.sub_fields-returns-in_err-fields_part
sub_fields-returns-in_err-fields_part t c = let p = err_from_is_err_and c.from_residual-in_err-fields_part.result c.from_residual-in_err-fields_part.ensures.1 in rw (p.1, p.2) (λ ctx l w v. tt)

pub sub_fields-sub_field-requires : goal.sub_fields-sub_field-requires
sub_fields-sub_field-requires t c = (omega (arith, item-size c.items-field-items.result.now c.loop-field.field-index c.field-item.result c.loop-field-test.true c.field-item.is, ap (λ (ys : SigPairs). size_row (sig_row ys)) c.items-field-items.ensures.value, c.decreases), (item-may_sub c.args.depth (sig_row c.args.left.now) c.items-field-items.result.now c.loop-field.field-index c.field-item.result c.loop-field-test.true c.field-item.is (subst (λ (ys : SigPairs). MaySub c.args.depth (Sig.Str (sig_row c.args.left.now)) (Sig.Str (sig_row ys))) (sym c.items-field-items.ensures.value) c.requires.sides), c.requires.made))

pub sub_fields-push-requires : goal.sub_fields-push-requires
sub_fields-push-requires t c = label-follows c.items-field-items.result.now c.loop-field.field-index c.field-item.result c.in_ok-share.field-0 c.loop-field.parts c.loop-field-test.true c.field-item.is c.in_ok-share.ensures c.items-field-items.ensures.rising c.loop-field.invariant.0

pub sub_fields-loop-field-init : goal.sub_fields-loop-field-init
sub_fields-loop-field-init t c = (rw c.new-parts.ensures (labelled-none c.items-field-items.result.now), rw c.new-parts.ensures (parts-none c.args.depth c.items-field-items.result.now (sig_row c.args.left.now)))

pub sub_fields-loop-field-preserved : goal.sub_fields-loop-field-preserved
sub_fields-loop-field-preserved t c = (labelled-next c.items-field-items.result.now c.loop-field.parts c.push.new.self c.loop-field.field-index c.field-item.result c.in_ok-share.field-0 c.in_ok-part.part c.loop-field-test.true c.field-item.is c.in_ok-share.ensures c.in_ok-push.ensures.ok c.loop-field.invariant.0, each-parts c.args.depth (sig_row c.args.left.now) c.items-field-items.result.now c.loop-field.parts c.push.new.self c.loop-field.field-index c.field-item.result c.in_ok-share.field-0 c.in_ok-part.part c.loop-field-test.true c.field-item.is c.in_ok-share.ensures c.in_ok-push.ensures.ok c.in_ok-part.ensures c.loop-field.invariant.1)

pub sub_fields-returns-in_err-part : goal.sub_fields-returns-in_err-part
sub_fields-returns-in_err-part t c = let p = err_from_is_err_and c.from_residual.result c.from_residual.ensures.1 in rw (p.1, p.2) (subst (λ (ys : SigPairs). EachSub c.args.depth (Sig.Str (sig_row c.args.left.now)) (Sig.Str (sig_row ys)) (Err c.in_err-part.field-0.0)) c.items-field-items.ensures.value (parts-refused c.args.depth (sig_row c.args.left.now) c.items-field-items.result.now c.loop-field.parts c.loop-field.field-index c.field-item.result c.in_err-part.field-0.0 c.loop-field-test.true c.field-item.is c.in_err-part.ensures c.loop-field.invariant.1))

pub sub_fields-returns : goal.sub_fields-returns
sub_fields-returns t c = subst (λ (ys : SigPairs). EachSub c.args.depth (Sig.Str (sig_row c.args.left.now)) (Sig.Str (sig_row ys)) (Ok c.in_ok-fields_part.field-0)) c.items-field-items.ensures.value (parts-same c.args.depth (sig_row c.args.left.now) c.items-field-items.result.now c.loop-field.parts c.loop-field.field-index c.args.from.now c.in_ok-fields_part.field-0 c.loop-field-test.false c.requires.from c.in_ok-fields_part.ensures.value c.loop-field.invariant.1)

pub sub_field-returns-in_default : goal.sub_field-returns-in_default
sub_field-returns-in_default t c = field-missing c.args.depth (sig_row c.args.left.now) c.args.name.now c.args.right.now c.clash-missing.result c.within_part.result c.in_default.ensures c.clash-missing.ensures c.within_part.ensures

pub sub_field-sub_sig-requires : goal.sub_field-sub_sig-requires
sub_field-sub_sig-requires t c = (omega (arith, field-size c.in-Some.ensures, c.decreases), (field-left c.args.depth (sig_row c.args.left.now) c.args.name.now c.in-Some.left.now c.args.right.now c.in-Some.ensures c.requires.sides, c.requires.made))

pub sub_field-returns-in-Ok : goal.sub_field-returns-in-Ok
sub_field-returns-in-Ok t c = field-ok c.args.depth (sig_row c.args.left.now) c.args.name.now c.in-Some.left.now c.args.right.now c.in-Ok.coercion c.in-Some.ensures c.in-Ok.ensures

pub sub_field-returns-in-Err : goal.sub_field-returns-in-Err
sub_field-returns-in-Err t c = field-no c.args.depth (sig_row c.args.left.now) c.args.name.now c.in-Some.left.now c.args.right.now c.in-Err.refusal c.within_part-in-Err.result c.in-Some.ensures c.in-Err.ensures c.within_part-in-Err.ensures

pub sub_functor-returns-in_err-under : goal.sub_functor-returns-in_err-under
sub_functor-returns-in_err-under t c = let p = err_from_is_err_and c.from_residual.result c.from_residual.ensures.1 in rw (p.1, p.2) (λ ctx l w v. tt)

pub sub_functor-returns-in_err-param : goal.sub_functor-returns-in_err-param
sub_functor-returns-in_err-param t c = let p = err_from_is_err_and c.from_residual-in_err-param.result c.from_residual-in_err-param.ensures.1 in rw (p.1, p.2) (λ ctx l w v. tt)

pub sub_functor-returns-in_err-key : goal.sub_functor-returns-in_err-key
sub_functor-returns-in_err-key t c = let p = err_from_is_err_and c.from_residual-in_err-key.result c.from_residual-in_err-key.ensures.1 in rw (p.1, p.2) (λ ctx l w v. tt)

pub sub_functor-returns-then-impure_for_pure : goal.sub_functor-returns-then-impure_for_pure
sub_functor-returns-then-impure_for_pure t c = λ ctx l w v. clashed (RefusesSub ctx (Sig.Fun c.args.left.now.effect c.args.left.now.kinds.now c.args.left.now.param.now c.args.left.now.target.now) (Sig.Fun c.args.right.now.effect c.args.right.now.kinds.now c.args.right.now.param.now c.args.right.now.target.now)) ctx c.args.depth Effects (plain_refusal c.clash.result) l c.clash.ensures (functor-effects c.args.depth c.args.left.now.effect c.args.right.now.effect c.args.left.now.kinds.now c.args.right.now.kinds.now c.args.left.now.param.now c.args.right.now.param.now c.args.left.now.target.now c.args.right.now.target.now (c.impure_for_pure.ensures.0 c.if-impure_for_pure.true) ctx)

pub sub_functor-sub_target-requires : goal.sub_functor-sub_target-requires
sub_functor-sub_target-requires t c = (omega (arith, c.decreases), (c.requires.from, (c.requires.sides, ((λ h. let e = c.impure_for_pure.ensures.1 h in let q = c.if-impure_for_pure.false in cc), (inner-is c.args.depth c.count-by.result c.in_ok-under.under c.args.left.now.kinds.now c.args.right.now.kinds.now c.args.left.now.param.now c.args.right.now.param.now c.in_ok-param.param c.in-Some.inner.now c.count-by.ensures c.in_ok-under.ensures c.in_ok-param.ensures (known-is c.in_ok-key.key c.in-Some.inner.now c.in_ok-under.under c.args.right.now.param.now c.in_ok-param.param c.in_ok-key.ensures c.in-Some.ensures), c.requires.made)))))

pub sub_functor-returns-in-Some : goal.sub_functor-returns-in-Some
sub_functor-returns-in-Some t c = c.sub_target.ensures

pub sub_functor-match_in-requires : goal.sub_functor-match_in-requires
sub_functor-match_in-requires t c = (omega (arith, param-size c.count-by.result c.args.left.now.kinds.now c.args.right.now.kinds.now c.args.left.now.param.now c.in_ok-param.param c.count-by.ensures c.in_ok-param.ensures, c.decreases), param-may_match c.args.depth c.count-by.result c.in_ok-under.under c.args.left.now.effect c.args.right.now.effect c.args.left.now.kinds.now c.args.right.now.kinds.now c.args.left.now.param.now c.args.right.now.param.now c.args.left.now.target.now c.args.right.now.target.now c.in_ok-param.param c.count-by.ensures c.in_ok-under.ensures c.in_ok-param.ensures c.requires.sides)

pub sub_functor-sub_target-requires-in-Ok : goal.sub_functor-sub_target-requires-in-Ok
sub_functor-sub_target-requires-in-Ok t c = (omega (arith, c.decreases), (c.requires.from, (c.requires.sides, ((λ h. let e = c.impure_for_pure.ensures.1 h in let q = c.if-impure_for_pure.false in cc), (inner-is c.args.depth c.count-by.result c.in_ok-under.under c.args.left.now.kinds.now c.args.right.now.kinds.now c.args.left.now.param.now c.args.right.now.param.now c.in_ok-param.param c.in-Ok.inner c.count-by.ensures c.in_ok-under.ensures c.in_ok-param.ensures c.in-Ok.ensures, c.requires.made)))))

pub sub_functor-returns-in-Ok : goal.sub_functor-returns-in-Ok
sub_functor-returns-in-Ok t c = c.sub_target-in-Ok.ensures

pub sub_functor-returns : goal.sub_functor-returns
sub_functor-returns t c = arg-refused c.args.depth c.count-by.result c.in_ok-under.under c.args.left.now.effect c.args.right.now.effect c.args.left.now.kinds.now c.args.right.now.kinds.now c.args.left.now.param.now c.args.right.now.param.now c.args.left.now.target.now c.args.right.now.target.now c.in_ok-param.param c.in-Err.refusal c.within.result (λ h. let e = c.impure_for_pure.ensures.1 h in let q = c.if-impure_for_pure.false in cc) c.count-by.ensures c.in_ok-under.ensures c.in_ok-param.ensures c.in-Err.ensures c.within.ensures

pub sub_target-returns-in_err-under : goal.sub_target-returns-in_err-under
sub_target-returns-in_err-under t c = let p = err_from_is_err_and c.from_residual.result c.from_residual.ensures.1 in rw (p.1, p.2) (λ ctx l w v. tt)

pub sub_target-returns-in_err-at : goal.sub_target-returns-in_err-at
sub_target-returns-in_err-at t c = let p = err_from_is_err_and c.from_residual-in_err-at.result c.from_residual-in_err-at.ensures.1 in rw (p.1, p.2) (λ ctx l w v. tt)

pub sub_target-returns-in_err-functor_coercion-in-Ok : goal.sub_target-returns-in_err-functor_coercion-in-Ok
sub_target-returns-in_err-functor_coercion-in-Ok t c = let p = err_from_is_err_and c.from_residual-in_err-functor_coercion-in-Ok.result c.from_residual-in_err-functor_coercion-in-Ok.ensures.1 in rw (p.1, p.2) (λ ctx l w v. tt)

pub sub_target-result_at-requires : goal.sub_target-result_at-requires
sub_target-result_at-requires t c = functor-may_put c.args.depth c.count-by.result c.in_ok-under.under c.args.left.now.effect c.args.right.now.effect c.args.left.now.kinds.now c.args.right.now.kinds.now c.args.left.now.param.now c.args.right.now.param.now c.args.left.now.target.now c.args.right.now.target.now c.args.inner.now c.count-by.ensures c.in_ok-under.ensures c.requires.sides (inner-at c.args.depth c.count-by.result c.in_ok-under.under c.args.left.now.kinds.now c.args.right.now.kinds.now c.args.left.now.param.now c.args.right.now.param.now c.args.inner.now c.count-by.ensures c.in_ok-under.ensures c.requires.inner)

pub sub_target-sub_result-requires : goal.sub_target-sub_result-requires
sub_target-sub_result-requires t c = (omega (arith, c.in_ok-at.ensures.size, c.decreases), (functor-may_result c.args.depth c.count-by.result c.in_ok-under.under c.args.left.now.effect c.args.right.now.effect c.args.left.now.kinds.now c.args.right.now.kinds.now c.args.left.now.param.now c.args.right.now.param.now c.args.left.now.target.now c.args.right.now.target.now c.in_ok-at.at c.args.inner.now c.requires.effects c.count-by.ensures c.in_ok-under.ensures c.requires.sides (inner-at c.args.depth c.count-by.result c.in_ok-under.under c.args.left.now.kinds.now c.args.right.now.kinds.now c.args.left.now.param.now c.args.right.now.param.now c.args.inner.now c.count-by.ensures c.in_ok-under.ensures c.requires.inner) c.in_ok-at.ensures.at, c.requires.made))

pub sub_target-returns-in-Ok : goal.sub_target-returns-in-Ok
sub_target-returns-in-Ok t c = functor-ok c.args.depth c.count-by.result c.in_ok-under.under c.args.left.now.effect c.args.right.now.effect c.args.left.now.kinds.now c.args.right.now.kinds.now c.args.left.now.param.now c.args.right.now.param.now c.args.left.now.target.now c.args.right.now.target.now c.in_ok-at.at c.args.inner.now c.in-Ok.outer c.args.from.now c.in_ok-functor_coercion-in-Ok.field-0 c.requires.effects c.count-by.ensures c.in_ok-under.ensures c.requires.from (inner-at c.args.depth c.count-by.result c.in_ok-under.under c.args.left.now.kinds.now c.args.right.now.kinds.now c.args.left.now.param.now c.args.right.now.param.now c.args.inner.now c.count-by.ensures c.in_ok-under.ensures c.requires.inner) c.in_ok-at.ensures.at c.in-Ok.ensures c.in_ok-functor_coercion-in-Ok.ensures

pub sub_target-returns : goal.sub_target-returns
sub_target-returns t c = functor-res c.args.depth c.count-by.result c.in_ok-under.under c.args.left.now.effect c.args.right.now.effect c.args.left.now.kinds.now c.args.right.now.kinds.now c.args.left.now.param.now c.args.right.now.param.now c.args.left.now.target.now c.args.right.now.target.now c.in_ok-at.at c.args.inner.now c.in-Err.refusal c.within.result c.requires.effects c.count-by.ensures c.in_ok-under.ensures (inner-at c.args.depth c.count-by.result c.in_ok-under.under c.args.left.now.kinds.now c.args.right.now.kinds.now c.args.left.now.param.now c.args.right.now.param.now c.args.inner.now c.count-by.ensures c.in_ok-under.ensures c.requires.inner) c.in_ok-at.ensures.at c.in-Err.ensures c.within.ensures

pub sub_result-sub_sig-requires : goal.sub_result-sub_sig-requires
sub_result-sub_sig-requires t c = (omega (arith, abs-size c.args.left.now, abs-size c.args.right.now, ap size c.body.ensures, ap size c.body-in-Pure.ensures, c.decreases), (result-may_pure c.args.depth c.args.right_effect c.args.left.now c.args.right.now c.body.result.now c.body-in-Pure.result.now c.in-Pure.is c.body.ensures c.body-in-Pure.ensures c.requires.sides, c.requires.made))

pub sub_result-returns-in-Pure : goal.sub_result-returns-in-Pure
sub_result-returns-in-Pure t c = result-pure c.args.depth c.args.right_effect c.args.left.now c.args.right.now c.body.result.now c.body-in-Pure.result.now c.sub_sig.result c.in-Pure.is c.body.ensures c.body-in-Pure.ensures c.sub_sig.ensures

pub sub_result-sub_abs_in-requires : goal.sub_result-sub_abs_in-requires
sub_result-sub_abs_in-requires t c = (omega (arith, c.decreases), result-may_impure c.args.depth c.args.right_effect c.args.left.now c.args.right.now c.in-Impure.is c.requires.sides)

pub sub_result-returns-in-Impure : goal.sub_result-returns-in-Impure
sub_result-returns-in-Impure t c = result-impure c.args.depth c.args.right_effect c.args.left.now c.args.right.now c.sub_abs_in.result c.in-Impure.is c.sub_abs_in.ensures

pub sub_abs_in-returns-in_err-raised : goal.sub_abs_in-returns-in_err-raised
sub_abs_in-returns-in_err-raised t c = let p = err_from_is_err_and c.from_residual.result c.from_residual.ensures.1 in rw (p.1, p.2) (λ ctx l w v. tt)

pub sub_abs_in-returns-in_err-sum : goal.sub_abs_in-returns-in_err-sum
sub_abs_in-returns-in_err-sum t c = let p = err_from_is_err_and c.from_residual-in_err-sum.result c.from_residual-in_err-sum.ensures.1 in rw (p.1, p.2) (λ ctx l w v. tt)

pub sub_abs_in-returns-in_err-abs_coercion : goal.sub_abs_in-returns-in_err-abs_coercion
sub_abs_in-returns-in_err-abs_coercion t c = let p = err_from_is_err_and c.from_residual-in_err-abs_coercion.result c.from_residual-in_err-abs_coercion.ensures.1 in rw (p.1, p.2) (λ ctx l w v. tt)

pub sub_abs_in-match_in-requires : goal.sub_abs_in-match_in-requires
sub_abs_in-match_in-requires t c = (omega (arith, abs-size c.args.left.now, ap size c.body.ensures, ap size_abs (c.in_ok-raised.ensures.value ∙ raised-past (kinds_of c.args.left.now) c.count-by.result c.args.right.now (sym (c.count-by.ensures ∙ ap length c.kinds.ensures))), size_abs-rename (past (kinds_of c.args.left.now)) c.args.right.now, c.decreases), rw c.body.ensures (abs-may c.args.depth c.count-by.result c.in_ok-sum.field-0 c.args.left.now c.args.right.now c.in_ok-raised.raised (c.count-by.ensures ∙ ap length c.kinds.ensures) c.in_ok-sum.ensures (c.in_ok-raised.ensures.value ∙ raised-past (kinds_of c.args.left.now) c.count-by.result c.args.right.now (sym (c.count-by.ensures ∙ ap length c.kinds.ensures))) c.requires))

pub sub_abs_in-returns-in_err-inner : goal.sub_abs_in-returns-in_err-inner
sub_abs_in-returns-in_err-inner t c = let p = err_from_is_err_and c.from_residual-in_err-inner.result c.from_residual-in_err-inner.ensures.1 in rw (p.1, p.2) (abs-refused c.args.depth c.count-by.result c.in_ok-sum.field-0 c.args.left.now c.args.right.now c.in_ok-raised.raised c.in_err-inner.field-0.0 (c.count-by.ensures ∙ ap length c.kinds.ensures) c.in_ok-sum.ensures (c.in_ok-raised.ensures.value ∙ raised-past (kinds_of c.args.left.now) c.count-by.result c.args.right.now (sym (c.count-by.ensures ∙ ap length c.kinds.ensures))) (rw c.body.ensures at c.in_err-inner.ensures))

pub sub_abs_in-returns : goal.sub_abs_in-returns
sub_abs_in-returns t c = abs-ok c.args.depth c.count-by.result c.in_ok-sum.field-0 c.args.left.now c.args.right.now c.in_ok-raised.raised c.in_ok-inner.inner c.in_ok-abs_coercion.field-0 (c.count-by.ensures ∙ ap length c.kinds.ensures) c.in_ok-sum.ensures (c.in_ok-raised.ensures.value ∙ raised-past (kinds_of c.args.left.now) c.count-by.result c.args.right.now (sym (c.count-by.ensures ∙ ap length c.kinds.ensures))) (rw c.body.ensures at c.in_ok-inner.ensures) c.in_ok-abs_coercion.ensures
