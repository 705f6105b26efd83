use Rattle.std.proofs.Common.{◌≡◌, ◌∷◌, map, IfOk, sym, ap, ◌∙◌, subst}
use Rattle.std.proofs.lemmas.Result.{IfOk-weaker}
use Rattle.semantic_sigs.specs.Inner.Items.{item_of}
use Rattle.sig_definitions.specs.Explicit.SigPath.{Item}
use Rattle.sig_cut_laws.specs.Cut.{CutTo}
use Rattle.sig_match.proofs.CutSteps.{all-cut, part-cut, result-cut, one-part, same-functor}
use Rattle.sig_match.proofs.cutting.+cutting.Goals as goal

pub cut-returns-in-empty : goal.cut-returns-in-empty
cut-returns-in-empty t c = IfOk-weaker c.share.result (λ d. d ≡ c.args.sig.now) (λ d. CutTo (map item_of c.args.path.now) c.args.sig.now d) (λ d e. all-cut (map item_of c.args.path.now) c.args.sig.now d e) c.share.ensures

pub cut_step-returns-in-Part : goal.cut_step-returns-in-Part
cut_step-returns-in-Part t c = subst (λ a. IfOk c.cut_part.result (λ d. CutTo (a ∷ map item_of c.args.rest.now) c.args.sig.now d)) (sym (ap item_of c.in-Part.is)) c.cut_part.ensures

pub cut_step-returns-in-Res : goal.cut_step-returns-in-Res
cut_step-returns-in-Res t c = subst (λ a. IfOk c.cut_result.result (λ d. CutTo (a ∷ map item_of c.args.rest.now) c.args.sig.now d)) (sym (ap item_of c.in-Res.is)) c.cut_result.ensures

pub cut_step-returns-in-Arg : goal.cut_step-returns-in-Arg
cut_step-returns-in-Arg t c = IfOk-weaker c.share.result (λ d. d ≡ c.args.sig.now) (λ d. CutTo (item_of c.args.first.now ∷ map item_of c.args.rest.now) c.args.sig.now d) (λ d e. all-cut (item_of c.args.first.now ∷ map item_of c.args.rest.now) c.args.sig.now d e) c.share.ensures

pub cut_step-returns-in-Meta : goal.cut_step-returns-in-Meta
cut_step-returns-in-Meta t c = IfOk-weaker c.share-in-Meta.result (λ d. d ≡ c.args.sig.now) (λ d. CutTo (item_of c.args.first.now ∷ map item_of c.args.rest.now) c.args.sig.now d) (λ d e. all-cut (item_of c.args.first.now ∷ map item_of c.args.rest.now) c.args.sig.now d e) c.share-in-Meta.ensures

pub cut_part-returns-in_default : goal.cut_part-returns-in_default
cut_part-returns-in_default t c = IfOk-weaker c.share.result (λ d. d ≡ c.args.sig.now) (λ d. CutTo (Item.Part c.args.name.now ∷ map item_of c.args.rest.now) c.args.sig.now d) (λ d e. all-cut (Item.Part c.args.name.now ∷ map item_of c.args.rest.now) c.args.sig.now d e) c.share.ensures

pub cut_part-returns : goal.cut_part-returns
cut_part-returns t c = IfOk-weaker c.make.result _ (λ d. CutTo (Item.Part c.args.name.now ∷ map item_of c.args.rest.now) c.args.sig.now d) (λ d e. part-cut (map item_of c.args.rest.now) c.args.name.now c.args.sig.now c.in-Some.part.now c.in_ok-part.part d c.in-Some.ensures c.in_ok-part.ensures (e ∙ one-part c.in_ok-fields.fields c.push.new.self c.in_ok-share.field-0 c.args.name.now c.in_ok-part.part c.in_ok-fields.ensures c.in_ok-share.ensures c.in_ok-push.ensures.ok)) c.make.ensures

pub cut_result-returns-in_default : goal.cut_result-returns-in_default
cut_result-returns-in_default t c = IfOk-weaker c.share.result (λ d. d ≡ c.args.sig.now) (λ d. CutTo (Item.Res ∷ map item_of c.args.rest.now) c.args.sig.now d) (λ d e. all-cut (Item.Res ∷ map item_of c.args.rest.now) c.args.sig.now d e) c.share.ensures

pub cut_result-returns-then-not-hides_nothing : goal.cut_result-returns-then-not-hides_nothing
cut_result-returns-then-not-hides_nothing t c = IfOk-weaker c.share-then-not-hides_nothing.result (λ d. d ≡ c.args.sig.now) (λ d. CutTo (Item.Res ∷ map item_of c.args.rest.now) c.args.sig.now d) (λ d e. all-cut (Item.Res ∷ map item_of c.args.rest.now) c.args.sig.now d e) c.share-then-not-hides_nothing.ensures

pub cut_result-returns : goal.cut_result-returns
cut_result-returns t c =
    let f = c.in-Some.functor in
    let h = c.hides_nothing.ensures c.if-not-hides_nothing.false in
    IfOk-weaker c.make-2.result _ (λ d. CutTo (Item.Res ∷ map item_of c.args.rest.now) c.args.sig.now d)
    (λ d e. result-cut (map item_of c.args.rest.now) f.effect f.kinds.now f.param.now c.args.sig.now c.body.result.now c.in_ok-body.body d f.target.now c.in-Some.ensures h.0 h.1 c.body.ensures c.in_ok-body.ensures
    (same-functor f.param.now c.in_ok-share-2.field-0 c.in_ok-body.body d f.effect f.kinds.now c.in_ok-share.field-0 c.new.result c.in_ok-result.result e c.in_ok-share.ensures c.in_ok-share-2.ensures c.in_ok-result.ensures c.new.ensures)) c.make-2.ensures
