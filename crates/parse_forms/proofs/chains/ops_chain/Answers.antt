use Rattle.std.proofs.Common.{◌≡◌, sym, ◌∙◌, ap}
use Rattle.std.specs.Prelude.{Some}
use Rattle.std.specs.List.{slice_get}
use Rattle.fing_syntax.specs.Inner.Leaves.{place}
use Rattle.fing_syntax.specs.Phrase.{ExpAt, ExpOps}
use Rattle.fing_syntax.specs.Place.{up_to as through, exp_span}
use Rattle.fing_syntax.specs.Inner.View.{ops as operators_of}
use Rattle.parse_forms.proofs.Chained.{op_chained}
use Rattle.parse_forms.proofs.chains.ops_chain.Goals as goal

pub returns : goal.returns
returns c =
    let at_last : Some c.in-Some.last.now ≡ slice_get c.args.rest.items 0 = c.in-Some.ensures.value ∙ ap (λ z. slice_get z 0) c.deref.ensures.value in
    let whole : place c.up_to-span.result ≡ through (exp_span c.args.first) (exp_span c.in-Some.last.now.1)
    = c.up_to-span.ensures ∙ (λ i. through (exp_span (c.first-2.view_is i)) (exp_span (c.last.view_is i).1)) in
    (λ i. ExpAt (whole i) (ExpOps (c.in_ok-first.ensures.ok i) (operators_of (c.reverse.ensures.items i))))
    ∙ sym (op_chained c.args.first c.args.rest.items c.in-Some.last.now at_last)
