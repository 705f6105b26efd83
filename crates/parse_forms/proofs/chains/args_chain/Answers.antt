use Rattle.std.proofs.Common.{◌≡◌, sym, ◌∙◌, ap}
use Rattle.std.specs.Prelude.{Some}
use Rattle.std.specs.List.{slice_get}
use Rattle.fing_syntax.specs.Inner.Leaves.{place}
use Rattle.fing_syntax.specs.Phrase.{ExpAt, ExpApply}
use Rattle.fing_syntax.specs.Place.{up_to as through, exp_span, arg_span}
use Rattle.fing_syntax.specs.Inner.View.{arg_of, args as arguments_of}
use Rattle.parse_forms.proofs.Chained.{arg_chained}
use Rattle.parse_forms.proofs.chains.args_chain.Goals as goal

pub returns : goal.returns
returns c =
    let at_last : Some c.in-Some.last.now ≡ slice_get c.args.rest.items 0 = c.in-Some.ensures.value ∙ ap (λ z. slice_get z 0) c.deref.ensures.value in
    let whole : place c.up_to-span.result ≡ through (exp_span c.args.first) (arg_span (arg_of c.in-Some.last.now))
    = c.up_to-span.ensures ∙ (λ i. through (exp_span (c.first-2.view_is i)) (c.end_of.ensures i)) in
    (λ i. ExpAt (whole i) (ExpApply (c.in_ok-first.ensures.ok i) (arguments_of (c.reverse.ensures.items i))))
    ∙ sym (arg_chained c.args.first c.args.rest.items c.in-Some.last.now at_last)
