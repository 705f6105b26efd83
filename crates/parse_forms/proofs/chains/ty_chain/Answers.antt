use Rattle.std.proofs.Common.{◌≡◌, sym, ◌∙◌, ap}
use Rattle.std.specs.Prelude.{Some}
use Rattle.std.specs.List.{slice_get}
use Rattle.fing_syntax.specs.Inner.Leaves.{place}
use Rattle.fing_syntax.specs.Phrase.{TyAt, TyApply}
use Rattle.fing_syntax.specs.Place.{up_to as through, ty_span}
use Rattle.fing_syntax.specs.Inner.View.{tys as tys_of}
use Rattle.parse_forms.proofs.Chained.{ty_applied}
use Rattle.parse_forms.proofs.chains.ty_chain.Goals as goal

pub returns : goal.returns
returns c =
    let at_last : Some c.in-Some.last.now ≡ slice_get c.args.rest.items 0 = c.in-Some.ensures.value ∙ ap (λ z. slice_get z 0) c.deref.ensures.value in
    let whole : place c.up_to-span.result ≡ through (ty_span c.args.first) (ty_span c.in-Some.last.now)
    = c.up_to-span.ensures ∙ (λ i. through (ty_span (c.first-2.view_is i)) (ty_span (c.last.view_is i))) in
    (λ i. TyAt (whole i) (TyApply (c.in_ok-first.ensures.ok i) (tys_of (c.reverse.ensures.items i))))
    ∙ sym (ty_applied c.args.first c.args.rest.items c.in-Some.last.now at_last)
