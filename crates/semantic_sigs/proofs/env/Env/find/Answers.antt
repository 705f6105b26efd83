use Rattle.std.proofs.Common.{rules, ◌+◌, ◌-◌, ◌<◌, ◌≤◌, [], get_or, length, take, sym, ap, ap₂, ◌∙◌, subst}
use Rattle.std.proofs.lemmas.Result.{IfOk-weaker}
use Rattle.sig_definitions.specs.Env.{find}
use Rattle.semantic_sigs.specs.Inner.Entries.{here_first, seen}
use Rattle.semantic_sigs.specs.Inner.Slots.{with_slots}
use Rattle.semantic_sigs.proofs.FoundSteps.{find-missing, find-there, place-inside, terms-inside, types-inside}
use Rattle.semantic_sigs.proofs.env.Env.find.Goals as goal

pub returns-in_default : goal.returns-in_default
returns-in_default c = sym (find-missing c.self.inside.slots.items c.self.inside.kinds.items c.self.inside.places c.self.inside.terms c.args.name.now c.self.invariant (sym c.in_default.ensures.value)) ∙ ap (λ g. find g c.args.name.now) c.self.view_is

pub bounds-slots-at : goal.bounds-slots-at
bounds-slots-at c = subst (λ slots. c.in-Some.place.now < length slots) (sym c.as_slice-slots.ensures.value) (place-inside c.self.inside.slots.items c.self.inside.kinds.items c.self.inside.places c.self.inside.terms c.args.name.now c.in-Some.place.now c.self.invariant (sym c.in-Some.ensures.value))

pub offset_bounds-slots-at : goal.offset_bounds-slots-at
offset_bounds-slots-at c =
    let inside : c.in-Some.place.now < length c.as_slice-slots.result.now = subst (λ slots. c.in-Some.place.now < length slots) (sym c.as_slice-slots.ensures.value) (place-inside c.self.inside.slots.items c.self.inside.kinds.items c.self.inside.places c.self.inside.terms c.args.name.now c.in-Some.place.now c.self.invariant (sym c.in-Some.ensures.value)) in
    search rules

pub found-requires : goal.found-requires
found-requires c = subst (λ slots. c.in-Some.place.now < length slots) (sym c.as_slice-slots.ensures.value) (place-inside c.self.inside.slots.items c.self.inside.kinds.items c.self.inside.places c.self.inside.terms c.args.name.now c.in-Some.place.now c.self.invariant (sym c.in-Some.ensures.value))

pub overflow_sub-types : goal.overflow_sub-types
overflow_sub-types c = subst (λ n. c.index-slots-at.result.types ≤ n) (sym (ap length c.as_slice-kinds.ensures.value)) (types-inside c.self.inside.slots.items c.self.inside.kinds.items c.self.inside.places c.self.inside.terms c.args.name.now c.in-Some.place.now c.index-slots-at.result c.self.invariant (sym c.in-Some.ensures.value) (c.index-slots-at.is ∙ ap (λ slots. get_or slots c.in-Some.place.now c.index-slots-at.result) c.as_slice-slots.ensures.value))

pub overflow_sub-terms : goal.overflow_sub-terms
overflow_sub-terms c = terms-inside c.self.inside.slots.items c.self.inside.kinds.items c.self.inside.places c.self.inside.terms c.args.name.now c.in-Some.place.now c.index-slots-at.result c.self.invariant (sym c.in-Some.ensures.value) (c.index-slots-at.is ∙ ap (λ slots. get_or slots c.in-Some.place.now c.index-slots-at.result) c.as_slice-slots.ensures.value)

pub returns : goal.returns
returns c =
    IfOk-weaker c.found.result _ _ (λ o h. h ∙ (ap₂ (λ n slots. seen (n - c.index-slots-at.result.types) (c.self.inside.terms - c.index-slots-at.result.terms) (here_first (with_slots [] (take (c.in-Some.place.now + 1) slots)))) (ap length c.as_slice-kinds.ensures.value) c.as_slice-slots.ensures.value ∙ (sym (find-there c.self.inside.slots.items c.self.inside.kinds.items c.self.inside.places c.self.inside.terms c.args.name.now c.in-Some.place.now c.index-slots-at.result c.self.invariant (sym c.in-Some.ensures.value) (c.index-slots-at.is ∙ ap (λ slots. get_or slots c.in-Some.place.now c.index-slots-at.result) c.as_slice-slots.ensures.value)) ∙ ap (λ g. find g c.args.name.now) c.self.view_is))) c.found.ensures
