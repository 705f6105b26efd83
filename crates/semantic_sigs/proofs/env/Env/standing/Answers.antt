use Rattle.std.proofs.Common.{rules, refl, ◌≡◌, ◌+◌, ◌-◌, ◌<◌, ◌≤◌, [], Some, None, get_or, length, take, sym, ap, ap₂, ◌∙◌, subst}
use Rattle.omega_types.specs.Index.{bump}
use Rattle.sig_definitions.specs.Env.{find}
use Rattle.sig_definitions.specs.Signatures.SigSubst.{rename_sig}
use Rattle.semantic_sigs.proofs.FoundSteps.{find-missing, find-there, found-module, no-variable, nothing-found, place-inside, terms-inside, types-inside}
use Rattle.semantic_sigs.proofs.env.Env.standing.Goals as goal

pub returns-in_default : goal.returns-in_default
returns-in_default c =
    nothing-found (ap (λ g. find g c.args.name.now) (sym c.self.view_is) ∙ find-missing c.self.inside.slots.items c.self.inside.kinds.items c.self.inside.places c.self.inside.terms c.args.name.now c.self.invariant (sym c.in_default.ensures.value))

pub bounds-slots-at : goal.bounds-slots-at
bounds-slots-at c = subst (λ slots. c.in-Some.place.now < length slots) (sym c.as_slice-slots.ensures.value) (place-inside c.self.inside.slots.items c.self.inside.kinds.items c.self.inside.places c.self.inside.terms c.args.name.now c.in-Some.place.now c.self.invariant (sym c.in-Some.ensures.value))

pub offset_bounds-slots-at : goal.offset_bounds-slots-at
offset_bounds-slots-at c =
    let inside : c.in-Some.place.now < length c.as_slice-slots.result.now = subst (λ slots. c.in-Some.place.now < length slots) (sym c.as_slice-slots.ensures.value) (place-inside c.self.inside.slots.items c.self.inside.kinds.items c.self.inside.places c.self.inside.terms c.args.name.now c.in-Some.place.now c.self.invariant (sym c.in-Some.ensures.value)) in
    search rules

pub overflow_sub-types : goal.overflow_sub-types
overflow_sub-types c = subst (λ n. c.index-slots-at.result.types ≤ n) (sym (ap length c.as_slice-kinds.ensures.value)) (types-inside c.self.inside.slots.items c.self.inside.kinds.items c.self.inside.places c.self.inside.terms c.args.name.now c.in-Some.place.now c.index-slots-at.result c.self.invariant (sym c.in-Some.ensures.value) (c.index-slots-at.is ∙ ap (λ slots. get_or slots c.in-Some.place.now c.index-slots-at.result) c.as_slice-slots.ensures.value))

pub overflow_sub-terms : goal.overflow_sub-terms
overflow_sub-terms c = terms-inside c.self.inside.slots.items c.self.inside.kinds.items c.self.inside.places c.self.inside.terms c.args.name.now c.in-Some.place.now c.index-slots-at.result c.self.invariant (sym c.in-Some.ensures.value) (c.index-slots-at.is ∙ ap (λ slots. get_or slots c.in-Some.place.now c.index-slots-at.result) c.as_slice-slots.ensures.value)

-- the entry is no module
pub returns-in_default-entry : goal.returns-in_default-entry
returns-in_default-entry c s n q =
    let slots = c.self.inside.slots.items in
    let at = c.in-Some.place.now in
    let is = c.index-slots-at.is ∙ ap (λ all. get_or all at c.index-slots-at.result) c.as_slice-slots.ensures.value in
    let there = ap (λ g. find g c.args.name.now) (sym c.self.view_is) in
    no-variable slots at _ _ c.index-slots-at.result (place-inside slots c.self.inside.kinds.items c.self.inside.places c.self.inside.terms c.args.name.now at c.self.invariant (sym c.in-Some.ensures.value)) is c.in_default-entry.not-Named s n
    (sym (there ∙ find-there slots c.self.inside.kinds.items c.self.inside.places c.self.inside.terms c.args.name.now at c.index-slots-at.result c.self.invariant (sym c.in-Some.ensures.value) is) ∙ q)

pub returns : goal.returns
returns c =
    let slots = c.self.inside.slots.items in
    let at = c.in-Some.place.now in
    let x = c.index-slots-at.result in
    let inside = place-inside slots c.self.inside.kinds.items c.self.inside.places c.self.inside.terms c.args.name.now at c.self.invariant (sym c.in-Some.ensures.value) in
    let is = c.index-slots-at.is ∙ ap (λ all. get_or all at x) c.as_slice-slots.ensures.value in
    let types = ap (λ kinds. length kinds - x.types) (sym c.as_slice-kinds.ensures.value) in
    let here = found-module slots at (length c.self.inside.kinds.items - x.types) (c.self.inside.terms - x.terms) x c.in-Named.field-0 c.in-Named.sig (rename_sig (bump (length c.self.inside.kinds.items - x.types) 0) c.in-Named.sig) c.in_ok-term.term inside (sym (ap (λ y. y.entry) is) ∙ c.in-Named.is) refl c.in_ok-term.ensures in
    ap (λ g. find g c.args.name.now) (sym c.self.view_is)
    ∙ (find-there slots c.self.inside.kinds.items c.self.inside.places c.self.inside.terms c.args.name.now at x c.self.invariant (sym c.in-Some.ensures.value) is
    ∙ (sym here ∙ ap (λ by. Some (rename_sig (bump by 0) c.in-Named.sig, c.in_ok-term.term)) types))
