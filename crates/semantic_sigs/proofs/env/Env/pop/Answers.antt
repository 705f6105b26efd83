use Rattle.std.proofs.Common.{◌≤◌, ◌-◌, [], sym, ap, ◌∙◌, subst}
use Rattle.semantic_sigs.specs.Inner.Slots.{with_slots}
use Rattle.semantic_sigs.proofs.SlotSteps.{popped, terms-left, with-last}
use Rattle.semantic_sigs.proofs.env.Env.pop.Goals as goal

pub overflow_sub-self : goal.overflow_sub-self
overflow_sub-self c = subst (λ n. n ≤ c.self.inside.terms) (sym c.term_vars.ensures) (terms-left c.pop.new.self.items c.in-Some.slot c.self.inside.slots.items c.self.inside.kinds.items c.self.inside.places c.self.inside.terms c.in-Some.ensures.items c.self.invariant)

pub invariant_of-self : goal.invariant_of-self
invariant_of-self c =
    popped c.self.inside.slots.items c.pop.new.self.items c.in-Some.slot c.self.inside.kinds.items c.forget_entry.new.kinds.items c.self.inside.places c.forget_entry.new.places c.self.inside.terms (c.self.inside.terms - c.term_vars.result) c.in-Some.ensures.items c.self.invariant c.forget_entry.ensures (ap (λ n. c.self.inside.terms - n) c.term_vars.ensures)

pub returns-in-Some : goal.returns-in-Some
returns-in-Some c = sym c.self.view_is ∙ (ap (with_slots []) c.in-Some.ensures.items ∙ with-last [] c.pop.new.self.items c.in-Some.slot)
