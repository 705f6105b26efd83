use Rattle.std.proofs.Common.{◌+◌, [], ◌∷◌, ◌++◌, length, sym, ap, ◌∙◌}
use Rattle.semantic_sigs.specs.Inner.Entries.{entry_of}
use Rattle.semantic_sigs.specs.Inner.Slots.{with_slots}
use Rattle.semantic_sigs.specs.declared.env.Slot.{Slot}
use Rattle.semantic_sigs.proofs.SlotSteps.{pushed, with-last}
use Rattle.semantic_sigs.proofs.env.Env.push.Goals as goal

pub invariant_of-self-2 : goal.invariant_of-self-2
invariant_of-self-2 c =
    let slot : Slot = record { entry = c.args.entry; hidden = c.in_ok-hidden.hidden; types = length c.as_slice-kinds.result.now; terms = c.in_ok-terms.terms } in
    pushed c.self.inside.slots.items c.push.new.self.items slot c.self.inside.kinds.items c.note_entry.new.kinds.items c.self.inside.places c.note_entry.new.places c.self.inside.terms (c.in_ok-push.ensures.items ∙ ap (λ slots. slots ++ slot ∷ []) c.reserve.ensures.items) c.self.invariant (λ g e k. c.in_ok-hidden.ensures.ok g (e ∙ sym (ap length c.as_slice-slots.ensures.value ∙ ap length c.reserve.ensures.items)) k) c.in_ok-hidden.ensures.hidden (ap length c.as_slice-kinds.ensures.value) (c.in_ok-terms.ensures ∙ ap (λ n. c.self.inside.terms + n) c.term_vars.ensures)

pub returns-clause-ok : goal.returns-clause-ok
returns-clause-ok c =
    let slot : Slot = record { entry = c.args.entry; hidden = c.in_ok-hidden.hidden; types = length c.as_slice-kinds.result.now; terms = c.in_ok-terms.terms } in
    ap (with_slots []) (c.in_ok-push.ensures.items ∙ ap (λ slots. slots ++ slot ∷ []) c.reserve.ensures.items) ∙ (with-last [] c.self.inside.slots.items slot ∙ ap (λ g. entry_of c.args.entry ∷ g) c.self.view_is)
