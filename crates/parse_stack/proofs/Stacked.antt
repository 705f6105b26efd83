-- What is pushed last stands on top.
use Rattle.std.proofs.Common.{◌≡◌, List, [], ◌∷◌, ◌++◌, map, refl, sym, ◌∙◌, ap}
use Rattle.std.specs.Prelude.{Option, None, Some, option_map, option_to_list}
use Rattle.std.proofs.lemmas.List.{reverse-append}
use Rattle.parse_stack.specs.Inner.Part.{part_in, items}
use Rattle.parse_stack.specs.Inner.Play.{uncons}
use Rattle.parse_stack.specs.declared.part.Part.{Part}

pub items_push : (ps : List Part) (p : Part) → items (ps ++ p ∷ []) ≡ part_in p ∷ items ps
items_push ps p = ap (λ z. map part_in z) (reverse-append ps (p ∷ []))

-- where nothing is taken off there is nothing
pub items_pop : (old new : List Part) (r : Option Part) → old ≡ new ++ option_to_list r → (r ≡ None → old ≡ [])
    → option_map (λ p. (part_in p, items new)) r ≡ uncons (items old)
items_pop old new None e n = sym (ap (λ z. uncons (items z)) (n refl))
items_pop old new (Some p) e n = sym (ap (λ z. uncons (items z)) e ∙ ap uncons (items_push new p))
