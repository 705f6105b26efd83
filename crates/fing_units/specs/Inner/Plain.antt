-- What the code's refusals are seen as: the index of a foreign unit, and nothing when memory is out.
use Rattle.std.specs.Prelude.{ℕ, Option, Some, None}
use Rattle.fing_units.specs.declared.refusal.LinkRefusal.{LinkRefusal}
use Rattle.fing_units.specs.declared.refusal.LinkRefusal.TheVariants as refusal

abbrev pub foreign_index : LinkRefusal → Option ℕ
foreign_index (refusal.Foreign index) = Some index
foreign_index refusal.Mem = None

-- what the code answers when memory is out
abbrev pub want_of_memory : LinkRefusal
want_of_memory = refusal.Mem
