-- What the code's refusals are seen as: plain ones, and nothing when memory is out.
use Rattle.std.specs.Prelude.{Option, Some, None}
use Rattle.module_judgments.specs.ModWhy.{ModWhy}
use Rattle.module_rules.specs.declared.refusal.ModRefusal.{ModRefusal}
use Rattle.module_rules.specs.declared.refusal.ModRefusal.TheVariants as refusal

abbrev pub plain_why : ModRefusal → Option ModWhy
plain_why (refusal.Unbound name) = Some (ModWhy.Unbound name)
plain_why (refusal.NoPart name) = Some (ModWhy.NoPart name)
plain_why refusal.NotStructure = Some ModWhy.NotStructure
plain_why refusal.NotFunctor = Some ModWhy.NotFunctor
plain_why refusal.WrongPath = Some ModWhy.WrongPath
plain_why refusal.Escapes = Some ModWhy.Escapes
plain_why refusal.Mem = None

-- what the code answers when memory is out
abbrev pub want_of_memory : ModRefusal
want_of_memory = refusal.Mem
