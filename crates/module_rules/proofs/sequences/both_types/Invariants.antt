use Rattle.std.proofs.Common.{◌≡◌, ◌++◌, map, take}
use Rattle.semantic_sigs.specs.Inner.Changes.{ty_in, putting}
use Rattle.module_rules.proofs.sequences.both_types.Given as goal

abbrev pub invariant-loop-ty : goal.invariant-loop-ty
invariant-loop-ty l = l.types ≡ l.first ++ map (ty_in (putting l.first)) (take l.ty-index l.ty-items)
