use Rattle.std.proofs.Common.{◌≡◌, map, take}
use Rattle.semantic_sigs.specs.Inner.Changes.{putting, ty_in}
use Rattle.module_rests.proofs.gathering.put_list.Given as goal

abbrev pub invariant-loop-ty : goal.invariant-loop-ty
invariant-loop-ty l = l.types ≡ map (ty_in (putting l.before)) (take l.ty-index l.ty-items)
