use Rattle.std.proofs.Common.{◌≡◌, ◌++◌, take}
use Rattle.module_rests.proofs.gathering.append.Given as goal

abbrev pub invariant-loop-ty : goal.invariant-loop-ty
invariant-loop-ty l = l.types ≡ l.initial.types ++ take l.ty-index l.ty-items
