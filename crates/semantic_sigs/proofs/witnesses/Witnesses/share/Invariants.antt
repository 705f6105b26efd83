use Rattle.std.proofs.Common.{◌≡◌, take}
use Rattle.semantic_sigs.proofs.witnesses.Witnesses.share.Given as goal

abbrev pub invariant-loop-ty : goal.invariant-loop-ty
invariant-loop-ty l = l.copy ≡ take l.ty-index l.ty-items
