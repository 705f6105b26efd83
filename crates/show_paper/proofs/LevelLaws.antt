-- That the names of two levels differ.
-- Main results: level-names-differ.
use Rattle.std.proofs.Common.{arith}
use Rattle.std.proofs.lemmas.Nat.{div-add-mod'}
use Rattle.show_paper.specs.Levels.{LevelNamesDiffer}

-- the names of two levels differ
pub level-names-differ : LevelNamesDiffer
level-names-differ l m p q = omega (arith, p, q, div-add-mod' l 21, div-add-mod' m 21)
