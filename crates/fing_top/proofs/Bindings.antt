-- How many bindings a program has.
-- Main results: bind_count-binds.
use Rattle.std.proofs.Common.{◌≡◌, suc, List, [], ◌∷◌, length, refl, ap}
use Rattle.fing_syntax.specs.Phrase.{Bind}
use Rattle.fing_syntax.specs.Inner.View.{binds as binds_of}
use Rattle.fing_top.specs.Counts.{bind_count}

-- a list of bindings, seen as a program, has as many
pub bind_count-binds : (xs : List Bind) → bind_count (binds_of xs) ≡ length xs
bind_count-binds [] = refl
bind_count-binds (x ∷ xs) = ap suc (bind_count-binds xs)
