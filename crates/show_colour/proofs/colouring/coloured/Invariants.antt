use Rattle.std.proofs.Common.{◌≡◌, ◌++◌, ℕ, List, length}
use Rattle.show_colour.specs.Inner.Coloured.{IsColoured}
use Rattle.show_colour.proofs.colouring.coloured.Given as goal

-- what is behind is shown, and the rest is ahead
abbrev pub invariant-loop-rest : goal.invariant-loop-rest
invariant-loop-rest l = (behind : List ℕ) × (behind ++ l.rest ≡ l.page) × IsColoured behind l.shown.items

abbrev pub decreases-loop-rest : goal.decreases-loop-rest
decreases-loop-rest l = length l.rest
