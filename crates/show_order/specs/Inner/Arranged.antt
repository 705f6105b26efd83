-- Fields in the order of a list of names.
use Rattle.std.specs.Prelude.{List, map, IsPermutation}
use Rattle.std.specs.Borrow.{Bor}
use Rattle.std.specs.List.Sorted.{IsNonDecreasingBy}
use Rattle.omega_kinds.specs.Name.{Name}
use Rattle.show_order.specs.Inner.Places.{rank}

-- each field is shown once, and nothing else; of two that are shown, the first one has no higher rank: those that are
-- among the names stand as their last places do, and before all others
pub record IsArranged {X : Type 0} (names : List Name) (fields : List (Name × X)) (shown : List (Bor (Name × X))) : Type 0 where
  pub all : IsPermutation fields (map (λ f. f.now) shown)
  pub rising : IsNonDecreasingBy (λ f. rank names f.now.0) shown
