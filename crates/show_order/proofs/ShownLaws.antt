-- What holds of all fields holds of those that are shown.
-- Main results: shown_all.
use Rattle.std.proofs.Common.{zero, suc, List, [], ◌∷◌, map, All, arith}
use Rattle.std.specs.Borrow.{Bor}
use Rattle.std.proofs.lemmas.List.Sorted.{All-permutation}
use Rattle.omega_kinds.specs.Name.{Name}
use Rattle.show_order.specs.Inner.Arranged.{IsArranged}

behind : {X : Type 0} (P : X → Type 0) (shown : List (Bor X)) → All P (map (λ f. f.now) shown) → All (λ f. P f.now) shown
behind P [] h k d lt = absurd (omega (arith, lt))
behind P (f ∷ shown) h zero d lt = h zero d.now (omega arith)
behind P (f ∷ shown) h (suc k) d lt = behind P shown (λ j e l. h (suc j) e (omega (arith, l))) k d (omega (arith, lt))

-- what holds of each field holds of each field that is shown, in whatever order they are
pub shown_all : {X : Type 0} (P : Name × X → Type 0) (names : List Name) (fields : List (Name × X)) (shown : List (Bor (Name × X))) → IsArranged names fields shown → All P fields → All (λ f. P f.now) shown
shown_all P names fields shown a all = behind P shown (All-permutation P fields (map (λ f. f.now) shown) a.all all)
