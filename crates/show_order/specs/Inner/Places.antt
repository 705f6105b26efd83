-- Places of names in a list of names.
use Rattle.std.specs.Prelude.{◌≡◌, ℕ, ◌+◌, ◌==◌, List, [], ◌∷◌, length, map, cond, Option, None, Some}
use Rattle.std.specs.Option.{option_or}
use Rattle.std.specs.HashMap.{HashMap, get}
use Rattle.std.specs.Cmp.Lexicographic.{pointwise}
use Rattle.omega_kinds.specs.Name.{Name, same_name}

-- the last place of a name in a list whose first place is `at`
abbrev pub place_from : (at : ℕ) → List Name → Name → Option ℕ
place_from at [] x = None
place_from at (y ∷ ys) x = option_or (place_from (at + 1) ys x) (cond (same_name x y) (Some at) None)

-- a place, or for none the one that is given
abbrev pub place_or : Option ℕ → ℕ → ℕ
place_or None end = end
place_or (Some at) end = at

-- the rank of a name: its last place, or the place after all names where it is none of them
abbrev pub rank : List Name → Name → ℕ
rank names x = place_or (place_from 0 names x) (length names)

-- the names of a list of names with something
abbrev pub names_of : {X : Type 0} → List (Name × X) → List Name
names_of items = map (λ i. i.0) items

-- a map has the last place of each name
abbrev pub HasPlaces : {S : Type 0} → HashMap Name ℕ S → List Name → Type 0
HasPlaces places names = (x : Name) → get (pointwise ◌==◌) places x ≡ place_from 0 names x
