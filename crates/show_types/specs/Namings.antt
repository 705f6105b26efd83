-- Namings: what is written for type variables, the outermost first. A variable has a name or none.
use Rattle.std.specs.Option.{option_map}
use Rattle.std.specs.Prelude.{◌≡◌, ℕ, ◌<◌, ◌-◌, ◌^◌, ◌++◌, ◌∷◌, [], List, Bool, ◌&&◌, Option, Some, None, is_some, length, decimal, cond, nat_lt, get_or}

-- the mark of a variable without a name: `?`
abbrev pub mark : ℕ
mark = 63

-- what is written for a variable without a name: the mark and its level
abbrev pub marked : ℕ → List ℕ
marked level = mark ∷ decimal level

-- what is written for the variable of a level that has this name or none
abbrev pub written_as : Option (List ℕ) → ℕ → List ℕ
written_as (Some x) level = x
written_as None level = marked level

-- what is written for the variable of a level
abbrev pub written : List (Option (List ℕ)) → ℕ → List ℕ
written names level = written_as (get_or names level None) level

-- the level of the variable of an index, 0 being the innermost, if there is one
abbrev pub level_of : List (Option (List ℕ)) → ℕ → Option ℕ
level_of names index = cond (nat_lt index (length names)) (Some (length names - 1 - index)) None

-- what is written for the variable of an index, if there is one
abbrev pub written_at : List (Option (List ℕ)) → ℕ → Option (List ℕ)
written_at names index = option_map (written names) (level_of names index)

-- whether the variable of an index has a name
abbrev pub named_at : List (Option (List ℕ)) → ℕ → Bool
named_at names index = is_some (get_or names (length names - 1 - index) None) && nat_lt index (length names)

-- one more variable may get the name: none has it, and it does not begin with the mark
pub record Free (names : List (Option (List ℕ))) (x : List ℕ) : Type 0 where
  pub new : (i : ℕ) → get_or names i None ≡ Some x → ⊥
  pub plain : get_or x 0 0 ≡ mark → ⊥

-- no two variables have one name, and no name begins with the mark
pub record IsNaming (names : List (Option (List ℕ))) : Type 0 where
  pub distinct : (i j : ℕ) (x : List ℕ) → get_or names i None ≡ Some x → get_or names j None ≡ Some x → i ≡ j
  pub plain : (i : ℕ) (x : List ℕ) → get_or names i None ≡ Some x → get_or x 0 0 ≡ mark → ⊥

-- one more variable, the innermost: it gets the name that is given if it may, and else none
pub data Adds (names : List (Option (List ℕ))) : Option (List ℕ) → List (Option (List ℕ)) → Type 0 where
  named : {x : List ℕ} → Free names x → Adds names (Some x) (names ++ Some x ∷ [])
  taken : {x : List ℕ} → (Free names x → ⊥) → Adds names (Some x) (names ++ None ∷ [])
  unnamed : Adds names None (names ++ None ∷ [])

-- what is written for two variables differs
abbrev pub NamesDiffer : Type 0
NamesDiffer = (names : List (Option (List ℕ))) (l m : ℕ) → IsNaming names → l < 2 ^ 64 → m < 2 ^ 64 → written names l ≡ written names m → l ≡ m
