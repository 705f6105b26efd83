-- What the code's environments keep beside their entries, so that no name is looked for entry by entry.
use Rattle.std.specs.Prelude.{◌≡◌, ℕ, ◌+◌, ◌==◌, List, [], ◌∷◌, cond, Option, None, Some, length}
use Rattle.std.specs.HashMap.{HashMap, get}
use Rattle.std.specs.Cmp.Lexicographic.{pointwise}
use Rattle.omega_kinds.specs.Name.{Name}
use Rattle.omega_kinds.specs.declared.kind.Kind.{Kind as SharedKind}
use Rattle.omega_types.specs.Inner.Scope.{scope_of}
use Rattle.sig_definitions.specs.Env.{Entry, Env, kinds}
use Rattle.semantic_sigs.specs.declared.env.Slot.{Slot}
use Rattle.semantic_sigs.specs.Inner.Entries.{entry_of, is_named, term_vars}

-- an environment with the entries of slots after it
abbrev pub with_slots : Env → List Slot → Env
with_slots g [] = g
with_slots g (slot ∷ slots) = with_slots (entry_of slot.entry ∷ g) slots

-- how many type variables and term variables an environment has
abbrev pub type_count : Env → ℕ
type_count g = length (kinds g)

abbrev pub term_count : Env → ℕ
term_count [] = 0
term_count (e ∷ g) = term_vars e + term_count g

-- the place of the last entry of a name, the outermost entry being at 0
abbrev pub place_of : Env → Name → Option ℕ
place_of [] x = None
place_of (e ∷ g) x = cond (is_named x e) (Some (length g)) (place_of g x)

-- the place of the entry that an entry after an environment hides
abbrev pub hidden_by : Entry → Env → Option ℕ
hidden_by (Entry.TypeVar k) g = None
hidden_by (Entry.Named x s) g = place_of g x
hidden_by (Entry.Value x t) g = place_of g x
hidden_by (Entry.TypeParam x) g = place_of g x

-- a slot after an environment: what its entry hides, and how many variables there are up to the entry, with its own
abbrev pub IsSlot : Env → Slot → Type 0
IsSlot g slot = (slot.hidden ≡ hidden_by (entry_of slot.entry) g) × (slot.types ≡ type_count (entry_of slot.entry ∷ g)) × (slot.terms ≡ term_count (entry_of slot.entry ∷ g))

-- each slot stands after those before it
abbrev pub AreSlots : Env → List Slot → Type 0
AreSlots g [] = Unit {0}
AreSlots g (slot ∷ slots) = IsSlot g slot × AreSlots (entry_of slot.entry ∷ g) slots

-- the kinds are those of an environment, and the map has the place of the last entry of each name
abbrev pub Keeps : {S : Type 0} → List SharedKind → HashMap Name ℕ S → Env → Type 0
Keeps list places g = (scope_of list ≡ kinds g) × ((x : Name) → get (pointwise ◌==◌) places x ≡ place_of g x)

-- all that is kept of the entries of slots
abbrev pub IsKept : {S : Type 0} → List Slot → List SharedKind → HashMap Name ℕ S → ℕ → Type 0
IsKept slots list places terms = AreSlots [] slots × Keeps list places (with_slots [] slots) × (terms ≡ term_count (with_slots [] slots))
