-- The order of labels: the reserved ones first, as they are declared, then the names by their bytes.
use Rattle.std.specs.Prelude.{◌≡◌, ◌⊎◌, ℕ, List, [], Bool, IsTrue}
use Rattle.std.specs.Ordering.{nat_cmp, on, then_cmp, is_lt}
use Rattle.std.specs.Cmp.Lexicographic.{slice_cmp}
use Rattle.std.specs.declared.cmp.Ordering.{Ordering}
use Rattle.omega_kinds.specs.declared.label.Label.{Label}
use Rattle.omega_kinds.specs.declared.label.Label.TheVariants.{Val, Typ, Sig, App, Gen}

-- the place of a label among the reserved ones, the names standing after all of them
abbrev pub rank : Label → ℕ
rank Val = 0
rank Typ = 1
rank Sig = 2
rank App = 3
rank Gen = 4
rank (Label.Name bytes) = 5

-- the bytes of a name, none of a reserved label
abbrev pub spelling : Label → List ℕ
spelling Val = []
spelling Typ = []
spelling Sig = []
spelling App = []
spelling Gen = []
spelling (Label.Name bytes) = bytes

-- a name that another one begins with is less; else the first byte that differs decides
abbrev pub name_cmp : (left right : List ℕ) → Ordering
name_cmp l m = slice_cmp nat_cmp l m

abbrev pub label_cmp : (left right : Label) → Ordering
label_cmp l m = then_cmp (on rank nat_cmp) (on spelling (slice_cmp nat_cmp)) l m

abbrev pub name_before : (left right : List ℕ) → Bool
name_before l m = is_lt (name_cmp l m)

abbrev pub label_before : (left right : Label) → Bool
label_before l m = is_lt (label_cmp l m)

abbrev pub LabelBefore : (left right : Label) → Type 0
LabelBefore l m = IsTrue (label_before l m)

-- the order of labels is strict and total
pub record IsStrictTotalOrder : Type 0 where
  pub irreflexive : (l : Label) → LabelBefore l l → ⊥
  pub transitive : (l m n : Label) → LabelBefore l m → LabelBefore m n → LabelBefore l n
  pub total : (l m : Label) → (l ≡ m) ⊎ (LabelBefore l m ⊎ LabelBefore m l)
