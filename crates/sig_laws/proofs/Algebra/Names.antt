-- How two names, or two numbers, stand to each other.
-- Main results: compare-names.
use Rattle.std.specs.Prelude.{◌≡◌, ◌⊎◌, IsTrue}
use Rattle.std.proofs.Math.Logic.{inl, inr}
use Rattle.omega_kinds.specs.Name.{Name}
use Rattle.omega_kinds.specs.LabelOrder.{name_before}
use Rattle.omega_kinds.proofs.NameLaws.{name-total}

-- one of two comes first, or they are the same
pub data Compared {A : Type 0} (R : A → A → Type 0) : A → A → Type 0 where
  before : {x y : A} → R x y → Compared R x y
  after : {x y : A} → R y x → Compared R x y
  same : {x y : A} → x ≡ y → Compared R x y

-- one name comes before another
abbrev pub NameBefore : Name → Name → Type 0
NameBefore l m = IsTrue (name_before l m)

-- of two names one comes first, or they are the same
pub compare-names : (l m : Name) → Compared NameBefore l m
compare-names l m = go (name-total l m)
  where
    go : (l ≡ m) ⊎ (IsTrue (name_before l m) ⊎ IsTrue (name_before m l)) → Compared NameBefore l m
    go (inl e) = same e
    go (inr (inl h)) = before h
    go (inr (inr h)) = after h
