-- Fields that are found, and paths followed name by name.
-- Main results: step-into, step-lost, path-done.
use Rattle.std.proofs.Common.{◌≡◌, ℕ, zero, suc, ◌+◌, ◌<◌, ◌≤◌, ◌↔◌, List, [], ◌∷◌, length, get_or, drop, map, refl, sym, ap, ◌∙◌, subst, arith, ap₂}
use Rattle.std.proofs.Math.Seq.{drop-cons}
use Rattle.omega_kinds.specs.Name.{Name}
use Rattle.sig_definitions.specs.Explicit.SigPath.{Item, PartAt}
use Rattle.sig_definitions.specs.Signatures.Sig.{Sig, SigRow, HasField, NoField}
use Rattle.sig_laws.proofs.Algebra.PathLaws.{one-field, no-field}
use Rattle.semantic_sigs.specs.Inner.Fields.{SigPairs, sig_row}

next-index : (i : ℕ) → i + 1 ≡ suc i
next-index i = omega arith

-- what is left at an item is the item and what is left after it
pub left-more : {A : Type 0} (xs : List A) (i : ℕ) (x : A) → i < length xs → x ≡ get_or xs i x → drop i xs ≡ x ∷ drop (i + 1) xs
left-more xs i x h e = drop-cons xs i x h ∙ ap₂ (λ y m. y ∷ drop m xs) (sym e) (sym (next-index i))

-- the fields from a place on are the one there and those after it
pub row-at : (xs : SigPairs) (i : ℕ) (d : Name × Sig) → i < length xs → sig_row (drop i xs) ≡ SigRow.More (get_or xs i d).0 (get_or xs i d).1 (sig_row (drop (i + 1) xs))
row-at xs i d lt = ap sig_row (drop-cons xs i d lt) ∙ ap (λ n. SigRow.More (get_or xs i d).0 (get_or xs i d).1 (sig_row (drop n xs))) (sym (next-index i))

abbrev pub steps : List Name → List Item
steps = map Item.Part

-- what a path leads to from s, the first names being passed, is what the whole path leads to from w
abbrev pub Follows : Sig → List Name → Sig → List Name → Type 0
Follows s rest w path = (q : Sig) → PartAt s (steps rest) [] q ↔ PartAt w (steps path) [] q

into-field : {fs : SigRow} {l : Name} {s q : Sig} {p : List Item} → HasField fs l s → PartAt (Sig.Str fs) (Item.Part l ∷ p) [] q → PartAt s p [] q
into-field {q = q} {p = p} h (PartAt.field g r) = subst (λ u. PartAt u p [] q) (one-field g h refl) r

path-at : (path : List Name) (i : ℕ) (d : Name) → i < length path → drop i path ≡ get_or path i d ∷ drop (i + 1) path
path-at path i d lt = drop-cons path i d lt ∙ ap (λ n. get_or path i d ∷ drop n path) (sym (next-index i))

-- a path goes on into the field of its next name
pub step-into : (s next w : Sig) (path : List Name) (i : ℕ) (l : Name) (fs : SigRow) → i < length path → l ≡ get_or path i l → s ≡ Sig.Str fs → HasField fs l next → Follows s (drop i path) w path → Follows next (drop (i + 1) path) w path
step-into s next w path i l fs lt el es h f q =
    let e : drop i path ≡ l ∷ drop (i + 1) path = path-at path i l lt ∙ ap (λ m. m ∷ drop (i + 1) path) (sym el) in
    let g = subst (λ p. PartAt s (steps p) [] q ↔ PartAt w (steps path) [] q) e (f q) in
    let g' = subst (λ u. PartAt u (steps (l ∷ drop (i + 1) path)) [] q ↔ PartAt w (steps path) [] q) es g in
    (λ r. g'.0 (PartAt.field h r), λ r. into-field h (g'.1 r))

lost : {l : Name} {q : Sig} {p : List Item} (s : Sig) → ((fs : SigRow) → s ≡ Sig.Str fs → NoField l fs) → PartAt s (Item.Part l ∷ p) [] q → ⊥
lost _ n (PartAt.field {fs = fs} h r) = no-field fs (n fs refl) h

-- a path leads nowhere where its next name has no field
pub step-lost : (s w : Sig) (path : List Name) (i : ℕ) (l : Name) → i < length path → l ≡ get_or path i l → ((fs : SigRow) → s ≡ Sig.Str fs → NoField l fs) → Follows s (drop i path) w path → (q : Sig) → PartAt w (steps path) [] q → ⊥
step-lost s w path i l lt el n f q r =
    let e : drop i path ≡ l ∷ drop (i + 1) path = path-at path i l lt ∙ ap (λ m. m ∷ drop (i + 1) path) (sym el) in
    lost s n (subst (λ p. PartAt s (steps p) [] q) e ((f q).1 r))

-- a path whose names are all passed leads to what it has come to
pub path-done : (s w : Sig) (path : List Name) (i : ℕ) → length path ≤ i → Follows s (drop i path) w path → PartAt w (steps path) [] s
path-done s w path i le f = (f s).0 (subst (λ p. PartAt s (steps p) [] s) (sym (all path i le)) PartAt.end)
  where
    all : (path : List Name) (i : ℕ) → length path ≤ i → drop i path ≡ []
    all [] zero le = refl
    all [] (suc i) le = refl
    all (l ∷ path) zero le = absurd (omega (arith, le))
    all (l ∷ path) (suc i) le = all path i (omega arith)
