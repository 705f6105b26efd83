-- Slots of an environment, and what is kept beside them: one entry more, and one less.
-- Main results: slot-at, noted, forgotten, pushed, popped.
use Rattle.std.specs.Prelude.{ℕ, zero, suc, ◌+◌, ◌-◌, ◌<◌, ◌≤◌, ◌≡◌, ◌==◌, List, [], ◌∷◌, ◌++◌, ◌↔◌, Bool, true, false, cond, Option, Some, None, IsSome, length, map, take}
use Rattle.std.specs.HashMap.{HashMap, Updates, get}
use Rattle.std.specs.Bool.{one_answer}
use Rattle.std.specs.Cmp.Lexicographic.{pointwise, bytes_decides}
use Rattle.std.proofs.Common.{get_or, arith, subst}
use Rattle.std.proofs.lemmas.Bool.{false≢true}
use Rattle.std.proofs.lemmas.List.{length-map, length-reverse}
use Rattle.std.proofs.Math.Path.{refl, sym, ◌∙◌, ap, ap₂}
use Rattle.omega_kinds.specs.View.{kind_tree}
use Rattle.omega_kinds.specs.declared.kind.Kind.{Kind as SharedKind}
use Rattle.omega_kinds.proofs.NameLaws.{same_name-true, same_name-itself}
use Rattle.omega_kinds.specs.Name.{Name, same_name}
use Rattle.omega_types.specs.Ty.{Ty}
use Rattle.omega_types.specs.Inner.Scope.{scope_of}
use Rattle.sig_definitions.specs.Signatures.Sig.{Sig}
use Rattle.sig_definitions.specs.Env.{Entry, Env, kinds}
use Rattle.semantic_sigs.specs.declared.env.Entry.{Entry as CodeEntry}
use Rattle.semantic_sigs.specs.declared.env.Entry.TheVariants as entry
use Rattle.semantic_sigs.specs.declared.env.Slot.{Slot}
use Rattle.semantic_sigs.specs.Inner.Entries.{entry_of, is_named, term_vars}
use Rattle.semantic_sigs.specs.Inner.Slots.{with_slots, type_count, term_count, place_of, hidden_by, IsSlot, AreSlots, Keeps, IsKept}
use Rattle.semantic_sigs.proofs.SeenSteps.{found-if, past-if}

-- the slots

-- an environment with one more slot has its entry first
pub with-last : (g : Env) (slots : List Slot) (slot : Slot) → with_slots g (slots ++ slot ∷ []) ≡ entry_of slot.entry ∷ with_slots g slots
with-last g [] slot = refl
with-last g (s ∷ slots) slot = with-last (entry_of s.entry ∷ g) slots slot

-- the environment of the slots up to a place has the entry there first
pub with-take : (g : Env) (slots : List Slot) (n : ℕ) (d : Slot) → n < length slots → with_slots g (take (n + 1) slots) ≡ entry_of (get_or slots n d).entry ∷ with_slots g (take n slots)
with-take g slots n d lt = ap (λ m. with_slots g (take m slots)) (next n) ∙ go g slots n d lt
  where
    next : (n : ℕ) → n + 1 ≡ suc n
    next n = omega arith

    go : (g : Env) (slots : List Slot) (n : ℕ) (d : Slot) → n < length slots → with_slots g (take (suc n) slots) ≡ entry_of (get_or slots n d).entry ∷ with_slots g (take n slots)
    go g [] n d lt = absurd (omega (arith, lt))
    go g (s ∷ slots) zero d lt = refl
    go g (s ∷ slots) (suc n) d lt = go (entry_of s.entry ∷ g) slots n d (omega (arith, lt))

-- all of the slots are the first ones, as many as there are
pub take-all : (slots : List Slot) → take (length slots) slots ≡ slots
take-all [] = refl
take-all (s ∷ slots) = ap (λ more. s ∷ more) (take-all slots)

length-with : (g : Env) (slots : List Slot) → length (with_slots g slots) ≡ length g + length slots
length-with g [] = plus (length g)
  where
    plus : (n : ℕ) → n ≡ n + 0
    plus n = omega arith
length-with g (s ∷ slots) = length-with (entry_of s.entry ∷ g) slots ∙ moved (length g) (length slots)
  where
    moved : (m n : ℕ) → suc m + n ≡ m + suc n
    moved m n = omega arith

-- the environment of slots has as many entries
pub length-slots : (slots : List Slot) → length (with_slots [] slots) ≡ length slots
length-slots slots = length-with [] slots ∙ none (length slots)
  where
    none : (n : ℕ) → 0 + n ≡ n
    none n = omega arith

slots-last : (g : Env) (slots : List Slot) (slot : Slot) → AreSlots g slots → IsSlot (with_slots g slots) slot → AreSlots g (slots ++ slot ∷ [])
slots-last g [] slot all one = (one, tt)
slots-last g (s ∷ slots) slot all one = (all.0, slots-last (entry_of s.entry ∷ g) slots slot all.1 one)

slots-less : (g : Env) (slots : List Slot) (slot : Slot) → AreSlots g (slots ++ slot ∷ []) → AreSlots g slots × IsSlot (with_slots g slots) slot
slots-less g [] slot all = (tt, all.0)
slots-less g (s ∷ slots) slot all = let r = slots-less (entry_of s.entry ∷ g) slots slot all.1 in ((all.0, r.0), r.1)

-- each slot notes what is so in the environment of those before it
pub slot-at : (g : Env) (slots : List Slot) (n : ℕ) (d : Slot) → n < length slots → AreSlots g slots → IsSlot (with_slots g (take n slots)) (get_or slots n d)
slot-at g [] n d lt all = absurd (omega (arith, lt))
slot-at g (s ∷ slots) zero d lt all = all.0
slot-at g (s ∷ slots) (suc n) d lt all = slot-at (entry_of s.entry ∷ g) slots n d (omega (arith, lt)) all.1

-- names

pub equal-name : (y x : Name) → pointwise ◌==◌ y x ≡ same_name x y
equal-name y x =
    one_answer (pointwise ◌==◌ y x) (same_name x y) (bytes_decides y x) (λ h. sym (same_name-true x y h), λ e. ap (same_name x) e ∙ same_name-itself x)

-- what is kept

-- the context has as many kinds as the scope
pub length-scope : (scope : List SharedKind) → length (scope_of scope) ≡ length scope
length-scope scope = length-reverse (map kind_tree scope) ∙ length-map scope kind_tree

pub keeps-name : {S : Type 0} → (list new : List SharedKind) (before after : HashMap Name ℕ S) (y : Name) (at : ℕ) (e : Entry) (g : Env) → ((x : Name) → is_named x e ≡ same_name x y) → kinds (e ∷ g) ≡ kinds g → new ≡ list
    → Updates (pointwise ◌==◌) before after y (Some at) → length g ≡ at → Keeps list before g → Keeps new after (e ∷ g)
keeps-name list new before after y at e g named same en u lg h = (ap scope_of en ∙ (h.0 ∙ sym same), λ x. u.0 x ∙ go x)
  where
    go : (x : Name) → cond (pointwise ◌==◌ y x) (Some at) (get (pointwise ◌==◌) before x) ≡ cond (is_named x e) (Some (length g)) (place_of g x)
    go x = ap₂ (λ b o. cond b (Some at) o) (equal-name y x ∙ sym (named x)) (h.1 x) ∙ ap (λ n. cond (is_named x e) (Some n) (place_of g x)) (sym lg)

is-some : {A : Type 0} (o : Option A) (x : A) → o ≡ Some x → IsSome o
is-some (Some y) x e = refl
is-some None x e = cc

pub back-name : {S : Type 0} → (list new : List SharedKind) (before after : HashMap Name ℕ S) (y : Name) (hidden : Option ℕ) (e : Entry) (g : Env) → ((x : Name) → is_named x e ≡ same_name x y) → kinds (e ∷ g) ≡ kinds g → new ≡ list → hidden ≡ place_of g y
    → (IsSome (get (pointwise ◌==◌) before y) → Updates (pointwise ◌==◌) before after y hidden) → Keeps list before (e ∷ g) → Keeps new after g
back-name list new before after y hidden e g named same en eh u h = (ap scope_of en ∙ (h.0 ∙ same), λ x. update.0 x ∙ (ap (λ b. cond b hidden (get (pointwise ◌==◌) before x)) (equal-name y x) ∙ go x (same_name x y) refl))
  where
    update : Updates (pointwise ◌==◌) before after y hidden
    update = u (is-some (get (pointwise ◌==◌) before y) (length g) (h.1 y ∙ found-if (is_named y e) (Some (length g)) (place_of g y) (named y ∙ same_name-itself y)))

    go : (x : Name) (b : Bool) → same_name x y ≡ b → cond b hidden (get (pointwise ◌==◌) before x) ≡ place_of g x
    go x true q = eh ∙ ap (place_of g) (sym (same_name-true x y q))
    go x false q = h.1 x ∙ past-if (is_named x e) (Some (length g)) (place_of g x) (named x ∙ q)

-- an entry of a name
abbrev pub IsOf : Entry → Name → Type 0
IsOf e y = ((x : Name) → is_named x e ≡ same_name x y) × ((g : Env) → kinds (e ∷ g) ≡ kinds g) × ((g : Env) → hidden_by e g ≡ place_of g y)

-- an entry for a module is of its name
pub is-module : (e : CodeEntry) (y : Name) (s : Sig) → e ≡ entry.Named y s → IsOf (entry_of e) y
is-module e y s same = subst (λ e. IsOf (entry_of e) y) (sym same) (λ x. refl, λ g. refl, λ g. refl)

-- an entry for a value is of its name
pub is-value : (e : CodeEntry) (y : Name) (t : Ty) → e ≡ entry.Value y t → IsOf (entry_of e) y
is-value e y t same = subst (λ e. IsOf (entry_of e) y) (sym same) (λ x. refl, λ g. refl, λ g. refl)

-- an entry for a type parameter is of its name
pub is-type : (e : CodeEntry) (y : Name) → e ≡ entry.TypeParam y → IsOf (entry_of e) y
is-type e y same = subst (λ e. IsOf (entry_of e) y) (sym same) (λ x. refl, λ g. refl, λ g. refl)

-- the place of a new entry, noted for its name, keeps the map right
pub noted : {S : Type 0} → (list : List SharedKind) (before after : HashMap Name ℕ S) (y : Name) (at : ℕ) (e : Entry) → IsOf e y → Updates (pointwise ◌==◌) before after y (Some at) → (g : Env) → length g ≡ at → Keeps list before g → Keeps list after (e ∷ g)
noted list before after y at e n u g lg h = keeps-name list list before after y at e g n.0 (n.1 g) refl u lg h

-- the place that is kept of a new entry's name is that of the entry which it hides
pub hidden-is : {S : Type 0} → (list : List SharedKind) (before : HashMap Name ℕ S) (y : Name) (hidden : Option ℕ) (e : Entry) → IsOf e y → hidden ≡ get (pointwise ◌==◌) before y → (g : Env) → Keeps list before g → hidden ≡ hidden_by e g
hidden-is list before y hidden e n eh g h = eh ∙ (h.1 y ∙ sym (n.2 g))

-- the place of the hidden entry, noted again when an entry is taken away, keeps the map right
pub forgotten : {S : Type 0} → (list : List SharedKind) (before after : HashMap Name ℕ S) (y : Name) (hidden : Option ℕ) (e : Entry) → IsOf e y → (IsSome (get (pointwise ◌==◌) before y) → Updates (pointwise ◌==◌) before after y hidden) → (g : Env) → hidden ≡ hidden_by e g → Keeps list before (e ∷ g) → Keeps list after g
forgotten list before after y hidden e n u g eh h = back-name list list before after y hidden e g n.0 (n.1 g) refl (eh ∙ n.2 g) u h

-- one entry more, and one less

plus-turned : (m n : ℕ) → m + n ≡ n + m
plus-turned m n = omega arith

-- one slot more, with what it notes, keeps all that is kept beside the slots
pub pushed : {S : Type 0} → (slots more : List Slot) (slot : Slot) (list new : List SharedKind) (before after : HashMap Name ℕ S) (terms : ℕ) → more ≡ slots ++ slot ∷ [] → IsKept slots list before terms → ((g : Env) → length g ≡ length slots → Keeps list before g → Keeps new after (entry_of slot.entry ∷ g))
    → ((g : Env) → Keeps list before g → slot.hidden ≡ hidden_by (entry_of slot.entry) g) → slot.types ≡ length new → slot.terms ≡ terms + term_vars (entry_of slot.entry) → IsKept more new after slot.terms
pushed slots more slot list new before after terms em kept ok hidden types count = subst (λ all. IsKept all new after slot.terms) (sym em) (slots-last [] slots slot kept.0 (hidden g kept.1, types-are, terms-are), subst (λ h. Keeps new after h) (sym whole) next, terms-are ∙ sym (ap term_count whole))
  where
    g : Env
    g = with_slots [] slots

    next : Keeps new after (entry_of slot.entry ∷ g)
    next = ok g (length-slots slots) kept.1

    whole : with_slots [] (slots ++ slot ∷ []) ≡ entry_of slot.entry ∷ g
    whole = with-last [] slots slot

    types-are : slot.types ≡ type_count (entry_of slot.entry ∷ g)
    types-are = types ∙ (sym (length-scope new) ∙ ap length next.0)

    terms-are : slot.terms ≡ term_count (entry_of slot.entry ∷ g)
    terms-are = count ∙ (ap (λ n. n + term_vars (entry_of slot.entry)) kept.2 ∙ plus-turned (term_count g) (term_vars (entry_of slot.entry)))

last-count : (less : List Slot) (slot : Slot) (slots : List Slot) (terms : ℕ) → slots ≡ less ++ slot ∷ [] → terms ≡ term_count (with_slots [] slots) → terms ≡ term_vars (entry_of slot.entry) + term_count (with_slots [] less)
last-count less slot slots terms es et = et ∙ (ap (λ all. term_count (with_slots [] all)) es ∙ ap term_count (with-last [] less slot))

-- a slot has no more term variables than are counted
pub terms-left : {S : Type 0} → (less : List Slot) (slot : Slot) (slots : List Slot) (list : List SharedKind) (places : HashMap Name ℕ S) (terms : ℕ) → slots ≡ less ++ slot ∷ [] → IsKept slots list places terms → term_vars (entry_of slot.entry) ≤ terms
terms-left less slot slots list places terms es kept = let e = last-count less slot slots terms es kept.2 in omega (arith, e)

-- one slot less keeps all that is kept beside the slots
pub popped : {S : Type 0} → (slots less : List Slot) (slot : Slot) (list new : List SharedKind) (before after : HashMap Name ℕ S) (terms fewer : ℕ) → slots ≡ less ++ slot ∷ [] → IsKept slots list before terms
    → ((g : Env) → slot.hidden ≡ hidden_by (entry_of slot.entry) g → Keeps list before (entry_of slot.entry ∷ g) → Keeps new after g) → fewer ≡ terms - term_vars (entry_of slot.entry) → IsKept less new after fewer
popped slots less slot list new before after terms fewer es kept ok ef = (parts.0, ok g parts.1.0 (subst (λ h. Keeps list before h) (ap (with_slots []) es ∙ with-last [] less slot) kept.1), fewer-is)
  where
    g : Env
    g = with_slots [] less

    parts : AreSlots [] less × IsSlot g slot
    parts = slots-less [] less slot (subst (AreSlots []) es kept.0)

    fewer-is : fewer ≡ term_count g
    fewer-is = let e = last-count less slot slots terms es kept.2 in omega (arith, e, ef)
