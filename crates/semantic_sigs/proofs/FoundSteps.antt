-- The entry at the place of a name, and what it stands for.
-- Main results: find-there, find-missing, found-module, found-value, found-param.
use Rattle.std.specs.Prelude.{ℕ, zero, suc, ◌+◌, ◌-◌, ◌<◌, ◌≤◌, ◌≡◌, ◌==◌, List, [], ◌∷◌, ◌++◌, ◌↔◌, Bool, true, false, Option, Some, None, length, take}
use Rattle.std.specs.HashMap.{HashMap, get}
use Rattle.std.specs.Cmp.Lexicographic.{pointwise}
use Rattle.std.proofs.Common.{get_or, arith, subst}
use Rattle.std.proofs.lemmas.Bool.{false≢true}
use Rattle.std.proofs.Math.Path.{refl, sym, ◌∙◌, ap, ap₂}
use Rattle.omega_kinds.specs.Kind.{Kind}
use Rattle.omega_kinds.specs.declared.kind.Kind.{Kind as SharedKind}
use Rattle.omega_kinds.specs.Name.{Name}
use Rattle.omega_types.specs.Ty.{Ty}
use Rattle.omega_types.specs.EtaLong.{eta}
use Rattle.omega_types.specs.Index.{bump, shift}
use Rattle.omega_terms.specs.Term.{Term, TermRow}
use Rattle.omega_terms.specs.PartTerms.{type_term, value_term}
use Rattle.sig_definitions.specs.Signatures.Sig.{Sig}
use Rattle.sig_definitions.specs.Signatures.SigSubst.{rename_sig}
use Rattle.sig_definitions.specs.Env.{Entry, Env, find, type_param, first_kind}
use Rattle.semantic_sigs.specs.declared.env.Entry.{Entry as CodeEntry}
use Rattle.semantic_sigs.specs.declared.env.Entry.TheVariants as entry
use Rattle.semantic_sigs.specs.declared.env.Slot.{Slot}
use Rattle.semantic_sigs.specs.Inner.Entries.{entry_of, is_named, type_vars, term_vars, here, here_first, seen}
use Rattle.semantic_sigs.specs.Inner.Slots.{with_slots, type_count, term_count, place_of, IsSlot, IsKept}
use Rattle.semantic_sigs.proofs.SeenSteps.{seen-none, found-if, past-if, find-named, find-other, same-counts, seen-param}
use Rattle.semantic_sigs.proofs.SlotSteps.{with-take, take-all, length-slots, slot-at, length-scope}

-- the entry at the place of a name

-- how many variables there are past the entry at a place, and what a name is that stands for it
abbrev Found : List Slot → ℕ → Name → ℕ → Type 0
Found slots n x at = (at < n) × (types : ℕ) × (terms : ℕ) × (type_count (with_slots [] (take n slots)) ≡ types + type_count (with_slots [] (take (at + 1) slots))) × (term_count (with_slots [] (take n slots)) ≡ terms + term_count (with_slots [] (take (at + 1) slots)))
    × ((t m : ℕ) → seen t m (find (with_slots [] (take n slots)) x) ≡ seen (t + types) (m + terms) (here_first (with_slots [] (take (at + 1) slots))))

some-of : {A : Type 0} (x y : A) → Some x ≡ Some y → x ≡ y
some-of x y e = cc

not-some : {A : Type 0} (x : A) → None ≡ Some x → ⊥
not-some x e = cc

more-type : (e : Entry) (g : Env) → type_count (e ∷ g) ≡ type_vars e + type_count g
more-type (Entry.TypeVar k) g = omega arith
more-type (Entry.Named y s) g = omega arith
more-type (Entry.Value y t) g = omega arith
more-type (Entry.TypeParam y) g = omega arith

length-taken : (slots : List Slot) (n : ℕ) → n ≤ length slots → length (take n slots) ≡ n
length-taken [] zero le = refl
length-taken [] (suc n) le = absurd (omega (arith, le))
length-taken (s ∷ slots) zero le = refl
length-taken (s ∷ slots) (suc n) le = ap suc (length-taken slots n (omega (arith, le)))

sums : (a b c t u : ℕ) → a ≡ t + b → b ≡ u + c → a ≡ t + u + c
sums a b c t u e f = omega (arith, e, f)

grouped : (a b c : ℕ) → a + b + c ≡ a + (b + c)
grouped a b c = omega arith

found-here : (slots : List Slot) (n : ℕ) (x : Name) (e : Entry) (g : Env) → with_slots [] (take (suc n) slots) ≡ e ∷ g → is_named x e ≡ true → Found slots (suc n) x n
found-here slots n x e g whole named = (omega arith, 0, 0, ap type_count same ∙ none (type_count (with_slots [] (take (n + 1) slots))), ap term_count same ∙ none (term_count (with_slots [] (take (n + 1) slots))), here-seen)
  where
    next : (n : ℕ) → suc n ≡ n + 1
    next n = omega arith

    none : (k : ℕ) → k ≡ 0 + k
    none k = omega arith

    same : with_slots [] (take (suc n) slots) ≡ with_slots [] (take (n + 1) slots)
    same = ap (λ k. with_slots [] (take k slots)) (next n)

    here-seen : (t m : ℕ) → seen t m (find (with_slots [] (take (suc n) slots)) x) ≡ seen (t + 0) (m + 0) (here_first (with_slots [] (take (n + 1) slots)))
    here-seen t m = ap (λ h. seen t m (find h x)) whole ∙ (ap (seen t m) (find-named e g x named) ∙ (ap (λ h. seen t m (here_first h)) (sym whole ∙ same) ∙ same-counts t m (here_first (with_slots [] (take (n + 1) slots)))))

found-outside : (slots : List Slot) (n : ℕ) (x : Name) (at : ℕ) (e : Entry) → with_slots [] (take (suc n) slots) ≡ e ∷ with_slots [] (take n slots) → is_named x e ≡ false → Found slots n x at → Found slots (suc n) x at
found-outside slots n x at e whole other (lt, types, terms, et, em, h) =
    (omega (arith, lt), type_vars e + types, term_vars e + terms, sums _ _ _ _ _ (ap type_count whole ∙ more-type e (with_slots [] (take n slots))) et, sums _ _ _ _ _ (ap term_count whole) em, further)
  where
    further : (t m : ℕ) → seen t m (find (with_slots [] (take (suc n) slots)) x) ≡ seen (t + (type_vars e + types)) (m + (term_vars e + terms)) (here_first (with_slots [] (take (at + 1) slots)))
    further t m = ap (λ h. seen t m (find h x)) whole ∙ (find-other t m e (with_slots [] (take n slots)) x other ∙ (h (t + type_vars e) (m + term_vars e) ∙ ap₂ (λ i j. seen i j (here_first (with_slots [] (take (at + 1) slots)))) (grouped t (type_vars e) types) (grouped m (term_vars e) terms)))

found-at : (slots : List Slot) (n : ℕ) (x : Name) (at : ℕ) (d : Slot) → n ≤ length slots → place_of (with_slots [] (take n slots)) x ≡ Some at → Found slots n x at
found-at slots zero x at d le h = absurd (not-some at (sym (ap (λ all. place_of (with_slots [] all) x) (take-none slots)) ∙ h))
  where
    take-none : (slots : List Slot) → take 0 slots ≡ []
    take-none [] = refl
    take-none (s ∷ slots) = refl
found-at slots (suc n) x at d le h = go (λ q. found-at slots n x at d (omega (arith, le)) q) (is_named x (entry_of (get_or slots n d).entry)) refl
  where
    next : (n : ℕ) → suc n ≡ n + 1
    next n = omega arith

    whole : with_slots [] (take (suc n) slots) ≡ entry_of (get_or slots n d).entry ∷ with_slots [] (take n slots)
    whole = ap (λ k. with_slots [] (take k slots)) (next n) ∙ with-take [] slots n d (omega (arith, le))

    place : place_of (entry_of (get_or slots n d).entry ∷ with_slots [] (take n slots)) x ≡ Some at
    place = sym (ap (λ g. place_of g x) whole) ∙ h

    go : (place_of (with_slots [] (take n slots)) x ≡ Some at → Found slots n x at) → (b : Bool) → is_named x (entry_of (get_or slots n d).entry) ≡ b → Found slots (suc n) x at
    go ih true q =
        subst (λ i. Found slots (suc n) x i) (sym (length-taken slots n (omega (arith, le))) ∙ (sym (length-slots (take n slots)) ∙ some-of (length (with_slots [] (take n slots))) at (sym (found-if (is_named x (entry_of (get_or slots n d).entry)) _ _ q) ∙ place))) (found-here slots n x (entry_of (get_or slots n d).entry) (with_slots [] (take n slots)) whole q)
    go ih false q = found-outside slots n x at (entry_of (get_or slots n d).entry) whole q (ih (sym (past-if (is_named x (entry_of (get_or slots n d).entry)) _ _ q) ∙ place))

found-all : {S : Type 0} → (slots : List Slot) (list : List SharedKind) (places : HashMap Name ℕ S) (terms : ℕ) (x : Name) (at : ℕ) (d : Slot) → IsKept slots list places terms → get (pointwise ◌==◌) places x ≡ Some at → Found slots (length slots) x at
found-all slots list places terms x at d kept h = found-at slots (length slots) x at d (omega arith) (ap (λ all. place_of (with_slots [] all) x) (take-all slots) ∙ (sym (kept.1.1 x) ∙ h))

some-slot : (slots : List Slot) (x : Name) (at : ℕ) → place_of (with_slots [] slots) x ≡ Some at → Slot
some-slot [] x at h = absurd (not-some at h)
some-slot (s ∷ slots) x at h = s

-- the place that is kept of a name is one of the slots
pub place-inside : {S : Type 0} → (slots : List Slot) (list : List SharedKind) (places : HashMap Name ℕ S) (terms : ℕ) (x : Name) (at : ℕ) → IsKept slots list places terms → get (pointwise ◌==◌) places x ≡ Some at → at < length slots
place-inside slots list places terms x at kept h = (found-all slots list places terms x at (some-slot slots x at (sym (kept.1.1 x) ∙ h)) kept h).0

-- the numbers past the slot at the place of a name
abbrev Past : List Slot → List SharedKind → ℕ → Name → ℕ → Slot → Type 0
Past slots list terms x at d = (d.types ≤ length list) × (d.terms ≤ terms) × (find (with_slots [] slots) x ≡ seen (length list - d.types) (terms - d.terms) (here_first (with_slots [] (take (at + 1) slots))))

past : {S : Type 0} → (slots : List Slot) (list : List SharedKind) (places : HashMap Name ℕ S) (terms : ℕ) (x : Name) (at : ℕ) (d : Slot) → IsKept slots list places terms → get (pointwise ◌==◌) places x ≡ Some at → d ≡ get_or slots at d → Past slots list terms x at d
past slots list places terms x at d kept h ed = go (found-all slots list places terms x at d kept h)
  where
    go : Found slots (length slots) x at → Past slots list terms x at d
    go (lt, types, count, et, em, f) = (omega (arith, all-types), omega (arith, all-terms), sym (seen-none (find (with_slots [] slots) x)) ∙ (sym (ap (λ all. seen 0 0 (find (with_slots [] all) x)) (take-all slots)) ∙ (f 0 0 ∙ ap₂ (λ i j. seen i j (here_first (with_slots [] (take (at + 1) slots)))) (less types (length list) d.types all-types) (less count terms d.terms all-terms))))
      where
        one : IsSlot (with_slots [] (take at slots)) d
        one = subst (IsSlot (with_slots [] (take at slots))) (sym ed) (slot-at [] slots at d lt kept.0)

        there : with_slots [] (take (at + 1) slots) ≡ entry_of d.entry ∷ with_slots [] (take at slots)
        there = with-take [] slots at d lt ∙ ap (λ s. entry_of s.entry ∷ with_slots [] (take at slots)) (sym ed)

        less : (past whole part : ℕ) → whole ≡ past + part → 0 + past ≡ whole - part
        less past whole part e = omega (arith, e)

        all-types : length list ≡ types + d.types
        all-types = sym (length-scope list) ∙ (ap length kept.1.0 ∙ (sym (ap (λ all. type_count (with_slots [] all)) (take-all slots)) ∙ (et ∙ ap (λ n. types + n) (ap type_count there ∙ sym one.1))))

        all-terms : terms ≡ count + d.terms
        all-terms = kept.2 ∙ (sym (ap (λ all. term_count (with_slots [] all)) (take-all slots)) ∙ (em ∙ ap (λ n. count + n) (ap term_count there ∙ sym one.2)))

-- as many types as are noted at a slot are among those in scope
pub types-inside : {S : Type 0} → (slots : List Slot) (list : List SharedKind) (places : HashMap Name ℕ S) (terms : ℕ) (x : Name) (at : ℕ) (d : Slot) → IsKept slots list places terms → get (pointwise ◌==◌) places x ≡ Some at → d ≡ get_or slots at d → d.types ≤ length list
types-inside slots list places terms x at d kept h ed = (past slots list places terms x at d kept h ed).0

-- as many term variables as are noted at a slot are among those in scope
pub terms-inside : {S : Type 0} → (slots : List Slot) (list : List SharedKind) (places : HashMap Name ℕ S) (terms : ℕ) (x : Name) (at : ℕ) (d : Slot) → IsKept slots list places terms → get (pointwise ◌==◌) places x ≡ Some at → d ≡ get_or slots at d → d.terms ≤ terms
terms-inside slots list places terms x at d kept h ed = (past slots list places terms x at d kept h ed).1

-- a name whose place is kept stands for the entry there, seen past the variables after it
pub find-there : {S : Type 0} → (slots : List Slot) (list : List SharedKind) (places : HashMap Name ℕ S) (terms : ℕ) (x : Name) (at : ℕ) (d : Slot) → IsKept slots list places terms → get (pointwise ◌==◌) places x ≡ Some at → d ≡ get_or slots at d
    → find (with_slots [] slots) x ≡ seen (length list - d.types) (terms - d.terms) (here_first (with_slots [] (take (at + 1) slots)))
find-there slots list places terms x at d kept h ed = (past slots list places terms x at d kept h ed).2

find-none : (g : Env) (x : Name) → place_of g x ≡ None → find g x ≡ None
find-none [] x h = refl
find-none (e ∷ g) x h = go (λ q. find-none g x q) (is_named x e) refl
  where
    go : (place_of g x ≡ None → find g x ≡ None) → (b : Bool) → is_named x e ≡ b → find (e ∷ g) x ≡ None
    go ih true q = absurd (not-some (length g) (sym h ∙ found-if (is_named x e) (Some (length g)) (place_of g x) q))
    go ih false q = sym (seen-none (find (e ∷ g) x)) ∙ (find-other 0 0 e g x q ∙ ap (λ o. seen (0 + type_vars e) (0 + term_vars e) o) (ih (sym (past-if (is_named x e) (Some (length g)) (place_of g x) q) ∙ h)))

-- a name whose place is not kept is not found
pub find-missing : {S : Type 0} → (slots : List Slot) (list : List SharedKind) (places : HashMap Name ℕ S) (terms : ℕ) (x : Name) → IsKept slots list places terms → get (pointwise ◌==◌) places x ≡ None → find (with_slots [] slots) x ≡ None
find-missing slots list places terms x kept h = find-none (with_slots [] slots) x (sym (kept.1.1 x) ∙ h)

-- the entry at a place is a type parameter
-- the entry before a place
pub before-place : (slots : List Slot) (at : ℕ) (d : Slot) → (at ≡ 0 → ⊥) → at < length slots → with_slots [] (take at slots) ≡ entry_of (get_or slots (at - 1) d).entry ∷ with_slots [] (take (at - 1) slots)
before-place slots zero d some lt = absurd (some refl)
before-place slots (suc n) d some lt = ap (λ m. with_slots [] (take m slots)) (next n) ∙ (with-take [] slots n d (omega (arith, lt)) ∙ ap (λ m. entry_of (get_or slots m d).entry ∷ with_slots [] (take m slots)) (less n))
  where
    next : (n : ℕ) → suc n ≡ n + 1
    next n = omega arith

    less : (n : ℕ) → n ≡ suc n - 1
    less n = omega arith

-- the kind of the first entry, where this is no type variable, is *
pub first-other : (e : CodeEntry) (g : Env) → ((k : SharedKind) → e ≡ entry.TypeVar k → ⊥) → Kind.Star ≡ first_kind (entry_of e ∷ g)
first-other (entry.TypeVar k) g other = absurd (other k refl)
first-other (entry.Named y s) g other = refl
first-other (entry.Value y t) g other = refl
first-other (entry.TypeParam y) g other = refl

-- what the entry at a place stands for
entry-stands : (slots : List Slot) (at types terms : ℕ) (x : Slot) (e : CodeEntry) → at < length slots → (get_or slots at x).entry ≡ e → seen types terms (here (entry_of e) (with_slots [] (take at slots))) ≡ seen types terms (here_first (with_slots [] (take (at + 1) slots)))
entry-stands slots at types terms x e lt ee = sym (ap (λ g. seen types terms (here_first g)) (with-take [] slots at x lt ∙ ap (λ u. entry_of u ∷ with_slots [] (take at slots)) ee))

plus-none : (n : ℕ) → n ≡ n + 0
plus-none n = omega arith

-- an entry that is a type variable stands for nothing
pub found-type : (slots : List Slot) (at types terms : ℕ) (x : Slot) (k : SharedKind) → at < length slots → (get_or slots at x).entry ≡ entry.TypeVar k → None ≡ seen types terms (here_first (with_slots [] (take (at + 1) slots)))
found-type slots at types terms x k lt ee = entry-stands slots at types terms x (entry.TypeVar k) lt ee

-- an entry that is a module stands for its signature and its term variable, raised past the variables after it
pub found-module : (slots : List Slot) (at types terms : ℕ) (x : Slot) (y : Name) (s sig : Sig) (term : Term) → at < length slots → (get_or slots at x).entry ≡ entry.Named y s
    → sig ≡ rename_sig (bump types 0) s → term ≡ Term.Var terms → Some (sig, term) ≡ seen types terms (here_first (with_slots [] (take (at + 1) slots)))
found-module slots at types terms x y s sig term lt ee es et =
    ap₂ (λ s e. Some (s, e)) es (et ∙ ap Term.Var (plus-none terms)) ∙ entry-stands slots at types terms x (entry.Named y s) lt ee

-- an entry that is a value stands for the signature of its type and its value, raised past the variables after it
pub found-value : (slots : List Slot) (at types terms : ℕ) (x : Slot) (y : Name) (t ty : Ty) (sig : Sig) (own term : Term) → at < length slots → (get_or slots at x).entry ≡ entry.Value y t
    → ty ≡ shift types 0 t → sig ≡ Sig.Val ty → own ≡ Term.Var terms → term ≡ value_term own → Some (sig, term) ≡ seen types terms (here_first (with_slots [] (take (at + 1) slots)))
found-value slots at types terms x y t ty sig own term lt ee ey es eo et =
    ap₂ (λ s e. Some (s, e)) (es ∙ ap Sig.Val ey) (et ∙ ap value_term (eo ∙ ap Term.Var (plus-none terms))) ∙ entry-stands slots at types terms x (entry.Value y t) lt ee

-- an entry that is a type parameter stands for the type of the variable before it, raised past those after it
pub found-param : (slots : List Slot) (at types terms : ℕ) (x : Slot) (y : Name) (k : Kind) (sig : Sig) (term : Term) → at < length slots → (get_or slots at x).entry ≡ entry.TypeParam y → k ≡ first_kind (with_slots [] (take at slots))
    → sig ≡ Sig.Typ (shift types 0 (eta k (Ty.Var zero))) k → term ≡ type_term (shift types 0 (eta k (Ty.Var zero))) k → Some (sig, term) ≡ seen types terms (here_first (with_slots [] (take (at + 1) slots)))
found-param slots at types terms x y k sig term lt ee ek es et =
    ap₂ (λ s e. Some (s, e)) es et ∙ (sym (seen-param types terms k) ∙ (ap (λ j. seen types terms (Some (type_param j))) ek ∙ entry-stands slots at types terms x (entry.TypeParam y) lt ee))

fields-other : (s t : Sig) (r : TermRow) (d : Term) (n : ℕ) → d ≡ Term.Fields r → Some (s, d) ≡ (let found : Option (Sig × Term) = Some (t, Term.Var n) in found) → ⊥
fields-other s t r d n e h = let same : d ≡ Term.Var n = ap_snd h in cc
  where
    ap_snd : {a b : Sig × Term} → Some a ≡ Some b → a.1 ≡ b.1
    ap_snd h = let same : _ ≡ _ = some-of _ _ h in ap (λ (x : Sig × Term). x.1) same

-- where the entry at a place is no module, no variable is found
pub no-variable : (slots : List Slot) (at types terms : ℕ) (x : Slot) → at < length slots → x ≡ get_or slots at x → ((y : Name) (s : Sig) → x.entry ≡ entry.Named y s → ⊥)
    → (s : Sig) (n : ℕ) → seen types terms (here_first (with_slots [] (take (at + 1) slots))) ≡ Some (s, Term.Var n) → ⊥
no-variable slots at types terms x lt is other s n q = by x.entry other (entry-stands slots at types terms x x.entry lt (ap (λ y. y.entry) (sym is)) ∙ q)
  where
    by : (e : CodeEntry) → ((y : Name) (s : Sig) → e ≡ entry.Named y s → ⊥) → seen types terms (here (entry_of e) (with_slots [] (take at slots))) ≡ Some (s, Term.Var n) → ⊥
    by (entry.TypeVar k) o p = not-some (s, Term.Var n) p
    by (entry.Named y t) o p = o y t refl
    by (entry.Value y t) o p = fields-other _ s _ _ n refl p
    by (entry.TypeParam y) o p = fields-other _ s _ _ n refl p

-- where nothing is found, no term variable is
pub nothing-found : {o : Option (Sig × Term)} → o ≡ None → (s : Sig) (n : ℕ) → o ≡ Some (s, Term.Var n) → ⊥
nothing-found e s n q = not-some (s, Term.Var n) (sym e ∙ q)
