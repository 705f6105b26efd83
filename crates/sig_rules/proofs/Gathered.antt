-- The fields of a structure put into an ordered map by their names, the last one first, and the row of its entries.
-- Main results: put-all, entry-follows, gathered-given.
use Rattle.std.proofs.Common.{◌≡◌, ℕ, zero, suc, ◌+◌, ◌-◌, ◌<◌, ◌≤◌, List, [], ◌∷◌, ◌++◌, length, get_or, drop, take, map, cond, refl, sym, ap, ◌∙◌, subst, arith, drop_of_length-le, take-append-drop}
use Rattle.std.proofs.lemmas.Map.Lookups.{exact_bytes}
use Rattle.std.specs.BTreeMap.{insert_entry}
use Rattle.std.specs.List.Sorted.{IsStrictlySortedBy}
use Rattle.std.specs.Map.{keys_of}
use Rattle.std.specs.Ordering.{is_lt, match_ordering}
use Rattle.std.specs.declared.cmp.Ordering.{Ordering}
use Rattle.std.specs.declared.cmp.Ordering.TheVariants.{Less, Equal, Greater}
use Rattle.omega_kinds.specs.Kind.{Kind}
use Rattle.omega_kinds.specs.LabelOrder.{name_cmp}
use Rattle.omega_kinds.specs.Name.{Name}
use Rattle.omega_kinds.specs.View.{kind_tree}
use Rattle.omega_kinds.specs.declared.kind.Kind.{Kind as SharedKind}
use Rattle.omega_types.specs.Index.{bump}
use Rattle.sig_definitions.specs.Signatures.FieldOrder.{insert_field, merge}
use Rattle.sig_definitions.specs.Signatures.Sig.{Abs, NoField, Sig, SigRow}
use Rattle.sig_definitions.specs.Signatures.SigSubst.{rename_sig}
use Rattle.sig_laws.proofs.Formed.WellFormedShape.{before-no_field}
use Rattle.sig_explicit_laws.proofs.Fields.{merge-none}
use Rattle.semantic_sigs.specs.Inner.Fields.{MayFollow, Rises, SigPairs, sig_row}
use Rattle.semantic_sigs.specs.Inner.View.{body_of, kinds_of}
use Rattle.semantic_sigs.proofs.PartSteps.{left-more}
use Rattle.sig_judgments.specs.SigRules.{DeclarationsGive}
use Rattle.sig_rules.specs.Inner.Plain.{AreApart}
use Rattle.sig_rules.proofs.Merging.{before-all, may-follow, rises-end, sequence-given}

-- a part of a new name
put-new : (es : SigPairs) (l : Name) (s : Sig) → NoField l (sig_row es) → sig_row (insert_entry name_cmp es l s) ≡ insert_field l s (sig_row es)
put-new [] l s n = refl
put-new (e ∷ es) l s n = go (put-new es l s n.1) (name_cmp l e.0) refl
  where
    front : SigRow
    front = SigRow.More l s (sig_row (e ∷ es))

    back : SigRow
    back = SigRow.More e.0 e.1 (insert_field l s (sig_row es))

    placed : Ordering → SigPairs
    placed o = match_ordering o ((l, s) ∷ e ∷ es) ((e.0, s) ∷ es) (e ∷ insert_entry name_cmp es l s)

    go : sig_row (insert_entry name_cmp es l s) ≡ insert_field l s (sig_row es) → (o : Ordering) → name_cmp l e.0 ≡ o → sig_row (insert_entry name_cmp (e ∷ es) l s) ≡ insert_field l s (sig_row (e ∷ es))
    go ih Less p = ap (λ o. sig_row (placed o)) p ∙ sym (ap (λ o. cond (is_lt o) front back) p)
    go ih Equal p = absurd (n.0 (exact_bytes l e.0 p))
    go ih Greater p = ap (λ o. sig_row (placed o)) p ∙ (ap (SigRow.More e.0 e.1) ih ∙ sym (ap (λ o. cond (is_lt o) front back) p))

-- what holds of all fields holds of those from a place on

apart-from : (fields : SigPairs) (i : ℕ) (row : SigRow) → AreApart (sig_row fields) row → AreApart (sig_row (drop i fields)) row
apart-from fields zero row a = a
apart-from [] (suc i) row a = tt
apart-from (x ∷ xs) (suc i) row a = apart-from xs i row a.1

rises-from : (fields : SigPairs) (i : ℕ) → Rises fields → Rises (drop i fields)
rises-from fields i r = rises-end (take i fields) (drop i fields) (subst (λ (zs : SigPairs). Rises zs) (sym (take-append-drop i fields)) r)

-- the state of the loop: the fields from a place on are put in
abbrev pub PutFrom : (fields old now : SigPairs) (left : ℕ) → Type 0
PutFrom fields old now left = (left ≤ length fields) × (AreApart (sig_row fields) (sig_row old) → sig_row now ≡ merge (sig_row (drop left fields)) (sig_row old))

-- before any field is put in, the map has the old fields alone
pub put-begin : (fields old : SigPairs) → PutFrom fields old old (length fields)
put-begin fields old =
    let le : length fields ≤ length fields = omega arith in
    (le, λ a. ap (λ (zs : SigPairs). merge (sig_row zs) (sig_row old)) (sym (drop_of_length-le fields le)))

-- where the field before the place is put into the map, the place moves on to it
pub put-next : (fields old now new : SigPairs) (left : ℕ) (x : Name × Sig) → 0 < left → Rises fields → x ≡ get_or fields (left - 1) x → new ≡ insert_entry name_cmp now x.0 x.1 → PutFrom fields old now left → PutFrom fields old new (left - 1)
put-next fields old now new left x lt r ex en w =
    let le = w.0 in
    let below : left - 1 < length fields = omega arith in
    let again : left - 1 + 1 ≡ left = omega arith in
    let d : drop (left - 1) fields ≡ x ∷ drop left fields = left-more fields (left - 1) x below ex ∙ ap (λ n. x ∷ drop n fields) again in
    let rest = sig_row (drop left fields) in (
      omega arith,
      λ a.
          let rises : Rises (x ∷ drop left fields) = subst (λ (zs : SigPairs). Rises zs) d (rises-from fields (left - 1) r) in
          let apart : AreApart (sig_row (x ∷ drop left fields)) (sig_row old) = subst (λ (zs : SigPairs). AreApart (sig_row zs) (sig_row old)) d (apart-from fields (left - 1) (sig_row old) a) in
          let none : NoField x.0 (merge rest (sig_row old)) = merge-none x.0 rest (sig_row old) (before-no_field x.0 rest (before-all x (drop left fields) rises)) apart.0 in
          let before = w.1 a in
          ap sig_row en ∙ (put-new now x.0 x.1 (subst (NoField x.0) (sym before) none) ∙ (ap (insert_field x.0 x.1) before ∙ ap (λ (zs : SigPairs). merge (sig_row zs) (sig_row old)) (sym d))),
    )

-- when the place is the first one, the map has both rows, merged
pub put-all : (fields old now : SigPairs) (left : ℕ) → left ≤ 0 → PutFrom fields old now left → AreApart (sig_row fields) (sig_row old) → sig_row now ≡ merge (sig_row fields) (sig_row old)
put-all fields old now left le w a =
    let none : left ≡ 0 = omega arith in
    w.1 a ∙ ap (λ n. merge (sig_row (drop n fields)) (sig_row old)) none

-- the names of a map's entries rise
names-rise : (es : SigPairs) → IsStrictlySortedBy name_cmp (keys_of es) → Rises es
unfolding IsStrictlySortedBy
names-rise [] h = tt
names-rise (x ∷ []) h = tt
names-rise (x ∷ y ∷ es) h = (ap is_lt h.0.0, names-rise (y ∷ es) h.1)

-- the next entry's name may follow those that are done
pub entry-follows : (done all left rest : SigPairs) (x : Name × Sig) (l : Name) → IsStrictlySortedBy name_cmp (keys_of all) → done ++ left ≡ all → left ≡ x ∷ rest → l ≡ x.0 → MayFollow done l
entry-follows done all left rest x l sorted e first is =
    subst (MayFollow done) (sym is) (may-follow done x rest (subst (λ (zs : SigPairs). Rises zs) (sym (sym (ap (λ zs. done ++ zs) first) ∙ e)) (names-rise all sorted)))

-- declarations and those gathered after them

str-row : {fs gs : SigRow} → Sig.Str fs ≡ Sig.Str gs → fs ≡ gs
str-row e = cc

-- a declaration and those gathered after it hide the types of both and have the fields of both, merged
pub gathered-given : (x y z : Abs) (later : List SharedKind) (s raised : Sig) (kinds : List Kind) (old new : SigPairs)
    → map kind_tree later ≡ kinds_of y → s ≡ body_of x → raised ≡ rename_sig (bump (length later) 0) s → y ≡ Abs.Ex (kinds_of y) (Sig.Str (sig_row old))
    → ((fs : SigRow) → raised ≡ Sig.Str fs → AreApart fs (sig_row old) → sig_row new ≡ merge fs (sig_row old))
    → kinds ≡ kinds_of x ++ kinds_of y → z ≡ Abs.Ex kinds (Sig.Str (sig_row new))
    → (ks js : List Kind) (fs gs : SigRow) → x ≡ Abs.Ex ks (Sig.Str fs) → y ≡ Abs.Ex js (Sig.Str gs) → AreApart fs gs → DeclarationsGive x y z
gathered-given x y z later s raised kinds old new el es er ey f ek ez =
    sequence-given x y z later s (body_of y) raised new kinds (Sig.Str (sig_row new)) el es er refl
    (λ fs gs ef eg a.
    let row : sig_row old ≡ gs = str-row (sym (ap body_of ey) ∙ eg) in
    subst (λ hs. sig_row new ≡ merge fs hs) row (f fs ef (subst (AreApart fs) (sym row) a)))
    ek refl ez
