-- Two rows of fields in rising order, merged by walking them side by side.
-- Main results: left-done, right-done, sequence-given.
use Rattle.std.proofs.Common.{◌≡◌, ℕ, ◌+◌, ◌<◌, ◌≤◌, List, [], ◌∷◌, ◌++◌, length, get_or, drop, take, map, Bool, true, false, cond, IsTrue, refl, sym, ap, ap₂, ◌∙◌, subst, subst₂, arith, append_assoc, append-nil, drop_of_length-le, take-append-drop}
use Rattle.omega_kinds.specs.Name.{Name}
use Rattle.omega_kinds.specs.LabelOrder.{name_before, name_cmp}
use Rattle.std.proofs.lemmas.Cmp.{nat_list_cmp_total}
use Rattle.std.proofs.lemmas.Map.Lookups.{exact_bytes}
use Rattle.std.specs.Ordering.{is_lt, ordering_reverse}
use Rattle.std.specs.declared.cmp.Ordering.TheVariants.{Less, Equal, Greater}
use Rattle.omega_kinds.proofs.NameLaws.{name-irreflexive, name-transitive}
use Rattle.omega_kinds.specs.Kind.{Kind}
use Rattle.omega_kinds.specs.View.{kind_tree}
use Rattle.omega_kinds.specs.declared.kind.Kind.{Kind as SharedKind}
use Rattle.omega_types.specs.Binders.{past}
use Rattle.omega_types.specs.Index.{bump}
use Rattle.sig_definitions.specs.Signatures.Sig.{Abs, Sig, SigRow}
use Rattle.sig_definitions.specs.Signatures.SigSubst.{raise_sig_row, rename_sig, rename_sig_row}
use Rattle.sig_definitions.specs.Signatures.FieldOrder.{insert_field, merge}
use Rattle.sig_definitions.specs.Explicit.WellFormed.{BeforeAll}
use Rattle.semantic_sigs.specs.Inner.Fields.{MayFollow, Rises, SigPairs, sig_row}
use Rattle.semantic_sigs.specs.Inner.View.{body_of, kinds_of}
use Rattle.semantic_sigs.proofs.PartSteps.{left-more}
use Rattle.sig_judgments.specs.SigRules.{DeclarationsGive}
use Rattle.sig_explicit_laws.proofs.Fields.{before_all-before}
use Rattle.sig_rules.specs.Inner.Plain.{AreApart}
use Rattle.sig_rules.proofs.Putting.{past-bump}
use Rattle.semantic_sigs.proofs.MentionSteps.{length-trees}

-- fields before a row

abbrev pub before_row : SigPairs → SigRow → SigRow
before_row [] row = row
before_row (x ∷ xs) row = SigRow.More x.0 x.1 (before_row xs row)

pub before_row-one : (xs : SigPairs) (x : Name × Sig) (row : SigRow) → before_row (xs ++ x ∷ []) row ≡ before_row xs (SigRow.More x.0 x.1 row)
before_row-one [] x row = refl
before_row-one (y ∷ ys) x row = ap (SigRow.More y.0 y.1) (before_row-one ys x row)

pub before_row-all : (xs ys : SigPairs) → before_row xs (sig_row ys) ≡ sig_row (xs ++ ys)
before_row-all [] ys = refl
before_row-all (x ∷ xs) ys = ap (SigRow.More x.0 x.1) (before_row-all xs ys)

-- rising lists

-- in a rising list the name of a field may follow the fields before it
pub may-follow : (done : SigPairs) (x : Name × Sig) (xs : SigPairs) → Rises (done ++ x ∷ xs) → MayFollow done x.0
may-follow [] x xs r = tt
may-follow (y ∷ []) x xs r = r.0
may-follow (y ∷ z ∷ zs) x xs r = may-follow (z ∷ zs) x xs r.1

pub rises-between : (done : SigPairs) (x y : Name × Sig) (xs ys : SigPairs) → Rises (done ++ x ∷ xs) → Rises (done ++ y ∷ ys) → IsTrue (name_before x.0 y.0) → Rises (done ++ x ∷ y ∷ ys)
rises-between [] x y xs ys r q h = (h, q)
rises-between (z ∷ []) x y xs ys r q h = (r.0, (h, q.1))
rises-between (z ∷ w ∷ ws) x y xs ys r q h = (r.0, rises-between (w ∷ ws) x y xs ys r.1 q.1 h)

pub rises-without : (done : SigPairs) (x : Name × Sig) (xs : SigPairs) → Rises (done ++ x ∷ xs) → Rises (done ++ xs)
rises-without [] x [] r = tt
rises-without [] x (y ∷ ys) r = r.1
rises-without (z ∷ []) x [] r = tt
rises-without (z ∷ []) x (y ∷ ys) r = (name-transitive z.0 x.0 y.0 r.0 r.1.0, r.1.1)
rises-without (z ∷ w ∷ ws) x xs r = (r.0, rises-without (w ∷ ws) x xs r.1)

-- in a rising list the name of the first field comes before all names after it
pub before-all : (x : Name × Sig) (xs : SigPairs) → Rises (x ∷ xs) → BeforeAll x.0 (sig_row xs)
before-all x [] r = tt
before-all x (y ∷ ys) r = (r.0, before_all-before x.0 y.0 (sig_row ys) r.0 (before-all y ys r.1))

-- the end of a rising list rises
pub rises-end : (done : SigPairs) (xs : SigPairs) → Rises (done ++ xs) → Rises xs
rises-end [] xs r = r
rises-end (x ∷ []) [] r = tt
rises-end (x ∷ []) (y ∷ ys) r = r.1
rises-end (x ∷ y ∷ ys) xs r = rises-end (y ∷ ys) xs r.1

-- one field more

insert-first : (l : Name) (s : Sig) (row : SigRow) → BeforeAll l row → insert_field l s row ≡ SigRow.More l s row
insert-first l s SigRow.End b = refl
insert-first l s (SigRow.More m t rest) b = ap (λ c. cond c (SigRow.More l s (SigRow.More m t rest)) (SigRow.More m t (insert_field l s rest))) b.0

insert-after : (l m : Name) (s t : Sig) (rest : SigRow) → IsTrue (name_before m l) → insert_field l s (SigRow.More m t rest) ≡ SigRow.More m t (insert_field l s rest)
insert-after l m s t rest h = go (name_before l m) (λ e. name-irreflexive l (name-transitive l m l e h))
  where
    go : (b : Bool) → (b ≡ true → ⊥) → cond b (SigRow.More l s (SigRow.More m t rest)) (SigRow.More m t (insert_field l s rest)) ≡ SigRow.More m t (insert_field l s rest)
    go true n = absurd (n refl)
    go false n = refl

before_all-insert : (n l : Name) (s : Sig) (row : SigRow) → IsTrue (name_before n l) → BeforeAll n row → BeforeAll n (insert_field l s row)
before_all-insert n l s SigRow.End h b = (h, tt)
before_all-insert n l s (SigRow.More m t rest) h b = go (name_before l m) (before_all-insert n l s rest h b.1)
  where
    go : (c : Bool) → BeforeAll n (insert_field l s rest) → BeforeAll n (cond c (SigRow.More l s (SigRow.More m t rest)) (SigRow.More m t (insert_field l s rest)))
    go true r = (h, b)
    go false r = (b.0, r)

before_all-merge : (n : Name) (fs gs : SigRow) → BeforeAll n fs → BeforeAll n gs → BeforeAll n (merge fs gs)
before_all-merge n SigRow.End gs b c = c
before_all-merge n (SigRow.More l s fs) gs b c = before_all-insert n l s (merge fs gs) b.0 (before_all-merge n fs gs b.1 c)

-- the lesser of two first fields comes first

merge-left : (l : Name) (s : Sig) (fs gs : SigRow) → BeforeAll l fs → BeforeAll l gs → merge (SigRow.More l s fs) gs ≡ SigRow.More l s (merge fs gs)
merge-left l s fs gs b c = insert-first l s (merge fs gs) (before_all-merge l fs gs b c)

merge-right : (m : Name) (t : Sig) (fs gs : SigRow) → BeforeAll m fs → merge fs (SigRow.More m t gs) ≡ SigRow.More m t (merge fs gs)
merge-right m t SigRow.End gs b = refl
merge-right m t (SigRow.More l s fs) gs b = ap (insert_field l s) (merge-right m t fs gs b.1) ∙ insert-after l m s t (merge fs gs) b.0

pub merge-none : (xs : SigPairs) → Rises xs → merge (sig_row xs) SigRow.End ≡ sig_row xs
merge-none [] r = refl
merge-none (x ∷ []) r = refl
merge-none (x ∷ y ∷ ys) r = ap (insert_field x.0 x.1) (merge-none (y ∷ ys) r.1) ∙ insert-first x.0 x.1 (sig_row (y ∷ ys)) (before-all x (y ∷ ys) r)

-- names that are apart

apart-rest : (fs : SigRow) (m : Name) (t : Sig) (gs : SigRow) → AreApart fs (SigRow.More m t gs) → AreApart fs gs
apart-rest SigRow.End m t gs a = tt
apart-rest (SigRow.More l s fs) m t gs a = (a.0.1, apart-rest fs m t gs a.1)

-- the state of the walk: the fields that are done stand before what is left of both, and what is left, merged, is to come
abbrev pub Walked : (left right done xs ys : SigPairs) → Type 0
Walked left right done xs ys =
    Rises (done ++ xs) × Rises (done ++ ys)
    × (AreApart (sig_row left) (sig_row right) → AreApart (sig_row xs) (sig_row ys) × (before_row done (merge (sig_row xs) (sig_row ys)) ≡ merge (sig_row left) (sig_row right)))

one-more : (done : SigPairs) (x : Name × Sig) (xs : SigPairs) → Rises (done ++ x ∷ xs) → Rises ((done ++ x ∷ []) ++ xs)
one-more done x xs r = subst (λ (zs : SigPairs). Rises zs) (sym (append_assoc done (x ∷ []) xs)) r

pub walk-left : (left right done : SigPairs) (x y : Name × Sig) (xs ys : SigPairs) → IsTrue (name_before x.0 y.0) → Walked left right done (x ∷ xs) (y ∷ ys) → Walked left right (done ++ x ∷ []) xs (y ∷ ys)
walk-left left right done x y xs ys h w = (
  one-more done x xs w.0,
  one-more done x (y ∷ ys) (rises-between done x y xs ys w.0 w.1 h),
  λ a. let v = w.2 a in
      let b = before-all x xs (rises-end done (x ∷ xs) w.0) in
      let c = before-all y ys (rises-end done (y ∷ ys) w.1) in
      (v.0.1, before_row-one done x (merge (sig_row xs) (sig_row (y ∷ ys))) ∙ (ap (before_row done) (sym (merge-left x.0 x.1 (sig_row xs) (sig_row (y ∷ ys)) b (h, before_all-before x.0 y.0 (sig_row ys) h c))) ∙ v.1)),
)

pub walk-right : (left right done : SigPairs) (x y : Name × Sig) (xs ys : SigPairs) → IsTrue (name_before y.0 x.0) → Walked left right done (x ∷ xs) (y ∷ ys) → Walked left right (done ++ y ∷ []) (x ∷ xs) ys
walk-right left right done x y xs ys h w = (
  one-more done y (x ∷ xs) (rises-between done y x ys xs w.1 w.0 h),
  one-more done y ys w.1,
  λ a. let v = w.2 a in
      let b = before-all x xs (rises-end done (x ∷ xs) w.0) in (
        apart-rest (sig_row (x ∷ xs)) y.0 y.1 (sig_row ys) v.0,
        before_row-one done y (merge (sig_row (x ∷ xs)) (sig_row ys)) ∙ (ap (before_row done) (sym (merge-right y.0 y.1 (sig_row (x ∷ xs)) (sig_row ys) (h, before_all-before y.0 x.0 (sig_row xs) h b))) ∙ v.1),
      ),
)

pub walk-same : (left right done : SigPairs) (x y : Name × Sig) (xs ys : SigPairs) → x.0 ≡ y.0 → Walked left right done (x ∷ xs) (y ∷ ys) → Walked left right done xs (y ∷ ys)
walk-same left right done x y xs ys e w = (rises-without done x xs w.0, w.1, λ a. absurd ((w.2 a).0.0.0 e))

-- where one of both is done, the other is what is left
pub walk-ends : (left right done xs ys : SigPairs) → ys ≡ [] → Walked left right done xs ys → AreApart (sig_row left) (sig_row right) → sig_row ((done ++ xs) ++ ys) ≡ merge (sig_row left) (sig_row right)
walk-ends left right done xs ys e w a =
    let f : (done ++ xs) ++ ys ≡ done ++ xs = ap (λ zs. (done ++ xs) ++ zs) e ∙ append-nil (done ++ xs) in
    ap sig_row f ∙ (sym (before_row-all done xs) ∙ (ap (before_row done) (sym (merge-none xs (rises-end done xs w.0)) ∙ ap (λ zs. merge (sig_row xs) (sig_row zs)) (sym e)) ∙ (w.2 a).1))

pub walk-ends_left : (left right done xs ys : SigPairs) → xs ≡ [] → Walked left right done xs ys → AreApart (sig_row left) (sig_row right) → sig_row ((done ++ xs) ++ ys) ≡ merge (sig_row left) (sig_row right)
walk-ends_left left right done xs ys e w a =
    let f : (done ++ xs) ++ ys ≡ done ++ ys = ap (λ zs. zs ++ ys) (ap (λ zs. done ++ zs) e ∙ append-nil done) in
    ap sig_row f ∙ (sym (before_row-all done ys) ∙ (ap (before_row done) (ap (λ zs. merge (sig_row zs) (sig_row ys)) (sym e)) ∙ (w.2 a).1))

-- the same, by what the code knows

pub less-before : (l m : Name) → Less ≡ name_cmp l m → IsTrue (name_before l m)
less-before l m e = ap is_lt (sym e)

pub greater-after : (l m : Name) → Greater ≡ name_cmp l m → IsTrue (name_before m l)
greater-after l m e = ap is_lt (nat_list_cmp_total.antisymm m l ∙ ap ordering_reverse (sym e))

pub equal-same : (l m : Name) → Equal ≡ name_cmp l m → l ≡ m
equal-same l m e = exact_bytes l m (sym e)

abbrev pub Walking : (left right done : SigPairs) (i j : ℕ) → Type 0
Walking left right done i j = (i ≤ length left) × (j ≤ length right) × Walked left right done (drop i left) (drop j right)

opened : (left right done : SigPairs) (i j : ℕ) (x y : Name × Sig) → i < length left → j < length right → x ≡ get_or left i x → y ≡ get_or right j y → Walking left right done i j → Walked left right done (x ∷ drop (i + 1) left) (y ∷ drop (j + 1) right)
opened left right done i j x y li lj ex ey w = subst₂ (λ (xs ys : SigPairs). Walked left right done xs ys) (left-more left i x li ex) (left-more right j y lj ey) w.2

-- the left field at hand may follow those that are done
pub left-follows : (left right done : SigPairs) (i j : ℕ) (x y : Name × Sig) → i < length left → j < length right → x ≡ get_or left i x → y ≡ get_or right j y → Walking left right done i j → MayFollow done x.0
left-follows left right done i j x y li lj ex ey w = may-follow done x (drop (i + 1) left) (opened left right done i j x y li lj ex ey w).0

-- the right field at hand may follow those that are done
pub right-follows : (left right done : SigPairs) (i j : ℕ) (x y : Name × Sig) → i < length left → j < length right → x ≡ get_or left i x → y ≡ get_or right j y → Walking left right done i j → MayFollow done y.0
right-follows left right done i j x y li lj ex ey w = may-follow done y (drop (j + 1) right) (opened left right done i j x y li lj ex ey w).1

-- the left field is taken if its name comes first
pub left-taken : (left right done now : SigPairs) (i j : ℕ) (x y : Name × Sig) → i < length left → j < length right → x ≡ get_or left i x → y ≡ get_or right j y → Less ≡ name_cmp x.0 y.0 → now ≡ done ++ x ∷ [] → Walking left right done i j → Walking left right now (i + 1) j
left-taken left right done now i j x y li lj ex ey h e w =
    let v = walk-left left right done x y (drop (i + 1) left) (drop (j + 1) right) (less-before x.0 y.0 h) (opened left right done i j x y li lj ex ey w) in
    (omega (arith, li), w.1, subst₂ (λ (ds ys : SigPairs). Walked left right ds (drop (i + 1) left) ys) (sym e) (sym (left-more right j y lj ey)) v)

-- the right field is taken if its name comes first
pub right-taken : (left right done now : SigPairs) (i j : ℕ) (x y : Name × Sig) → i < length left → j < length right → x ≡ get_or left i x → y ≡ get_or right j y → Greater ≡ name_cmp x.0 y.0 → now ≡ done ++ y ∷ [] → Walking left right done i j → Walking left right now i (j + 1)
right-taken left right done now i j x y li lj ex ey h e w =
    let v = walk-right left right done x y (drop (i + 1) left) (drop (j + 1) right) (greater-after x.0 y.0 h) (opened left right done i j x y li lj ex ey w) in
    (w.0, omega (arith, lj), subst₂ (λ (ds xs : SigPairs). Walked left right ds xs (drop (j + 1) right)) (sym e) (sym (left-more left i x li ex)) v)

-- the left field is left out if both have one name
pub left-skipped : (left right done : SigPairs) (i j : ℕ) (x y : Name × Sig) → i < length left → j < length right → x ≡ get_or left i x → y ≡ get_or right j y → Equal ≡ name_cmp x.0 y.0 → Walking left right done i j → Walking left right done (i + 1) j
left-skipped left right done i j x y li lj ex ey h w =
    let v = walk-same left right done x y (drop (i + 1) left) (drop (j + 1) right) (equal-same x.0 y.0 h) (opened left right done i j x y li lj ex ey w) in
    (omega (arith, li), w.1, subst (λ (ys : SigPairs). Walked left right done (drop (i + 1) left) ys) (sym (left-more right j y lj ey)) v)

-- when the left fields are used up, the rest of the right ones completes the merged fields
pub left-done : (left right done some all : SigPairs) (i j : ℕ) → length left ≤ i → Walking left right done i j → some ≡ done ++ drop i left → all ≡ some ++ drop j right → AreApart (sig_row left) (sig_row right) → sig_row all ≡ merge (sig_row left) (sig_row right)
left-done left right done some all i j le w es ea a = ap sig_row (ea ∙ ap (λ zs. zs ++ drop j right) es) ∙ walk-ends_left left right done (drop i left) (drop j right) (drop_of_length-le left le) w.2 a

-- when the right fields are used up, the rest of the left ones completes the merged fields
pub right-done : (left right done some all : SigPairs) (i j : ℕ) → length right ≤ j → Walking left right done i j → some ≡ done ++ drop i left → all ≡ some ++ drop j right → AreApart (sig_row left) (sig_row right) → sig_row all ≡ merge (sig_row left) (sig_row right)
right-done left right done some all i j le w es ea a = ap sig_row (ea ∙ ap (λ zs. zs ++ drop j right) es) ∙ walk-ends left right done (drop i left) (drop j right) (drop_of_length-le right le) w.2 a

-- fields that are added one after the other
pub more-follow : (done more now : SigPairs) (i : ℕ) (x : Name × Sig) → i < length more → x ≡ get_or more i x → Rises (done ++ more) → now ≡ done ++ take i more → MayFollow now x.0
more-follow done more now i x lt ex r e =
    let d : drop i more ≡ x ∷ drop (i + 1) more = left-more more i x lt ex in
    let q : done ++ more ≡ (done ++ take i more) ++ (x ∷ drop (i + 1) more) = ap (λ zs. done ++ zs) (sym (take-append-drop i more)) ∙ (sym (append_assoc done (take i more) (drop i more)) ∙ ap (λ zs. (done ++ take i more) ++ zs) d) in
    subst (λ (zs : SigPairs). MayFollow zs x.0) (sym e) (may-follow (done ++ take i more) x (drop (i + 1) more) (subst (λ (zs : SigPairs). Rises zs) q r))

-- declarations and those after them

apart-renamed : (r : ℕ → ℕ) (fs gs : SigRow) → AreApart fs gs → AreApart (rename_sig_row r fs) gs
apart-renamed r SigRow.End gs a = tt
apart-renamed r (SigRow.More l s fs) gs a = (a.0, apart-renamed r fs gs a.1)

-- declarations one after the other hide the types of both and have the merged fields
pub sequence-given : (x y z : Abs) (later : List SharedKind) (s t raised : Sig) (fields : SigPairs) (kinds : List Kind) (body : Sig)
    → map kind_tree later ≡ kinds_of y → s ≡ body_of x → raised ≡ rename_sig (bump (length later) 0) s → t ≡ body_of y
    → ((fs gs : SigRow) → raised ≡ Sig.Str fs → t ≡ Sig.Str gs → AreApart fs gs → sig_row fields ≡ merge fs gs)
    → kinds ≡ kinds_of x ++ kinds_of y → body ≡ Sig.Str (sig_row fields) → z ≡ Abs.Ex kinds body
    → (ks js : List Kind) (fs gs : SigRow) → x ≡ Abs.Ex ks (Sig.Str fs) → y ≡ Abs.Ex js (Sig.Str gs) → AreApart fs gs → DeclarationsGive x y z
sequence-given x y z later s t raised fields kinds body el es er et f ek eb ez ks js fs gs ex ey a =
    let n : length later ≡ length js = sym (length-trees later) ∙ ap length (el ∙ ap kinds_of ey) in
    let up : raised ≡ Sig.Str (raise_sig_row js fs) = er ∙ (ap₂ (λ m u. rename_sig (bump m 0) u) n (es ∙ ap body_of ex) ∙ ap (λ r. rename_sig r (Sig.Str fs)) (sym (past-bump js))) in
    let m : sig_row fields ≡ merge (raise_sig_row js fs) gs = f (raise_sig_row js fs) gs up (et ∙ ap body_of ey) (apart-renamed (past js) fs gs a) in
    let k : kinds ≡ ks ++ js = ek ∙ ap₂ ◌++◌ (ap kinds_of ex) (ap kinds_of ey) in
    let w : z ≡ Abs.Ex (ks ++ js) (Sig.Str (merge (raise_sig_row js fs) gs)) = ez ∙ (λ i. Abs.Ex (k i) ((eb ∙ ap Sig.Str m) i)) in
    subst (λ v. DeclarationsGive x y v) (sym w) (subst₂ (λ c d. DeclarationsGive c d (Abs.Ex (ks ++ js) (Sig.Str (merge (raise_sig_row js fs) gs)))) (sym ex) (sym ey) DeclarationsGive.declarations)
