-- The branches of a case one after the other, and in the order of the sum's labels.
-- Main results: branches-next, branches-end, labels-missing, labels-end.
use Rattle.std.proofs.Common.{◌≡◌, ◌≢◌, Bool, true, false, cond, List, [], ◌∷◌, ◌++◌, Option, Some, None, MatchOption, is_some, refl, sym, ap, ◌∙◌, subst, inl, inr, ◌⊎◌}
use Rattle.std.proofs.lemmas.Cmp.{nat_list_cmp_total, tied_itself}
use Rattle.std.specs.BTreeMap.{insert_entry}
use Rattle.std.specs.Ordering.{is_eq}
use Rattle.std.specs.declared.cmp.Ordering.{Ordering}
use Rattle.std.specs.declared.cmp.Ordering.TheVariants.{Less, Equal, Greater}
use Rattle.omega_kinds.specs.declared.label.Label.{Label}
use Rattle.omega_kinds.specs.declared.label.Label.TheVariants.{Val, Typ, Sig, App, Gen}
use Rattle.omega_kinds.specs.Name.{Name}
use Rattle.omega_kinds.specs.LabelOrder.{name_cmp, spelling, LabelBefore}
use Rattle.omega_kinds.proofs.LabelLaws.{irreflexive, transitive}
use Rattle.omega_kinds.proofs.NameLaws.{dec_label}
use Rattle.omega_types.specs.Ty.{Ty, Row}
use Rattle.omega_types.specs.Fields.{Pairs, row, Rises, MayFollow}
use Rattle.omega_terms.specs.Term.{Term, TermRow}
use Rattle.omega_terms.specs.Fields.{TermPairs, term_row}
use Rattle.omega_terms.specs.Typing.{HasPart}
use Rattle.semantic_sigs.specs.declared.made.Typed.{Typed}
use Rattle.core_judgments.specs.CoreWhy.{CoreWhy, NoField, Differ, DuplicateField}
use Rattle.core_judgments.specs.ExpRules.{FieldExp, BranchesGive, BranchesRefuse, HasBranch, HasNoBranch, InOrder, LeastWithout}
use Rattle.core_judgments.specs.ExpRules.FieldExp.{field as field_exp}
use Rattle.core_judgments.proofs.SumVerdicts.{each-has, part-cases}
use Rattle.core_rules.specs.Inner.Records.{exp_fields, at_key, HasBranches}
use Rattle.core_rules.proofs.Entries.{at_name, Seen, none, more, none-new, new-none, not-equal, no-equal, entry-less, entry-equal, entry-greater}
use Rattle.core_rules.proofs.RecordSteps.{none-is, some-is, exps-push, follows-first}

-- what a map has after an entry more

cond-same : {A : Type 0} (b : Bool) (x y : A) → b ≡ true → cond b x y ≡ x
cond-same b x y e = ap (λ c. cond c x y) e

cond-other : {A : Type 0} (b : Bool) (x y : A) → b ≡ false → cond b x y ≡ y
cond-other b x y e = ap (λ c. cond c x y) e

module _ {A : Type 0} where
  its-own : (m : Name) (a : A) (es : List (Name × A)) → at_name m (insert_entry name_cmp es m a) ≡ Some a
  its-own m a [] = cond-same (is_eq (name_cmp m m)) (Some a) None (ap is_eq (tied_itself nat_list_cmp_total m))
  its-own m a (e ∷ es) = go (its-own m a es) (name_cmp m e.0) refl
    where
      go : at_name m (insert_entry name_cmp es m a) ≡ Some a → (o : Ordering) → name_cmp m e.0 ≡ o → at_name m (insert_entry name_cmp (e ∷ es) m a) ≡ Some a
      go ih Less p = ap (at_name m) (entry-less m a e es p) ∙ cond-same (is_eq (name_cmp m m)) (Some a) (at_name m (e ∷ es)) (ap is_eq (tied_itself nat_list_cmp_total m))
      go ih Equal p = ap (at_name m) (entry-equal m a e es p) ∙ cond-same (is_eq (name_cmp m e.0)) (Some a) (at_name m es) (ap is_eq p)
      go ih Greater p = ap (at_name m) (entry-greater m a e es p) ∙ (cond-other (is_eq (name_cmp m e.0)) (Some e.1) (at_name m (insert_entry name_cmp es m a)) (ap is_eq p) ∙ ih)

  the-others : (l m : Name) (a : A) (es : List (Name × A)) → l ≢ m → at_name m es ≡ None → at_name l (insert_entry name_cmp es m a) ≡ at_name l es
  the-others l m a [] n g = cond-other (is_eq (name_cmp l m)) (Some a) None (not-equal l m n)
  the-others l m a (e ∷ es) n g = go (the-others l m a es n) (name_cmp m e.0) refl
    where
      go : (at_name m es ≡ None → at_name l (insert_entry name_cmp es m a) ≡ at_name l es) → (o : Ordering) → name_cmp m e.0 ≡ o → at_name l (insert_entry name_cmp (e ∷ es) m a) ≡ at_name l (e ∷ es)
      go ih Less p = ap (at_name l) (entry-less m a e es p) ∙ cond-other (is_eq (name_cmp l m)) (Some a) (at_name l (e ∷ es)) (not-equal l m n)
      go ih Equal p = absurd (no-equal m e es g p)
      go ih Greater p =
          ap (at_name l) (entry-greater m a e es p) ∙ ap (cond (is_eq (name_cmp l e.0)) (Some e.1)) (ih (cond-none-rest (is_eq (name_cmp m e.0)) e.1 (at_name m es) g))
        where
          cond-none-rest : (b : Bool) (x : A) (o : Option A) → cond b (Some x) o ≡ None → o ≡ None
          cond-none-rest true x o e = absurd (let f : Some x ≡ None → ⊥ = λ p. cc in f e)
          cond-none-rest false x o e = e

-- branches and the last one

named : {bs : List FieldExp} {k : Label} {e : Term} → HasBranch bs k e → (l : Name) × (k ≡ Label.Name l)
named (HasBranch.here {l = l}) = (l, refl)
named (HasBranch.there n h) = named h

last-has : (xs : List (Name × Typed)) (x : Name × Typed) → HasNoBranch (exp_fields xs) (Label.Name x.0) → HasBranch (exp_fields (xs ++ x ∷ [])) (Label.Name x.0) x.1.term
last-has [] x n = HasBranch.here
last-has (y ∷ xs) x n = go (last-has xs x) (dec_label (Label.Name x.0) (Label.Name y.0))
  where
    go : (HasNoBranch (exp_fields xs) (Label.Name x.0) → HasBranch (exp_fields (xs ++ x ∷ [])) (Label.Name x.0) x.1.term) → Dec (Label.Name x.0 ≡ Label.Name y.0) → HasBranch (exp_fields (y ∷ (xs ++ x ∷ []))) (Label.Name x.0) x.1.term
    go ih (yes e) = absurd (n y.1.term (subst (λ k. HasBranch (exp_fields (y ∷ xs)) k y.1.term) (sym e) HasBranch.here))
    go ih (no d) = HasBranch.there d (ih (λ e h. n e (HasBranch.there d h)))

before-has : (xs : List (Name × Typed)) (x : Name × Typed) {k : Label} {e : Term} → HasBranch (exp_fields xs) k e → HasBranch (exp_fields (xs ++ x ∷ [])) k e
before-has [] x h = elim h [ ]
before-has (y ∷ xs) x HasBranch.here = HasBranch.here
before-has (y ∷ xs) x (HasBranch.there n h) = HasBranch.there n (before-has xs x h)

other-has : (xs : List (Name × Typed)) (x : Name × Typed) {k : Label} {e : Term} → k ≢ Label.Name x.0 → HasBranch (exp_fields (xs ++ x ∷ [])) k e → HasBranch (exp_fields xs) k e
other-has [] x d HasBranch.here = absurd (d refl)
other-has [] x d (HasBranch.there n h) = h
other-has (y ∷ xs) x d HasBranch.here = HasBranch.here
other-has (y ∷ xs) x d (HasBranch.there n h) = HasBranch.there n (other-has xs x d h)

-- a branch more and an entry more
abbrev Entry : List FieldExp → Label → Option Typed → Type 0
Entry bs k o = MatchOption o (HasNoBranch bs k) (λ e. HasBranch bs k e.term)

entry-pushed : (xs : List (Name × Typed)) (x : Name × Typed) (k : Label) → k ≢ Label.Name x.0 → (o : Option Typed) → Entry (exp_fields xs) k o → Entry (exp_fields (xs ++ x ∷ [])) k o
entry-pushed xs x k d None h = λ e b. h e (other-has xs x d b)
entry-pushed xs x k d (Some a) h = before-has xs x h

reserved : {bs : List FieldExp} {k : Label} → ((l : Name) → k ≡ Label.Name l → ⊥) → HasNoBranch bs k
reserved n e b = let p = named b in n p.0 p.1

-- the map of the branches seen has each of them
pub seen-has : {xs : List (Name × Typed)} {before : List Name} {es : List (Name × Typed)} → Seen xs before es → HasBranches (exp_fields xs) es
seen-has s Val = reserved (λ l e. cc)
seen-has s Typ = reserved (λ l e. cc)
seen-has s Sig = reserved (λ l e. cc)
seen-has s App = reserved (λ l e. cc)
seen-has s Gen = reserved (λ l e. cc)
seen-has none (Label.Name k) = λ e h. elim h [ ]
seen-has (more xs es l a s n) (Label.Name k) = go (dec_label (Label.Name k) (Label.Name l)) (seen-has s)
  where
    go : Dec (Label.Name k ≡ Label.Name l) → HasBranches (exp_fields xs) es → Entry (exp_fields (xs ++ (l, a) ∷ [])) (Label.Name k) (at_name k (insert_entry name_cmp es l a))
    go (yes e) ih =
        let own = subst (λ o. Entry (exp_fields xs) (Label.Name l) o) (new-none l s n) (ih (Label.Name l)) in
        subst (λ m. Entry (exp_fields (xs ++ (l, a) ∷ [])) (Label.Name m) (at_name m (insert_entry name_cmp es l a))) (sym (ap spelling e))
        (subst (Entry (exp_fields (xs ++ (l, a) ∷ [])) (Label.Name l)) (sym (its-own l a es)) (last-has xs (l, a) own))
    go (no d) ih =
        subst (Entry (exp_fields (xs ++ (l, a) ∷ [])) (Label.Name k)) (sym (the-others k l a es (λ e. d (ap Label.Name e)) (new-none l s n))) (entry-pushed xs (l, a) (Label.Name k) d (at_name k es) (ih (Label.Name k)))

nothing-more : (xs : List FieldExp) → xs ++ [] ≡ xs
nothing-more [] = refl
nothing-more (x ∷ xs) = ap (λ ys. x ∷ ys) (nothing-more xs)

module _ (r : Row) (t : Ty) where
  -- the map has the branches that came before the rest, all of different names, of labels of the sum and of the type
  abbrev pub BranchesLeft : (whole rest : List (Name × Typed)) → List (Name × Typed) → Type 0
  BranchesLeft whole rest es =
      (xs : List (Name × Typed)) × (before : List Name) × Seen xs before es × (exp_fields whole ≡ exp_fields xs ++ exp_fields rest)
      × ((bs : List FieldExp) → BranchesGive r t before bs → BranchesGive r t [] (exp_fields xs ++ bs))
      × ((bs : List FieldExp) (why : CoreWhy) → BranchesRefuse r t before bs why → BranchesRefuse r t [] (exp_fields xs ++ bs) why)

  -- before the first branch, all branches are left
  pub branches-begin : (whole : List (Name × Typed)) → BranchesLeft whole whole []
  branches-begin whole = ([], [], none, refl, λ bs g. g, λ bs why q. q)

  -- one more branch of a new name, of a label of the sum and of the result's type is entered
  pub branches-next : (whole rest : List (Name × Typed)) (x : Name × Typed) (u : Ty) (es : List (Name × Typed)) → is_some (at_name x.0 es) ≡ false → HasPart r (Label.Name x.0) u → x.1.ty ≡ t → BranchesLeft whole (x ∷ rest) es → BranchesLeft whole rest (insert_entry name_cmp es x.0 x.1)
  branches-next whole rest x u es h p q (xs, before, s, e, give, refuse) =
      let n = none-new x.0 s (none-is (at_name x.0 es) h) in (
        xs ++ x ∷ [],
        x.0 ∷ before,
        more xs es x.0 x.1 s n,
        e ∙ sym (exps-push xs x (exp_fields rest)),
        λ bs g. subst (BranchesGive r t []) (sym (exps-push xs x bs)) (give (field_exp x.0 x.1.ty x.1.term ∷ bs) (subst (λ v. BranchesGive r t before (field_exp x.0 v x.1.term ∷ bs)) (sym q) (BranchesGive.next_branch n p g))),
        λ bs why g. subst (λ ys. BranchesRefuse r t [] ys why) (sym (exps-push xs x bs)) (refuse (field_exp x.0 x.1.ty x.1.term ∷ bs) why (subst (λ v. BranchesRefuse r t before (field_exp x.0 v x.1.term ∷ bs) why) (sym q) (BranchesRefuse.later_branch n p g))),
      )

  -- a branch whose name is entered already is refused
  pub branches-again : (whole rest : List (Name × Typed)) (x : Name × Typed) (es : List (Name × Typed)) → is_some (at_name x.0 es) ≡ true → BranchesLeft whole (x ∷ rest) es → BranchesRefuse r t [] (exp_fields whole) (DuplicateField x.0)
  branches-again whole rest x es h (xs, before, s, e, give, refuse) =
      subst (λ ys. BranchesRefuse r t [] ys (DuplicateField x.0)) (sym e) (refuse (exp_fields (x ∷ rest)) (DuplicateField x.0) (BranchesRefuse.name_again (λ n. some-is (at_name x.0 es) h (new-none x.0 s n))))

  -- a branch whose label the sum lacks is refused
  pub branches-label : (whole rest : List (Name × Typed)) (x : Name × Typed) (es : List (Name × Typed)) → is_some (at_name x.0 es) ≡ false → ((u : Ty) → HasPart r (Label.Name x.0) u → ⊥) → BranchesLeft whole (x ∷ rest) es → BranchesRefuse r t [] (exp_fields whole) (NoField x.0)
  branches-label whole rest x es h p (xs, before, s, e, give, refuse) =
      subst (λ ys. BranchesRefuse r t [] ys (NoField x.0)) (sym e) (refuse (exp_fields (x ∷ rest)) (NoField x.0) (BranchesRefuse.no_label (none-new x.0 s (none-is (at_name x.0 es) h)) p))

  -- a branch of another type than the result is refused
  pub branches-type : (whole rest : List (Name × Typed)) (x : Name × Typed) (u : Ty) (es : List (Name × Typed)) → is_some (at_name x.0 es) ≡ false → HasPart r (Label.Name x.0) u → x.1.ty ≢ t → BranchesLeft whole (x ∷ rest) es → BranchesRefuse r t [] (exp_fields whole) (Differ x.1.ty t)
  branches-type whole rest x u es h p d (xs, before, s, e, give, refuse) =
      subst (λ ys. BranchesRefuse r t [] ys (Differ x.1.ty t)) (sym e) (refuse (exp_fields (x ∷ rest)) (Differ x.1.ty t) (BranchesRefuse.branch_type (none-new x.0 s (none-is (at_name x.0 es) h)) p d))

  -- when no branches are left, they pass, and the entries are their terms
  pub branches-end : (whole : List (Name × Typed)) (es : List (Name × Typed)) → BranchesLeft whole [] es → BranchesGive r t [] (exp_fields whole) × HasBranches (exp_fields whole) es
  branches-end whole es (xs, before, s, e, give, refuse) =
      (subst (BranchesGive r t []) (sym e) (give [] BranchesGive.no_branches), subst (λ bs. HasBranches bs es) (sym (e ∙ nothing-more (exp_fields xs))) (seen-has s))

-- labels in rising order

rises-tail : (y : Label × Ty) (done : Pairs) (x : Label × Ty) (rest : Pairs) → Rises (y ∷ (done ++ x ∷ rest)) → Rises (done ++ x ∷ rest)
rises-tail y [] x rest r = r.1
rises-tail y (z ∷ done) x rest r = r.1

after : (x : Label × Ty) (rest : Pairs) {m : Label} {t : Ty} → Rises (x ∷ rest) → HasPart (row rest) m t → LabelBefore x.0 m
after x [] r h = elim h [ ]
after x (y ∷ rest) {m = m} {t = t} r h = go (λ g. after y rest r.1 g) (part-cases h)
  where
    go : (HasPart (row rest) m t → LabelBefore y.0 m) → (m ≡ y.0) ⊎ HasPart (row rest) m t → LabelBefore x.0 m
    go ih (inl e) = subst (LabelBefore x.0) (sym e) r.0
    go ih (inr g) = transitive x.0 y.0 m r.0 (ih g)

last-follows : {T : Type 0} (ys : List (Label × T)) (y : Label × T) (l : Label) → LabelBefore y.0 l → MayFollow (ys ++ y ∷ []) l
last-follows [] y l h = h
last-follows (z ∷ []) y l h = h
last-follows (z ∷ w ∷ ys) y l h = last-follows (w ∷ ys) y l h

last-before : {T : Type 0} (ys : List (Label × T)) (y : Label × T) (l : Label) → MayFollow (ys ++ y ∷ []) l → LabelBefore y.0 l
last-before [] y l h = h
last-before (z ∷ []) y l h = h
last-before (z ∷ w ∷ ys) y l h = last-before (w ∷ ys) y l h

-- the first label without a branch is the least one

module _ {bs : List FieldExp} where
  part-here : (done : Pairs) (x : Label × Ty) (rest : Pairs) {ts : TermRow} → InOrder bs (row done) ts → HasNoBranch bs x.0 → HasPart (row (done ++ x ∷ rest)) x.0 x.1
  part-here [] x rest g n = HasPart.here
  part-here (y ∷ done) x rest (InOrder.next_label {e = e} b g) n = HasPart.there (λ q. n e (subst (λ k. HasBranch bs k e) (sym q) b)) (part-here done x rest g n)

  not-less : (done : Pairs) (x : Label × Ty) (rest : Pairs) {ts : TermRow} (m : Label) (t : Ty) → Rises (done ++ x ∷ rest) → InOrder bs (row done) ts → HasPart (row (done ++ x ∷ rest)) m t → HasNoBranch bs m → LabelBefore m x.0 → ⊥
  not-less [] x rest m t r g h n q = go (part-cases h)
    where
      go : (m ≡ x.0) ⊎ HasPart (row rest) m t → ⊥
      go (inl e) = irreflexive x.0 (subst (λ k. LabelBefore k x.0) e q)
      go (inr h) = irreflexive m (transitive m x.0 m q (after x rest r h))
  not-less (y ∷ done) x rest m t r (InOrder.next_label {e = d} b g) h n q = go (λ p. not-less done x rest m t (rises-tail y done x rest r) g p n q) (part-cases h)
    where
      go : (HasPart (row (done ++ x ∷ rest)) m t → ⊥) → (m ≡ y.0) ⊎ HasPart (row (done ++ x ∷ rest)) m t → ⊥
      go ih (inl e) = n d (subst (λ k. HasBranch bs k d) (sym e) b)
      go ih (inr h) = ih h

  order-push : (done : Pairs) (x : Label × Ty) (ts : TermPairs) (e : Term) → InOrder bs (row done) (term_row ts) → HasBranch bs x.0 e → InOrder bs (row (done ++ x ∷ [])) (term_row (ts ++ (x.0, e) ∷ []))
  order-push [] x [] e g b = InOrder.next_label b InOrder.no_labels
  order-push [] x (y ∷ ts) e g b = elim g [ ]
  order-push (z ∷ done) x [] e g b = elim g [ ]
  order-push (z ∷ done) x (y ∷ ts) e (InOrder.next_label h g) b = InOrder.next_label h (order-push done x ts e g b)

module _ (es : List (Name × Typed)) where
  -- the terms of the branches for the labels that came before the rest
  abbrev pub LabelsLeft : (whole rest : Pairs) → TermPairs → Type 0
  LabelsLeft whole rest ts =
      (done : Pairs) × (whole ≡ done ++ rest) × ((bs : List FieldExp) → HasBranches bs es → InOrder bs (row done) (term_row ts)) × ((l : Label) → MayFollow done l → MayFollow ts l)

  -- before the first label, all labels of the sum are left
  pub labels-begin : (whole : Pairs) → LabelsLeft whole whole []
  labels-begin whole = ([], refl, λ bs h. InOrder.no_labels, λ l h. h)

  -- the next label may follow those of the branches that are in order
  pub labels-follow : (whole rest : Pairs) (x : Label × Ty) (ts : TermPairs) → Rises whole → LabelsLeft whole (x ∷ rest) ts → MayFollow ts x.0
  labels-follow whole rest x ts r (done, e, ordered, follow) = follow x.0 (follows-first done x rest (subst Rises e r))

  push-done : (done : Pairs) (x : Label × Ty) (rest : Pairs) → done ++ x ∷ rest ≡ (done ++ x ∷ []) ++ rest
  push-done [] x rest = refl
  push-done (y ∷ done) x rest = ap (λ ys. y ∷ ys) (push-done done x rest)

  -- the branch of the next label is put behind those that are in order
  pub labels-next : (whole rest : Pairs) (x : Label × Ty) (a : Typed) (ts : TermPairs) → at_key x.0 es ≡ Some a → LabelsLeft whole (x ∷ rest) ts → LabelsLeft whole rest (ts ++ (x.0, a.term) ∷ [])
  labels-next whole rest x a ts h (done, e, ordered, follow) = (
    done ++ x ∷ [],
    e ∙ push-done done x rest,
    λ bs has. order-push done x ts a.term (ordered bs has) (subst (λ o. MatchOption o (HasNoBranch bs x.0) (λ b. HasBranch bs x.0 b.term)) h (has x.0)),
    λ l m. last-follows ts (x.0, a.term) l (last-before done x l m),
  )

  -- a label without an entry is the least label without a branch
  pub labels-missing : (whole rest : Pairs) (x : Label × Ty) (ts : TermPairs) → Rises whole → at_key x.0 es ≡ None → LabelsLeft whole (x ∷ rest) ts → (bs : List FieldExp) → HasBranches bs es → LeastWithout bs (row whole) x.0
  labels-missing whole rest x ts r h (done, e, ordered, follow) bs has =
      let n : HasNoBranch bs x.0 = subst (λ o. MatchOption o (HasNoBranch bs x.0) (λ b. HasBranch bs x.0 b.term)) h (has x.0) in
      let g = ordered bs has in
      subst (λ ls. LeastWithout bs (row ls) x.0) (sym e) (record { of_sum = (x.1, part-here done x rest g n); without = n; least = λ m t p b q. not-less done x rest m t (subst Rises e r) g p b q })

  nothing-left : (xs : Pairs) → xs ++ [] ≡ xs
  nothing-left [] = refl
  nothing-left (x ∷ xs) = ap (λ ys. x ∷ ys) (nothing-left xs)

  -- when no labels are left, the branches are in the order of the sum's labels
  pub labels-end : (whole : Pairs) (ts : TermPairs) → LabelsLeft whole [] ts → (bs : List FieldExp) → HasBranches bs es → InOrder bs (row whole) (term_row ts)
  labels-end whole ts (done, e, ordered, follow) bs has = subst (λ ls. InOrder bs (row ls) (term_row ts)) (sym (e ∙ nothing-left done)) (ordered bs has)
