-- Parts by their names in an ordered map: which names it has, and the rows that its entries make.
-- Main results: not-equal.
use Rattle.std.proofs.Common.{◌≡◌, ◌≢◌, Bool, true, false, cond, List, [], ◌∷◌, ◌++◌, Option, Some, None, refl, sym, ap, ◌∙◌, subst}
use Rattle.std.proofs.lemmas.Bool.{false≢true}
use Rattle.std.proofs.lemmas.Cmp.{nat_list_cmp_total, tied_itself}
use Rattle.std.proofs.lemmas.Map.Lookups.{exact_bytes}
use Rattle.std.specs.BTreeMap.{insert_entry, is_at}
use Rattle.std.specs.Map.{lookup}
use Rattle.std.specs.Ordering.{is_eq, is_lt, match_ordering}
use Rattle.std.specs.declared.cmp.Ordering.{Ordering}
use Rattle.std.specs.declared.cmp.Ordering.TheVariants.{Less, Equal, Greater}
use Rattle.omega_kinds.specs.declared.label.Label.{Label}
use Rattle.omega_kinds.specs.Name.{Name}
use Rattle.omega_kinds.specs.LabelOrder.{name_cmp, spelling}
use Rattle.omega_types.specs.Ty.{Ty, Row}
use Rattle.omega_terms.specs.Term.{Term, TermRow}
use Rattle.sig_definitions.specs.Signatures.RecordOrder.{insert_part, insert_term, IsNew}
use Rattle.core_rules.proofs.Inserting.{swap-part, swap-term}

-- what an ordered map has for a name
abbrev pub at_name : {A : Type 0} → Name → List (Name × A) → Option A
at_name l es = lookup (is_at (name_cmp l)) es

cond-none : {A : Type 0} (b : Bool) (x : A) (o : Option A) → cond b (Some x) o ≡ None → (b ≡ false) × (o ≡ None)
cond-none true x o e = absurd (let f : Some x ≡ None → ⊥ = λ p. cc in f e)
cond-none false x o e = (refl, e)

none-cond : {A : Type 0} (b : Bool) (x : A) (o : Option A) → b ≡ false → o ≡ None → cond b (Some x) o ≡ None
none-cond b x o e f = ap (λ c. cond c (Some x) o) e ∙ f

-- different names do not compare as equal
pub not-equal : (l m : Name) → l ≢ m → is_eq (name_cmp l m) ≡ false
not-equal l m n = go (name_cmp l m) refl
  where
    go : (o : Ordering) → name_cmp l m ≡ o → is_eq (name_cmp l m) ≡ false
    go Less e = ap is_eq e
    go Equal e = absurd (n (exact_bytes l m e))
    go Greater e = ap is_eq e

itself : (l : Name) → is_eq (name_cmp l l) ≡ false → ⊥
itself l h = false≢true (sym h ∙ ap is_eq (tied_itself nat_list_cmp_total l))

named : (l m : Name) → l ≢ m → Label.Name l ≢ Label.Name m
named l m n e = n (ap spelling e)

module _ {A : Type 0} where
  -- an entry of a name before the first one is put in front
  pub entry-less : (l : Name) (a : A) (e : Name × A) (es : List (Name × A)) → name_cmp l e.0 ≡ Less → insert_entry name_cmp (e ∷ es) l a ≡ (l, a) ∷ e ∷ es
  entry-less l a e es p = ap (λ o. match_ordering o ((l, a) ∷ e ∷ es) ((e.0, a) ∷ es) (e ∷ insert_entry name_cmp es l a)) p

  -- an entry of the first one's name takes its place
  pub entry-equal : (l : Name) (a : A) (e : Name × A) (es : List (Name × A)) → name_cmp l e.0 ≡ Equal → insert_entry name_cmp (e ∷ es) l a ≡ (e.0, a) ∷ es
  entry-equal l a e es p = ap (λ o. match_ordering o ((l, a) ∷ e ∷ es) ((e.0, a) ∷ es) (e ∷ insert_entry name_cmp es l a)) p

  -- an entry of a name after the first one is put among the others
  pub entry-greater : (l : Name) (a : A) (e : Name × A) (es : List (Name × A)) → name_cmp l e.0 ≡ Greater → insert_entry name_cmp (e ∷ es) l a ≡ e ∷ insert_entry name_cmp es l a
  entry-greater l a e es p = ap (λ o. match_ordering o ((l, a) ∷ e ∷ es) ((e.0, a) ∷ es) (e ∷ insert_entry name_cmp es l a)) p

  -- an entry of this name would be found
  pub no-equal : (l : Name) (e : Name × A) (es : List (Name × A)) → at_name l (e ∷ es) ≡ None → name_cmp l e.0 ≡ Equal → ⊥
  no-equal l e es h p = false≢true (sym (cond-none (is_eq (name_cmp l e.0)) e.1 (at_name l es) h).0 ∙ ap is_eq p)

  none-other : (l m : Name) (a : A) (es : List (Name × A)) → l ≢ m → at_name m es ≡ None → at_name l es ≡ None → at_name l (insert_entry name_cmp es m a) ≡ None
  none-other l m a [] n g h = none-cond (is_eq (name_cmp l m)) a None (not-equal l m n) refl
  none-other l m a (e ∷ es) n g h = go (λ q r. none-other l m a es n q r) (name_cmp m e.0) refl
    where
      go : (at_name m es ≡ None → at_name l es ≡ None → at_name l (insert_entry name_cmp es m a) ≡ None) → (o : Ordering) → name_cmp m e.0 ≡ o → at_name l (insert_entry name_cmp (e ∷ es) m a) ≡ None
      go ih Less p = ap (at_name l) (entry-less m a e es p) ∙ none-cond (is_eq (name_cmp l m)) a (at_name l (e ∷ es)) (not-equal l m n) h
      go ih Equal p = absurd (no-equal m e es g p)
      go ih Greater p =
          let r = cond-none (is_eq (name_cmp l e.0)) e.1 (at_name l es) h in
          ap (at_name l) (entry-greater m a e es p) ∙ none-cond (is_eq (name_cmp l e.0)) e.1 (at_name l (insert_entry name_cmp es m a)) r.0 (ih (cond-none (is_eq (name_cmp m e.0)) e.1 (at_name m es) g).1 r.1)

  none-own : (m : Name) (a : A) (es : List (Name × A)) → at_name m (insert_entry name_cmp es m a) ≡ None → ⊥
  none-own m a [] h = itself m (cond-none (is_eq (name_cmp m m)) a None h).0
  none-own m a (e ∷ es) h = go (none-own m a es) (name_cmp m e.0) refl
    where
      go : (at_name m (insert_entry name_cmp es m a) ≡ None → ⊥) → (o : Ordering) → name_cmp m e.0 ≡ o → ⊥
      go ih Less p = itself m (cond-none (is_eq (name_cmp m m)) a (at_name m (e ∷ es)) (sym (ap (at_name m) (entry-less m a e es p)) ∙ h)).0
      go ih Equal p = false≢true (sym (cond-none (is_eq (name_cmp m e.0)) a (at_name m es) (sym (ap (at_name m) (entry-equal m a e es p)) ∙ h)).0 ∙ ap is_eq p)
      go ih Greater p = ih (cond-none (is_eq (name_cmp m e.0)) e.1 (at_name m (insert_entry name_cmp es m a)) (sym (ap (at_name m) (entry-greater m a e es p)) ∙ h)).1

  none-back : (l m : Name) (a : A) (es : List (Name × A)) → at_name m es ≡ None → at_name l (insert_entry name_cmp es m a) ≡ None → at_name l es ≡ None
  none-back l m a [] g h = refl
  none-back l m a (e ∷ es) g h = go (none-back l m a es) (name_cmp m e.0) refl
    where
      go : (at_name m es ≡ None → at_name l (insert_entry name_cmp es m a) ≡ None → at_name l es ≡ None) → (o : Ordering) → name_cmp m e.0 ≡ o → at_name l (e ∷ es) ≡ None
      go ih Less p = (cond-none (is_eq (name_cmp l m)) a (at_name l (e ∷ es)) (sym (ap (at_name l) (entry-less m a e es p)) ∙ h)).1
      go ih Equal p = absurd (no-equal m e es g p)
      go ih Greater p =
          let r = cond-none (is_eq (name_cmp l e.0)) e.1 (at_name l (insert_entry name_cmp es m a)) (sym (ap (at_name l) (entry-greater m a e es p)) ∙ h) in
          none-cond (is_eq (name_cmp l e.0)) e.1 (at_name l es) r.0 (ih (cond-none (is_eq (name_cmp m e.0)) e.1 (at_name m es) g).1 r.1)

  -- the rows of the entries

  -- the row of types that entries make
  abbrev pub type_rows : (A → Ty) → List (Name × A) → Row
  type_rows f [] = Row.End
  type_rows f (x ∷ xs) = Row.More (Label.Name x.0) (f x.1) (type_rows f xs)

  -- the row of terms that entries make
  abbrev pub term_rows : (A → Term) → List (Name × A) → TermRow
  term_rows g [] = TermRow.End
  term_rows g (x ∷ xs) = TermRow.More (Label.Name x.0) (g x.1) (term_rows g xs)

  type-insert : (f : A → Ty) (l : Name) (a : A) (es : List (Name × A)) → at_name l es ≡ None → type_rows f (insert_entry name_cmp es l a) ≡ insert_part (Label.Name l) (f a) (type_rows f es)
  type-insert f l a [] h = refl
  type-insert f l a (e ∷ es) h = go (type-insert f l a es) (name_cmp l e.0) refl
    where
      front : Row
      front = Row.More (Label.Name l) (f a) (type_rows f (e ∷ es))

      back : Row
      back = Row.More (Label.Name e.0) (f e.1) (insert_part (Label.Name l) (f a) (type_rows f es))

      go : (at_name l es ≡ None → type_rows f (insert_entry name_cmp es l a) ≡ insert_part (Label.Name l) (f a) (type_rows f es)) → (o : Ordering) → name_cmp l e.0 ≡ o → type_rows f (insert_entry name_cmp (e ∷ es) l a) ≡ insert_part (Label.Name l) (f a) (type_rows f (e ∷ es))
      go ih Less p = ap (type_rows f) (entry-less l a e es p) ∙ sym (ap (λ o. cond (is_lt o) front back) p)
      go ih Equal p = absurd (no-equal l e es h p)
      go ih Greater p =
          ap (type_rows f) (entry-greater l a e es p) ∙ (ap (Row.More (Label.Name e.0) (f e.1)) (ih (cond-none (is_eq (name_cmp l e.0)) e.1 (at_name l es) h).1) ∙ sym (ap (λ o. cond (is_lt o) front back) p))

  term-insert : (g : A → Term) (l : Name) (a : A) (es : List (Name × A)) → at_name l es ≡ None → term_rows g (insert_entry name_cmp es l a) ≡ insert_term (Label.Name l) (g a) (term_rows g es)
  term-insert g l a [] h = refl
  term-insert g l a (e ∷ es) h = go (term-insert g l a es) (name_cmp l e.0) refl
    where
      front : TermRow
      front = TermRow.More (Label.Name l) (g a) (term_rows g (e ∷ es))

      back : TermRow
      back = TermRow.More (Label.Name e.0) (g e.1) (insert_term (Label.Name l) (g a) (term_rows g es))

      go : (at_name l es ≡ None → term_rows g (insert_entry name_cmp es l a) ≡ insert_term (Label.Name l) (g a) (term_rows g es)) → (o : Ordering) → name_cmp l e.0 ≡ o → term_rows g (insert_entry name_cmp (e ∷ es) l a) ≡ insert_term (Label.Name l) (g a) (term_rows g (e ∷ es))
      go ih Less p = ap (term_rows g) (entry-less l a e es p) ∙ sym (ap (λ o. cond (is_lt o) front back) p)
      go ih Equal p = absurd (no-equal l e es h p)
      go ih Greater p =
          ap (term_rows g) (entry-greater l a e es p) ∙ (ap (TermRow.More (Label.Name e.0) (g e.1)) (ih (cond-none (is_eq (name_cmp l e.0)) e.1 (at_name l es) h).1) ∙ sym (ap (λ o. cond (is_lt o) front back) p))

  -- fields that were seen one after the other, their names, the last one first, and the map that has them

  -- fields seen one after the other, their names, the last one first, and the entries that they make
  pub data Seen : List (Name × A) → List Name → List (Name × A) → Type 0 where
    none : Seen [] [] []
    more : (xs : List (Name × A)) {before : List Name} (es : List (Name × A)) (l : Name) (a : A)
        → Seen xs before es
        → IsNew l before
        → Seen (xs ++ (l, a) ∷ []) (l ∷ before) (insert_entry name_cmp es l a)

  mutual
    -- the map has no entry exactly for the new names
    pub new-none : {xs : List (Name × A)} {before : List Name} {es : List (Name × A)} (l : Name) → Seen xs before es → IsNew l before → at_name l es ≡ None
    new-none l none n = refl
    new-none l (more xs es m a s g) n = none-other l m a es n.0 (new-none m s g) (new-none l s n.1)

    -- a name without an entry is none of those seen
    pub none-new : {xs : List (Name × A)} {before : List Name} {es : List (Name × A)} (l : Name) → Seen xs before es → at_name l es ≡ None → IsNew l before
    none-new l none h = tt
    none-new l (more xs es m a s g) h =
        (λ e. none-own m a es (subst (λ k. at_name k (insert_entry name_cmp es m a) ≡ None) e h), none-new l s (none-back l m a es (new-none m s g) h))

  -- the fields put into a row, the last one first
  abbrev pub type_put : (A → Ty) → List (Name × A) → Row → Row
  type_put f [] r = r
  type_put f (x ∷ xs) r = insert_part (Label.Name x.0) (f x.1) (type_put f xs r)

  -- the terms of fields put into a row, the last one first
  abbrev pub term_put : (A → Term) → List (Name × A) → TermRow → TermRow
  term_put g [] r = r
  term_put g (x ∷ xs) r = insert_term (Label.Name x.0) (g x.1) (term_put g xs r)

  -- one more field at the end is put into the row of types before the others
  pub type-push : (f : A → Ty) (xs : List (Name × A)) (x : Name × A) (r : Row) → type_put f (xs ++ x ∷ []) r ≡ type_put f xs (insert_part (Label.Name x.0) (f x.1) r)
  type-push f [] x r = refl
  type-push f (y ∷ xs) x r = ap (insert_part (Label.Name y.0) (f y.1)) (type-push f xs x r)

  -- one more field at the end is put into the row of terms before the others
  pub term-push : (g : A → Term) (xs : List (Name × A)) (x : Name × A) (r : TermRow) → term_put g (xs ++ x ∷ []) r ≡ term_put g xs (insert_term (Label.Name x.0) (g x.1) r)
  term-push g [] x r = refl
  term-push g (y ∷ xs) x r = ap (insert_term (Label.Name y.0) (g y.1)) (term-push g xs x r)

  -- a field of a new name may be put in first or last
  type-first : (f : A → Ty) {xs : List (Name × A)} {before : List Name} {es : List (Name × A)} (l : Name) (t : Ty) (r : Row) → Seen xs before es → IsNew l before → insert_part (Label.Name l) t (type_put f xs r) ≡ type_put f xs (insert_part (Label.Name l) t r)
  type-first f l t r none n = refl
  type-first f l t r (more xs es m a s g) n =
      ap (insert_part (Label.Name l) t) (type-push f xs (m, a) r) ∙
      (type-first f l t (insert_part (Label.Name m) (f a) r) s n.1 ∙
      (ap (type_put f xs) (swap-part (Label.Name l) (Label.Name m) t (f a) r (named l m n.0)) ∙ sym (type-push f xs (m, a) (insert_part (Label.Name l) t r))))

  term-first : (g : A → Term) {xs : List (Name × A)} {before : List Name} {es : List (Name × A)} (l : Name) (t : Term) (r : TermRow) → Seen xs before es → IsNew l before → insert_term (Label.Name l) t (term_put g xs r) ≡ term_put g xs (insert_term (Label.Name l) t r)
  term-first g l t r none n = refl
  term-first g l t r (more xs es m a s h) n =
      ap (insert_term (Label.Name l) t) (term-push g xs (m, a) r) ∙
      (term-first g l t (insert_term (Label.Name m) (g a) r) s n.1 ∙
      (ap (term_put g xs) (swap-term (Label.Name l) (Label.Name m) t (g a) r (named l m n.0)) ∙ sym (term-push g xs (m, a) (insert_term (Label.Name l) t r))))

  -- the rows of the map are those of the fields
  pub type-seen : (f : A → Ty) {xs : List (Name × A)} {before : List Name} {es : List (Name × A)} → Seen xs before es → type_rows f es ≡ type_put f xs Row.End
  type-seen f none = refl
  type-seen f (more xs es l a s n) =
      type-insert f l a es (new-none l s n) ∙
      (ap (insert_part (Label.Name l) (f a)) (type-seen f s) ∙ (type-first f l (f a) Row.End s n ∙ sym (type-push f xs (l, a) Row.End)))

  -- the entries of the fields seen make the row into which their terms are put
  pub term-seen : (g : A → Term) {xs : List (Name × A)} {before : List Name} {es : List (Name × A)} → Seen xs before es → term_rows g es ≡ term_put g xs TermRow.End
  term-seen g none = refl
  term-seen g (more xs es l a s n) =
      term-insert g l a es (new-none l s n) ∙
      (ap (insert_term (Label.Name l) (g a)) (term-seen g s) ∙ (term-first g l (g a) TermRow.End s n ∙ sym (term-push g xs (l, a) TermRow.End)))
