-- Fields of different labels may be put into a row in either order.
-- Main results: swap-part, swap-term.
use Rattle.std.proofs.Common.{◌≡◌, ◌≢◌, Bool, true, false, cond, refl, sym, ap, ◌∙◌, inl, inr, ◌⊎◌}
use Rattle.std.proofs.lemmas.Bool.{false≢true}
use Rattle.omega_kinds.specs.declared.label.Label.{Label}
use Rattle.omega_kinds.specs.LabelOrder.{label_before, LabelBefore}
use Rattle.omega_kinds.proofs.LabelLaws.{irreflexive, transitive, total_order}
use Rattle.omega_types.specs.Ty.{Ty, Row}
use Rattle.omega_terms.specs.Term.{Term, TermRow}
use Rattle.sig_definitions.specs.Signatures.RecordOrder.{insert_part, insert_term}

true-or-false : (b : Bool) → (b ≡ true) ⊎ (b ≡ false)
true-or-false true = inl refl
true-or-false false = inr refl

not-before : (l m : Label) → (LabelBefore l m → ⊥) → label_before l m ≡ false
not-before l m n = go (true-or-false (label_before l m))
  where
    go : (label_before l m ≡ true) ⊎ (label_before l m ≡ false) → label_before l m ≡ false
    go (inl h) = absurd (n h)
    go (inr h) = h

before-not : (l m : Label) → LabelBefore l m → label_before m l ≡ false
before-not l m h = not-before m l (λ g. irreflexive l (transitive l m l h g))

-- what is not before k is not before what is before k
none-between : (l m k : Label) → LabelBefore m k → label_before l k ≡ false → label_before l m ≡ false
none-between l m k h n = not-before l m (λ g. false≢true (sym n ∙ transitive l m k g h))

-- record types

part-front : (l k : Label) (t v : Ty) (r : Row) → LabelBefore l k → insert_part l t (Row.More k v r) ≡ Row.More l t (Row.More k v r)
part-front l k t v r h = ap (λ b. cond b (Row.More l t (Row.More k v r)) (Row.More k v (insert_part l t r))) h

part-back : (l k : Label) (t v : Ty) (r : Row) → label_before l k ≡ false → insert_part l t (Row.More k v r) ≡ Row.More k v (insert_part l t r)
part-back l k t v r h = ap (λ b. cond b (Row.More l t (Row.More k v r)) (Row.More k v (insert_part l t r))) h

parts-both : (l m k : Label) (t u v : Ty) (r : Row) → LabelBefore l k → LabelBefore m k → LabelBefore l m → insert_part l t (insert_part m u (Row.More k v r)) ≡ insert_part m u (insert_part l t (Row.More k v r))
parts-both l m k t u v r a b c =
    ap (insert_part l t) (part-front m k u v r b) ∙ (part-front l m t u (Row.More k v r) c ∙
    sym (ap (insert_part m u) (part-front l k t v r a) ∙ (part-back m l u t (Row.More k v r) (before-not l m c) ∙ ap (Row.More l t) (part-front m k u v r b))))

parts-one : (l m k : Label) (t u v : Ty) (r : Row) → label_before l k ≡ false → LabelBefore m k → insert_part l t (insert_part m u (Row.More k v r)) ≡ insert_part m u (insert_part l t (Row.More k v r))
parts-one l m k t u v r a b =
    ap (insert_part l t) (part-front m k u v r b) ∙ (part-back l m t u (Row.More k v r) (none-between l m k b a) ∙ (ap (Row.More m u) (part-back l k t v r a) ∙
    sym (ap (insert_part m u) (part-back l k t v r a) ∙ part-front m k u v (insert_part l t r) b)))

parts-end : (l m : Label) (t u : Ty) → LabelBefore l m → insert_part l t (insert_part m u Row.End) ≡ insert_part m u (insert_part l t Row.End)
parts-end l m t u c = part-front l m t u Row.End c ∙ sym (part-back m l u t Row.End (before-not l m c))

-- parts of different labels may be put into a row in either order
pub swap-part : (l m : Label) (t u : Ty) (r : Row) → l ≢ m → insert_part l t (insert_part m u r) ≡ insert_part m u (insert_part l t r)
swap-part l m t u Row.End n = go (total_order l m)
  where
    go : (l ≡ m) ⊎ (LabelBefore l m ⊎ LabelBefore m l) → insert_part l t (insert_part m u Row.End) ≡ insert_part m u (insert_part l t Row.End)
    go (inl e) = absurd (n e)
    go (inr (inl c)) = parts-end l m t u c
    go (inr (inr c)) = sym (parts-end m l u t c)
swap-part l m t u (Row.More k v r) n = go (swap-part l m t u r n) (true-or-false (label_before l k)) (true-or-false (label_before m k)) (total_order l m)
  where
    go : insert_part l t (insert_part m u r) ≡ insert_part m u (insert_part l t r) → (label_before l k ≡ true) ⊎ (label_before l k ≡ false) → (label_before m k ≡ true) ⊎ (label_before m k ≡ false) → (l ≡ m) ⊎ (LabelBefore l m ⊎ LabelBefore m l) → insert_part l t (insert_part m u (Row.More k v r)) ≡ insert_part m u (insert_part l t (Row.More k v r))
    go ih (inl a) (inl b) (inl e) = absurd (n e)
    go ih (inl a) (inl b) (inr (inl c)) = parts-both l m k t u v r a b c
    go ih (inl a) (inl b) (inr (inr c)) = sym (parts-both m l k u t v r b a c)
    go ih (inl a) (inr b) o = sym (parts-one m l k u t v r b a)
    go ih (inr a) (inl b) o = parts-one l m k t u v r a b
    go ih (inr a) (inr b) o =
        ap (insert_part l t) (part-back m k u v r b) ∙ (part-back l k t v (insert_part m u r) a ∙ (ap (Row.More k v) ih ∙
        sym (ap (insert_part m u) (part-back l k t v r a) ∙ part-back m k u v (insert_part l t r) b)))

-- records

term-front : (l k : Label) (t v : Term) (r : TermRow) → LabelBefore l k → insert_term l t (TermRow.More k v r) ≡ TermRow.More l t (TermRow.More k v r)
term-front l k t v r h = ap (λ b. cond b (TermRow.More l t (TermRow.More k v r)) (TermRow.More k v (insert_term l t r))) h

term-back : (l k : Label) (t v : Term) (r : TermRow) → label_before l k ≡ false → insert_term l t (TermRow.More k v r) ≡ TermRow.More k v (insert_term l t r)
term-back l k t v r h = ap (λ b. cond b (TermRow.More l t (TermRow.More k v r)) (TermRow.More k v (insert_term l t r))) h

terms-both : (l m k : Label) (t u v : Term) (r : TermRow) → LabelBefore l k → LabelBefore m k → LabelBefore l m → insert_term l t (insert_term m u (TermRow.More k v r)) ≡ insert_term m u (insert_term l t (TermRow.More k v r))
terms-both l m k t u v r a b c =
    ap (insert_term l t) (term-front m k u v r b) ∙ (term-front l m t u (TermRow.More k v r) c ∙
    sym (ap (insert_term m u) (term-front l k t v r a) ∙ (term-back m l u t (TermRow.More k v r) (before-not l m c) ∙ ap (TermRow.More l t) (term-front m k u v r b))))

terms-one : (l m k : Label) (t u v : Term) (r : TermRow) → label_before l k ≡ false → LabelBefore m k → insert_term l t (insert_term m u (TermRow.More k v r)) ≡ insert_term m u (insert_term l t (TermRow.More k v r))
terms-one l m k t u v r a b =
    ap (insert_term l t) (term-front m k u v r b) ∙ (term-back l m t u (TermRow.More k v r) (none-between l m k b a) ∙ (ap (TermRow.More m u) (term-back l k t v r a) ∙
    sym (ap (insert_term m u) (term-back l k t v r a) ∙ term-front m k u v (insert_term l t r) b)))

terms-end : (l m : Label) (t u : Term) → LabelBefore l m → insert_term l t (insert_term m u TermRow.End) ≡ insert_term m u (insert_term l t TermRow.End)
terms-end l m t u c = term-front l m t u TermRow.End c ∙ sym (term-back m l u t TermRow.End (before-not l m c))

-- fields of different labels may be put into a row of terms in either order
pub swap-term : (l m : Label) (t u : Term) (r : TermRow) → l ≢ m → insert_term l t (insert_term m u r) ≡ insert_term m u (insert_term l t r)
swap-term l m t u TermRow.End n = go (total_order l m)
  where
    go : (l ≡ m) ⊎ (LabelBefore l m ⊎ LabelBefore m l) → insert_term l t (insert_term m u TermRow.End) ≡ insert_term m u (insert_term l t TermRow.End)
    go (inl e) = absurd (n e)
    go (inr (inl c)) = terms-end l m t u c
    go (inr (inr c)) = sym (terms-end m l u t c)
swap-term l m t u (TermRow.More k v r) n = go (swap-term l m t u r n) (true-or-false (label_before l k)) (true-or-false (label_before m k)) (total_order l m)
  where
    go : insert_term l t (insert_term m u r) ≡ insert_term m u (insert_term l t r) → (label_before l k ≡ true) ⊎ (label_before l k ≡ false) → (label_before m k ≡ true) ⊎ (label_before m k ≡ false) → (l ≡ m) ⊎ (LabelBefore l m ⊎ LabelBefore m l) → insert_term l t (insert_term m u (TermRow.More k v r)) ≡ insert_term m u (insert_term l t (TermRow.More k v r))
    go ih (inl a) (inl b) (inl e) = absurd (n e)
    go ih (inl a) (inl b) (inr (inl c)) = terms-both l m k t u v r a b c
    go ih (inl a) (inl b) (inr (inr c)) = sym (terms-both m l k u t v r b a c)
    go ih (inl a) (inr b) o = sym (terms-one m l k u t v r b a)
    go ih (inr a) (inl b) o = terms-one l m k t u v r a b
    go ih (inr a) (inr b) o =
        ap (insert_term l t) (term-back m k u v r b) ∙ (term-back l k t v (insert_term m u r) a ∙ (ap (TermRow.More k v) ih ∙
        sym (ap (insert_term m u) (term-back l k t v r a) ∙ term-back m k u v (insert_term l t r) b)))
