-- How the text of a value is put together.
-- Main results: lines-more, fields-more, quoted-more, program-lines.
use Rattle.std.proofs.Common.{◌≡◌, ◌≢◌, ℕ, ◌+◌, ◌<◌, ◌≤◌, List, [], ◌∷◌, ◌++◌, length, get_or, take, drop, flat_map, refl, sym, ap, ap₂, ◌∙◌, append_assoc, append-nil, add-one, arith, codes}
use Rattle.std.proofs.Math.Seq.{take-suc}
use Rattle.std.proofs.lemmas.List.{drop_all, take_all}
use Rattle.omega_kinds.specs.Text.{◌then◌}
use Rattle.omega_kinds.specs.declared.label.Label.{Label}
use Rattle.omega_kinds.specs.declared.label.Label.TheVariants as label
use Rattle.omega_types.specs.declared.tree.Ty.{Ty as TyHandle}
use Rattle.omega_terms.specs.declared.tree.Term.{Term as TermHandle}
use Rattle.omega_terms.specs.declared.tree.TermFields.{TermFields}
use Rattle.omega_terms.specs.declared.tree.TermNode.{TermNode}
use Rattle.omega_terms.specs.declared.tree.TermNode.TheVariants as node
use Rattle.omega_terms.specs.Fields.{TermPairs, term_row}
use Rattle.omega_terms.specs.KindText.{label_text}
use Rattle.omega_terms.specs.Term.{Term, TermRow}
use Rattle.omega_terms.specs.TermText.{byte_text, quoted_text}
use Rattle.omega_terms.specs.Inner.View.{term_of}
use Rattle.omega_node_laws.proofs.FieldLoop.{left-more}
use Rattle.omega_terms.specs.ValueText.{shown, shown_fields, mark_at, lines, inside, record_lines, value_text}
use Rattle.omega_machine.proofs.Reduced.{is-form}

-- ---- pieces in a row

pub three : (o a b c : List ℕ) → ((o ++ a) ++ b) ++ c ≡ o ++ (a then b then c)
unfolding ◌then◌
three o a b c = append_assoc (o ++ a) b c ∙ append_assoc o a (b ++ c)

pub four : (o a b c d : List ℕ) → (o ++ (a then b then c)) ++ d ≡ o ++ (a then b then c then d)
unfolding ◌then◌
four o a b c d = append_assoc o (a ++ (b ++ c)) d ∙ ap (λ x. o ++ x) (append_assoc a (b ++ c) d ∙ ap (λ x. a ++ x) (append_assoc b c d))

five : (o a b c d e : List ℕ) → (o ++ (a then b then c then d)) ++ e ≡ o ++ (a then b then c then d then e)
unfolding ◌then◌
five o a b c d e =
    append_assoc o (a ++ (b ++ (c ++ d))) e ∙
    ap (λ x. o ++ x) (append_assoc a (b ++ (c ++ d)) e ∙ ap (λ x. a ++ x) (append_assoc b (c ++ d) e ∙ ap (λ x. b ++ x) (append_assoc c d e)))

marked : (o m a b c e : List ℕ) → ((o ++ m) ++ (a then b then c)) ++ e ≡ o ++ (m then a then b then c then e)
unfolding ◌then◌
marked o m a b c e =
    append_assoc (o ++ m) (a ++ (b ++ c)) e ∙
    (append_assoc o m ((a ++ (b ++ c)) ++ e) ∙
    ap (λ x. o ++ (m ++ x)) (append_assoc a (b ++ c) e ∙ ap (λ x. a ++ x) (append_assoc b c e)))

-- ---- lines

-- one more line of a program's bindings is written, and the whole text stays the one to come
pub lines-more : (old new whole : List ℕ) (i : ℕ) (xs : TermPairs) (x : Label × Term) → old ++ lines (term_row (drop i xs)) ≡ whole → i < length xs → x ≡ get_or xs i x → new ≡ old ++ (label_text x.0 then codes " = " then shown x.1 then codes "\n") → new ++ lines (term_row (drop (i + 1) xs)) ≡ whole
lines-more old new whole i xs x h l p e =
    ap (λ y. y ++ lines (term_row (drop (i + 1) xs))) e ∙
    (five old (label_text x.0) (codes " = ") (shown x.1) (codes "\n") (lines (term_row (drop (i + 1) xs))) ∙
    (ap (λ r. old ++ lines r) (sym (left-more i xs x l p)) ∙ h))

-- when all lines are written, the text is that of all bindings
pub lines-end : (out o : List ℕ) (i : ℕ) (xs ys : TermPairs) → out ++ lines (term_row (drop i xs)) ≡ o ++ lines (term_row xs) → length xs ≤ i → xs ≡ ys → out ≡ o ++ lines (term_row ys)
lines-end out o i xs ys h l e =
    sym (append-nil out) ∙ (ap (λ zs. out ++ lines (term_row zs)) (sym (drop_all i xs l)) ∙ (h ∙ ap (λ zs. o ++ lines (term_row zs)) e))

-- ---- fields in braces

-- the first field of a record comes after a brace
pub fields-first : (o out : List ℕ) (xs : TermPairs) → out ≡ o ++ codes "{" → out ++ shown_fields (mark_at 0) (term_row xs) ≡ (o ++ codes "{") ++ shown_fields [] (term_row xs)
fields-first o out xs e = ap (λ y. y ++ shown_fields [] (term_row xs)) e

-- one more field of a record is written, and the whole text stays the one to come
pub fields-more : (old with_mark new whole m : List ℕ) (i : ℕ) (xs : TermPairs) (x : Label × Term) → old ++ shown_fields (mark_at i) (term_row (drop i xs)) ≡ whole → i < length xs → x ≡ get_or xs i x → m ≡ mark_at i → with_mark ≡ old ++ m → new ≡ with_mark ++ (label_text x.0 then codes " = " then shown x.1) → new ++ shown_fields (mark_at (i + 1)) (term_row (drop (i + 1) xs)) ≡ whole
fields-more old with_mark new whole m i xs x h l p q r e =
    let later = shown_fields (codes ", ") (term_row (drop (i + 1) xs)) in
    ap₂ (λ y k. y ++ shown_fields (mark_at k) (term_row (drop (i + 1) xs))) (e ∙ ap (λ y. y ++ (label_text x.0 then codes " = " then shown x.1)) (r ∙ ap (λ y. old ++ y) q)) (add-one i) ∙
    (marked old (mark_at i) (label_text x.0) (codes " = ") (shown x.1) later ∙
    (ap (λ z. old ++ shown_fields (mark_at i) z) (sym (left-more i xs x l p)) ∙ h))

-- when all fields are written and the brace is closed, the text is that of the record
pub fields-end : (out o new : List ℕ) (mark : List ℕ) (i : ℕ) (xs ys : TermPairs) → out ++ shown_fields mark (term_row (drop i xs)) ≡ (o ++ codes "{") ++ shown_fields [] (term_row xs) → length xs ≤ i → xs ≡ ys → new ≡ out ++ codes "}" → new ≡ o ++ (codes "{" then shown_fields [] (term_row ys) then codes "}")
fields-end out o new mark i xs ys h l e p =
    let at_end : out ≡ (o ++ codes "{") ++ shown_fields [] (term_row xs) =
    sym (append-nil out) ∙ (ap (λ zs. out ++ shown_fields mark (term_row zs)) (sym (drop_all i xs l)) ∙ h) in
    p ∙ (ap (λ y. y ++ codes "}") at_end ∙ (three o (codes "{") (shown_fields [] (term_row xs)) (codes "}") ∙ ap (λ zs. o ++ (codes "{" then shown_fields [] (term_row zs) then codes "}")) e))

-- ---- records of one field

pub one-item : (xs fs : TermPairs) (x : Label × Term) → xs ≡ fs → length xs ≡ 1 → x ≡ get_or xs 0 x → fs ≡ x ∷ []
one-item xs fs x e h p = sym e ∙ first xs h p
  where
    first : (ys : TermPairs) → length ys ≡ 1 → x ≡ get_or ys 0 x → ys ≡ x ∷ []
    first [] k q = absurd (omega arith)
    first (y ∷ []) k q = ap (λ z. z ∷ []) (sym q)
    first (y ∷ z ∷ zs) k q = absurd (omega arith)

as-braces : (l : Label) (e : Term) → (l ≡ label.Val → ⊥) → (l ≡ label.Typ → ⊥) → (l ≡ label.Sig → ⊥) → shown (Term.Fields (TermRow.More l e TermRow.End)) ≡ (codes "{" then shown_fields [] (TermRow.More l e TermRow.End) then codes "}")
as-braces label.Val e v t s = absurd (v refl)
as-braces label.Typ e v t s = absurd (t refl)
as-braces label.Sig e v t s = absurd (s refl)
as-braces label.App e v t s = refl
as-braces label.Gen e v t s = refl
as-braces (label.Name n) e v t s = refl

shown-at : (fs : TermPairs) (x : Label × Term) (l : Label) → fs ≡ x ∷ [] → x.0 ≡ l → shown (Term.Fields (term_row fs)) ≡ shown (Term.Fields (TermRow.More l x.1 TermRow.End))
shown-at fs x l e p = ap (λ ys. shown (Term.Fields (term_row ys))) e ∙ ap (λ k. shown (Term.Fields (TermRow.More k x.1 TermRow.End))) p

-- a record of one field `.val` is shown as what is in the field
pub single-val : (o new : List ℕ) (fs : TermPairs) (x : Label × Term) → fs ≡ x ∷ [] → x.0 ≡ label.Val → new ≡ o ++ shown x.1 → new ≡ o ++ shown (Term.Fields (term_row fs))
single-val o new fs x e p h = h ∙ ap (λ y. o ++ y) (sym (shown-at fs x label.Val e p))

-- a record of one field whose label is not reserved for values, types or signatures is shown as a record
pub single-other : (o new : List ℕ) (fs : TermPairs) (x : Label × Term) → fs ≡ x ∷ [] → (x.0 ≡ label.Val → ⊥) → (x.0 ≡ label.Typ → ⊥) → (x.0 ≡ label.Sig → ⊥) → new ≡ o ++ (codes "{" then shown_fields [] (term_row fs) then codes "}") → new ≡ o ++ shown (Term.Fields (term_row fs))
single-other o new fs x e v t s h =
    h ∙ ap (λ y. o ++ y) (ap (λ ys. codes "{" then shown_fields [] (term_row ys) then codes "}") e ∙ (sym (as-braces x.0 x.1 v t s) ∙ ap (λ ys. shown (Term.Fields (term_row ys))) (sym e)))

many-braces : (fs : TermPairs) → length fs ≢ 1 → shown (Term.Fields (term_row fs)) ≡ (codes "{" then shown_fields [] (term_row fs) then codes "}")
many-braces [] n = refl
many-braces (x ∷ []) n = absurd (n refl)
many-braces ((label.Val, e) ∷ y ∷ ys) n = refl
many-braces ((label.Typ, e) ∷ y ∷ ys) n = refl
many-braces ((label.Sig, e) ∷ y ∷ ys) n = refl
many-braces ((label.App, e) ∷ y ∷ ys) n = refl
many-braces ((label.Gen, e) ∷ y ∷ ys) n = refl
many-braces ((label.Name s, e) ∷ y ∷ ys) n = refl

-- a record of other than one field is shown as a record
pub record-many : (o new : List ℕ) (xs fs : TermPairs) → xs ≡ fs → length xs ≢ 1 → new ≡ o ++ (codes "{" then shown_fields [] (term_row fs) then codes "}") → new ≡ o ++ shown (Term.Fields (term_row fs))
record-many o new xs fs e n h = h ∙ ap (λ y. o ++ y) (sym (many-braces fs (λ k. n (ap length e ∙ k))))

-- ---- quoted texts

-- quoted bytes begin after a quotation mark
pub quoted-first : (o out : List ℕ) → out ≡ o ++ codes "\"" → out ≡ (o ++ codes "\"") ++ flat_map byte_text (take 0 [])
quoted-first o out e = e ∙ sym (append-nil (o ++ codes "\""))

flat-append : (f : ℕ → List ℕ) (xs ys : List ℕ) → flat_map f (xs ++ ys) ≡ flat_map f xs ++ flat_map f ys
flat-append f [] ys = refl
flat-append f (x ∷ xs) ys = ap (λ z. f x ++ z) (flat-append f xs ys) ∙ sym (append_assoc (f x) (flat_map f xs) (flat_map f ys))

-- one more byte is written as quoted text has it
pub quoted-more : (front old new : List ℕ) (i : ℕ) (bytes : List ℕ) → old ≡ front ++ flat_map byte_text (take i bytes) → i < length bytes → new ≡ old ++ byte_text (get_or bytes i 0) → new ≡ front ++ flat_map byte_text (take (i + 1) bytes)
quoted-more front old new i bytes h l e =
    let b = get_or bytes i 0 in
    e ∙
    (ap (λ y. y ++ byte_text b) h ∙
    (append_assoc front (flat_map byte_text (take i bytes)) (byte_text b) ∙
    ap (λ y. front ++ y) (ap (λ y. flat_map byte_text (take i bytes) ++ y) (sym (append-nil (byte_text b))) ∙ (sym (flat-append byte_text (take i bytes) (b ∷ [])) ∙ ap (flat_map byte_text) (sym (take-suc bytes i 0 l) ∙ ap (λ n. take n bytes) (sym (add-one i)))))))

-- when all bytes are written and the quotation mark is closed, the text is the quoted one
pub quoted-end : (o old new : List ℕ) (i : ℕ) (bytes : List ℕ) → old ≡ (o ++ codes "\"") ++ flat_map byte_text (take i bytes) → length bytes ≤ i → new ≡ old ++ codes "\"" → new ≡ o ++ quoted_text bytes
quoted-end o old new i bytes h l e =
    e ∙ (ap (λ y. y ++ codes "\"") (h ∙ ap (λ ys. (o ++ codes "\"") ++ flat_map byte_text ys) (take_all i bytes l)) ∙ three o (codes "\"") (flat_map byte_text bytes) (codes "\""))

-- ---- the value inside packages

-- what is inside a package is inside what it packs
pub inside-pack : (n : TermNode) (t u : TyHandle) (b : TermHandle) (e v : Term) → n ≡ node.Pack t b u → term_of n ≡ e → inside e ≡ v → inside b ≡ v
inside-pack n t u b e v p q h = ap inside (sym (is-form n (node.Pack t b u) e p q)) ∙ h

no-pack : (n : TermNode) → ((t : TyHandle) (b : TermHandle) (u : TyHandle) → n ≡ node.Pack t b u → ⊥) → inside (term_of n) ≡ term_of n
no-pack (node.Pack t b u) h = absurd (h t b u refl)
no-pack _ h = refl

-- a term that is no package is what is inside it
pub inside-none : (n : TermNode) (e v : Term) → term_of n ≡ e → ((t : TyHandle) (b : TermHandle) (u : TyHandle) → n ≡ node.Pack t b u → ⊥) → inside e ≡ v → e ≡ v
inside-none n e v q h p = sym q ∙ (sym (no-pack n h) ∙ (ap inside q ∙ p))

-- the text of a value with a record inside all packages is that of the lines of its fields
pub program-lines : (n : TermNode) (f : TermPairs) (e v : Term) (start out : List ℕ) → n ≡ node.Fields f → term_of n ≡ e → e ≡ inside v → start ≡ [] → out ≡ start ++ lines (term_row f) → out ≡ value_text v
program-lines n f e v start out p q r s h =
    h ∙ (ap (λ y. y ++ lines (term_row f)) s ∙ ap record_lines (sym (is-form n (node.Fields f) e p q) ∙ r))

no-record-lines : (n : TermNode) → ((f : TermFields) → n ≡ node.Fields f → ⊥) → record_lines (term_of n) ≡ []
no-record-lines (node.Fields f) h = absurd (h f refl)
no-record-lines _ h = refl

-- the text of a value without a record inside all packages is empty
pub program-none : (n : TermNode) (e v : Term) (out : List ℕ) → term_of n ≡ e → e ≡ inside v → ((f : TermFields) → n ≡ node.Fields f → ⊥) → out ≡ [] → out ≡ value_text v
program-none n e v out q r h s = s ∙ (sym (no-record-lines n h) ∙ ap record_lines (q ∙ r))

-- ---- a field

-- a field is written as its label, an equality sign and its value
pub field-text : (o first second new found l s : List ℕ) → first ≡ o ++ found → found ≡ l → second ≡ first ++ codes " = " → new ≡ second ++ s → new ≡ o ++ (l then codes " = " then s)
field-text o first second new found l s e f g h =
    h ∙ (ap (λ y. y ++ s) (g ∙ ap (λ y. y ++ codes " = ") (e ∙ ap (λ y. o ++ y) f)) ∙ three o l (codes " = ") s)

-- a line is written as a field and the end of the line
pub line-text : (o first new l s : List ℕ) → first ≡ o ++ (l then codes " = " then s) → new ≡ first ++ codes "\n" → new ≡ o ++ (l then codes " = " then s then codes "\n")
line-text o first new l s e h = h ∙ (ap (λ y. y ++ codes "\n") e ∙ four o l (codes " = ") s (codes "\n"))

-- ---- what is injected or rolled

-- an injection is written as its label and its value in parentheses
pub injected-text : (o first second third fourth new found l s : List ℕ) → first ≡ o ++ codes "(" → found ≡ l → second ≡ first ++ found → third ≡ second ++ codes " " → fourth ≡ third ++ s → new ≡ fourth ++ codes ")" → new ≡ o ++ (codes "(" then l then codes " " then s then codes ")")
injected-text o first second third fourth new found l s e f g h k m =
    let at_label : second ≡ (o ++ codes "(") ++ l = g ∙ ap₂ (λ x y. x ++ y) e f in
    let at_value : fourth ≡ (((o ++ codes "(") ++ l) ++ codes " ") ++ s = k ∙ ap (λ y. y ++ s) (h ∙ ap (λ y. y ++ codes " ") at_label) in
    m ∙ (ap (λ y. y ++ codes ")") (at_value ∙ ap (λ y. y ++ s) (three o (codes "(") l (codes " "))) ∙ (ap (λ y. y ++ codes ")") (four o (codes "(") l (codes " ") s) ∙ five o (codes "(") l (codes " ") s (codes ")")))

-- a rolled value is written as `roll` and its value in parentheses
pub rolled-text : (o first second new s : List ℕ) → first ≡ o ++ codes "(roll " → second ≡ first ++ s → new ≡ second ++ codes ")" → new ≡ o ++ (codes "(roll " then s then codes ")")
rolled-text o first second new s e h k =
    k ∙ (ap (λ y. y ++ codes ")") (h ∙ ap (λ y. y ++ s) e) ∙ three o (codes "(roll ") s (codes ")"))
