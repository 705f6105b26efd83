-- Each move keeps the term and leaves less work.
-- Main results: next-part, no-part, pack-value, inject-value, roll-value.
use Rattle.std.proofs.Common.{◌≡◌, ℕ, zero, suc, ◌+◌, ◌*◌, ◌<◌, ◌≤◌, List, [], ◌∷◌, ◌++◌, length, map, take, drop, get_or, Option, Some, None, refl, sym, ap, ap₂, ◌∙◌, subst, arith, drop-cons, add-one, append-nil, append_assoc, length-append, ◌⊎◌, inl, inr}
use Rattle.std.proofs.lemmas.List.{drop_all}
use Rattle.std.proofs.lemmas.Option.{slice_get_cases}
use Rattle.std.proofs.Math.Seq.{take-suc}
use Rattle.std.specs.List.{slice_get}
use Rattle.std.specs.Option.{option_map}
use Rattle.omega_kinds.specs.declared.label.Label.{Label}
use Rattle.omega_types.specs.Ty.{Ty}
use Rattle.omega_terms.specs.declared.tree.TermFields.{TermFields}
use Rattle.omega_kinds.specs.LabelOrder.{LabelBefore}
use Rattle.omega_types.specs.Fields.{Rises, MayFollow}
use Rattle.omega_terms.specs.declared.tree.TermNode.{TermNode}
use Rattle.omega_terms.specs.declared.tree.TermNode.TheVariants as node
use Rattle.omega_terms.specs.Term.{Term}
use Rattle.omega_terms.specs.Fields.{TermPairs, term_row}
use Rattle.omega_terms.specs.Inner.Size.{term_size, pairs_size}
use Rattle.omega_terms.specs.Steps.{IsValue, AreValues}
use Rattle.omega_terms.specs.Inner.View.{term_of}
use Rattle.omega_machine.specs.declared.frames.Waiting.{Waiting}
use Rattle.omega_machine.specs.declared.frames.Waiting.TheVariants as waiting
use Rattle.omega_machine.specs.declared.frames.Frame.TheVariants as frame
use Rattle.omega_machine.specs.declared.refocus.Move.{Move}
use Rattle.omega_machine.specs.declared.refocus.Move.TheVariants as move
use Rattle.omega_machine.specs.Inner.Contexts.{row_pairs, fields_of, left, rest, with_done, with_first, fill_waiting}
use Rattle.omega_machine.specs.Inner.Moves.{Begun, waiting_work, Moves}
use Rattle.omega_machine.proofs.Reduced.{is-form}

-- ---- up with a value

some-size : (v : Term) → 0 < 3 * term_size v
some-size (Term.Var i) = omega arith
some-size (Term.Int z) = omega arith
some-size (Term.Bool b) = omega arith
some-size (Term.Text s) = omega arith
some-size (Term.Lam t e) = omega arith
some-size (Term.Call f a) = omega arith
some-size (Term.TyLam k e) = omega arith
some-size (Term.Inst e t) = omega arith
some-size (Term.Fields row) = omega arith
some-size (Term.Get e l) = omega arith
some-size (Term.Pack t e u) = omega arith
some-size (Term.Unpack p e) = omega arith
some-size (Term.If a b c) = omega arith
some-size (Term.Arith op a b) = omega arith
some-size (Term.Fix t u e) = omega arith
some-size (Term.Inj l e t) = omega arith
some-size (Term.Case e t row) = omega arith
some-size (Term.Roll e t) = omega arith
some-size (Term.Unroll e) = omega arith

goes-up : (v e : Term) → v ≡ e → IsValue e → Moves e (3 * term_size e) (move.Up v)
goes-up v e p h = record { same = p; sound = subst IsValue (sym p) h; less = some-size e }

-- ---- the fields of a record

pairs-row : (xs : TermPairs) → row_pairs (term_row xs) ≡ xs
pairs-row [] = refl
pairs-row (x ∷ xs) = ap (λ ys. x ∷ ys) (pairs-row xs)

-- the fields of a record node are those of its term
pub fields-are : (n : TermNode) (f : TermPairs) (whole : Term) → n ≡ node.Fields f → term_of n ≡ whole → fields_of whole ≡ f
fields-are n f whole p q = ap fields_of (is-form n (node.Fields f) whole p q) ∙ pairs-row f

-- at the start none of a record's fields is done
pub first-begun : (n : TermNode) (f : TermPairs) (whole copy : Term) → n ≡ node.Fields f → term_of n ≡ whole → copy ≡ whole → Begun copy []
first-begun n f whole copy p q s =
    let is = s ∙ is-form n (node.Fields f) whole p q in
    record { is = ap (λ ys. Term.Fields (term_row ys)) (ap fields_of is ∙ pairs-row f) ∙ sym is; labels = refl; values = AreValues.end }

-- the move from a record as a whole is the move from it with no field done
pub enter-fields : (n : TermNode) (f : TermPairs) (whole copy : Term) (m : Move) → n ≡ node.Fields f → term_of n ≡ whole → copy ≡ whole → Moves (with_done copy []) (3 * pairs_size (left copy []) + 1) m → Moves whole (3 * term_size whole) m
enter-fields n f whole copy m p q s h =
    let is = s ∙ is-form n (node.Fields f) whole p q in
    let fs = ap fields_of is ∙ pairs-row f in
    let same = ap (λ ys. Term.Fields (term_row ys)) fs ∙ sym (is-form n (node.Fields f) whole p q) in
    let sizes : 3 * pairs_size (fields_of copy) + 1 ≤ 3 * term_size whole = omega (arith, ap pairs_size fs, ap term_size (is-form n (node.Fields f) whole p q)) in
    record { same = h.same ∙ same; sound = h.sound; less = omega (arith, h.less, sizes) }

-- ---- to the next field

to-field : (whole : Term) (done : TermPairs) (x : Label × Term) (part : Term) → Begun whole done → length done < length (fields_of whole) → left whole done ≡ x ∷ rest whole done → part ≡ x.1 → Moves (with_done whole done) (3 * pairs_size (left whole done) + 1) (move.Down (frame.Waiting (waiting.Field whole done)) part)
to-field whole done x part b h e p =
    record {
      same = ap (λ ys. Term.Fields (term_row (done ++ with_first part ys))) e ∙ (ap (λ y. Term.Fields (term_row (done ++ (x.0, y) ∷ rest whole done))) p ∙ ap (λ ys. Term.Fields (term_row (done ++ ys))) (sym e));
      sound = (b, h);
      less = omega (arith, ap pairs_size e, ap term_size p);
    }

to-record : (whole : Term) (done : TermPairs) (e : Term) → Begun whole done → length (fields_of whole) ≤ length done → e ≡ Term.Fields (term_row done) → Moves (with_done whole done) (3 * pairs_size (left whole done) + 1) (move.Up e)
to-record whole done e b h p =
    record {
      same = p ∙ ap (λ ys. Term.Fields (term_row ys)) (sym (append-nil done) ∙ ap (λ ys. done ++ ys) (sym (drop_all (length done) (fields_of whole) h)));
      sound = subst IsValue (sym p) (IsValue.fields b.values);
      less = omega arith;
    }

-- ---- one more field is done

map-append : {A B : Type 0} (f : A → B) (xs ys : List A) → map f (xs ++ ys) ≡ map f xs ++ map f ys
map-append f [] ys = refl
map-append f (x ∷ xs) ys = ap (λ zs. f x ∷ zs) (map-append f xs ys)

values-more : (done : TermPairs) (l : Label) (v : Term) → AreValues (term_row done) → IsValue v → AreValues (term_row (done ++ (l, v) ∷ []))
values-more [] l v w h = AreValues.more h AreValues.end
values-more (x ∷ xs) l v (AreValues.more u w) h = AreValues.more u (values-more xs l v w h)

left-first : (whole : Term) (done : TermPairs) (x : Label × Term) → length done < length (fields_of whole) → x ≡ get_or (fields_of whole) (length done) x → left whole done ≡ x ∷ rest whole done
left-first whole done x h p =
    drop-cons (fields_of whole) (length done) x h ∙ ap₂ (λ y k. y ∷ drop k (fields_of whole)) (sym p) (sym (add-one (length done)))

-- with one more field come to a value, the record's first fields are done, and one less is left
pub one-more : (whole : Term) (done d : TermPairs) (x : Label × Term) (l : Label) (v : Term) → Begun whole done → length done < length (fields_of whole) → x ≡ get_or (fields_of whole) (length done) x → l ≡ x.0 → IsValue v → d ≡ done ++ (l, v) ∷ [] → Begun whole d × (with_done whole d ≡ fill_waiting (waiting.Field whole done) v) × (left whole d ≡ rest whole done)
one-more whole done d x l v b h is j w e =
    let fs = fields_of whole in
    let len : length d ≡ length done + 1 = ap length e ∙ length-append done ((l, v) ∷ []) in
    let left_is : left whole d ≡ rest whole done = ap (λ n. drop n fs) len in
    let labels : map (λ y. y.0) d ≡ map (λ y. y.0) (take (length d) fs) =
    ap (map (λ y. y.0)) e ∙
    (map-append (λ y. y.0) done ((l, v) ∷ []) ∙
    (ap₂ (λ ks k. ks ++ k ∷ []) b.labels (j ∙ ap (λ y. y.0) is) ∙
    (sym (map-append (λ y. y.0) (take (length done) fs) (get_or fs (length done) x ∷ [])) ∙
    (ap (map (λ y. y.0)) (sym (take-suc fs (length done) x h)) ∙ ap (λ n. map (λ y. y.0) (take n fs)) (sym (add-one (length done)) ∙ sym len))))) in
    let same : with_done whole d ≡ fill_waiting (waiting.Field whole done) v =
    ap₂ (λ ys zs. Term.Fields (term_row (ys ++ zs))) e left_is ∙
    (ap (λ ys. Term.Fields (term_row ys)) (append_assoc done ((l, v) ∷ []) (rest whole done)) ∙
    (ap (λ k. Term.Fields (term_row (done ++ (k, v) ∷ rest whole done))) j ∙
    ap (λ ys. Term.Fields (term_row (done ++ with_first v ys))) (sym (left-first whole done x h is)))) in
    (record { is = b.is; labels = labels; values = subst (λ ys. AreValues (term_row ys)) (sym e) (values-more done l v b.values w) }, same, left_is)

-- ---- the next label may follow those done

follows : {A : Type 0} (ws zs : List (Label × A)) (l : Label) → map (λ x. x.0) ws ≡ map (λ x. x.0) zs → MayFollow zs l → MayFollow ws l
follows [] zs l e m = tt
follows (w ∷ []) [] l e m = absurd (let f : w.0 ∷ [] ≡ [] → ⊥ = λ p. cc in f e)
follows (w ∷ []) (z ∷ []) l e m = let h : w.0 ≡ z.0 = cc in subst (λ k. LabelBefore k l) (sym h) m
follows (w ∷ []) (z ∷ y ∷ zs) l e m = absurd (let f : w.0 ∷ [] ≡ z.0 ∷ (y.0 ∷ map (λ x. x.0) zs) → ⊥ = λ p. cc in f e)
follows (w ∷ v ∷ ws) [] l e m = absurd (let f : w.0 ∷ (v.0 ∷ map (λ x. x.0) ws) ≡ [] → ⊥ = λ p. cc in f e)
follows (w ∷ v ∷ ws) (z ∷ []) l e m = absurd (let f : w.0 ∷ (v.0 ∷ map (λ x. x.0) ws) ≡ z.0 ∷ [] → ⊥ = λ p. cc in f e)
follows (w ∷ v ∷ ws) (z ∷ y ∷ zs) l e m = follows (v ∷ ws) (y ∷ zs) l (let h : v.0 ∷ map (λ x. x.0) ws ≡ y.0 ∷ map (λ x. x.0) zs = cc in h) m

follow-at : {A : Type 0} (xs : List (Label × A)) (i : ℕ) (d : Label × A) → i < length xs → Rises xs → MayFollow (take i xs) (get_or xs i d).0
follow-at [] i d p r = absurd (omega arith)
follow-at (x ∷ xs) zero d p r = tt
follow-at (x ∷ []) (suc i) d p r = absurd (omega arith)
follow-at (x ∷ y ∷ xs) (suc zero) d p r = r.0
follow-at (x ∷ y ∷ xs) (suc (suc i)) d p r = follow-at (y ∷ xs) (suc i) d (omega arith) r.1

-- the label of the next field may follow those of the fields that are done
pub may-follow : (whole : Term) (done fs : TermPairs) (x : Label × Term) (l : Label) → Begun whole done → fields_of whole ≡ fs → Rises fs → length done < length fs → x ≡ get_or fs (length done) x → l ≡ x.0 → MayFollow done l
may-follow whole done fs x l b e r h is j =
    follows done (take (length done) fs) l (b.labels ∙ ap (λ ys. map (λ y. y.0) (take (length done) ys)) e) (subst (MayFollow (take (length done) fs)) (sym (j ∙ ap (λ y. y.0) is)) (follow-at fs (length done) x h r))

-- as many fields as a record has, done, leave none
pub not-more : (whole : Term) (done fs ds : TermPairs) → fields_of whole ≡ fs → ds ≡ done → length done < length (fields_of whole) → length fs ≤ length ds → ⊥
not-more whole done fs ds e d h g = absurd (omega (arith, ap length e, ap length d))

-- ---- the part at a place

-- the part at an index of a record node is that of its term
pub part-some : (n : TermNode) (f : TermPairs) (whole : Term) (i : ℕ) (x : Label × Term) (part : Term) → n ≡ node.Fields f → term_of n ≡ whole → Some x ≡ slice_get f i → part ≡ x.1 → Some part ≡ option_map (λ (y : Label × Term). y.1) (slice_get (fields_of whole) i)
part-some n f whole i x part p q h e =
    ap Some e ∙ (ap (option_map (λ (y : Label × Term). y.1)) h ∙ ap (λ ys. option_map (λ (y : Label × Term). y.1) (slice_get ys i)) (sym (fields-are n f whole p q)))

-- where a record node has no part at an index, its term has none
pub part-none : (n : TermNode) (f : TermPairs) (whole : Term) (i : ℕ) → n ≡ node.Fields f → term_of n ≡ whole → None ≡ slice_get f i → None ≡ option_map (λ (y : Label × Term). y.1) (slice_get (fields_of whole) i)
part-none n f whole i p q h =
    ap (option_map (λ (y : Label × Term). y.1)) h ∙ ap (λ ys. option_map (λ (y : Label × Term). y.1) (slice_get ys i)) (sym (fields-are n f whole p q))

no-fields : (n : TermNode) → ((f : TermFields) → n ≡ node.Fields f → ⊥) → fields_of (term_of n) ≡ []
no-fields (node.Fields f) h = absurd (h f refl)
no-fields _ h = refl

-- a term that is no record has no part at any index
pub part-of-none : (n : TermNode) (whole : Term) (i : ℕ) → term_of n ≡ whole → ((f : TermFields) → n ≡ node.Fields f → ⊥) → None ≡ option_map (λ (y : Label × Term). y.1) (slice_get (fields_of whole) i)
part-of-none n whole i q h =
    ap (λ ys. option_map (λ (y : Label × Term). y.1) (slice_get ys i)) (sym (no-fields n h) ∙ ap fields_of q)

-- a list has an item at a place, or ends before it
abbrev Place : (xs : TermPairs) (i : ℕ) → Type 0
Place xs i = ((x : Label × Term) × (i < length xs) × (slice_get xs i ≡ Some x) × (get_or xs i x ≡ x)) ⊎ ((length xs ≤ i) × (slice_get xs i ≡ None))

mapped-some : (xs : TermPairs) (i : ℕ) (x : Label × Term) (o : Option Term) (part : Term) → o ≡ option_map (λ (y : Label × Term). y.1) (slice_get xs i) → o ≡ Some part → slice_get xs i ≡ Some x → part ≡ x.1
mapped-some xs i x o part e f g = let h : Some part ≡ Some x.1 = sym f ∙ (e ∙ ap (option_map (λ (y : Label × Term). y.1)) g) in cc

-- where a field is left, the move goes down to it, into a frame that waits for the others
pub next-part : (whole : Term) (done ds : TermPairs) (o : Option Term) (part : Term) → Begun whole done → ds ≡ done → o ≡ option_map (λ (y : Label × Term). y.1) (slice_get (fields_of whole) (length ds)) → o ≡ Some part → Moves (with_done whole done) (3 * pairs_size (left whole done) + 1) (move.Down (frame.Waiting (waiting.Field whole done)) part)
next-part whole done ds o part b d e f = by-place (slice_get_cases (fields_of whole) (length done)).1
  where
    at-done : o ≡ option_map (λ (y : Label × Term). y.1) (slice_get (fields_of whole) (length done))
    at-done = e ∙ ap (λ ys. option_map (λ (y : Label × Term). y.1) (slice_get (fields_of whole) (length ys))) d

    by-place : Place (fields_of whole) (length done) → Moves (with_done whole done) (3 * pairs_size (left whole done) + 1) (move.Down (frame.Waiting (waiting.Field whole done)) part)
    by-place (inl (x, h, g, k)) = to-field whole done x part b h (left-first whole done x h (sym k)) (mapped-some (fields_of whole) (length done) x o part at-done f g)
    by-place (inr (h, g)) = absurd (let k : Some part ≡ None = sym f ∙ (at-done ∙ ap (option_map (λ (y : Label × Term). y.1)) g) in cc)

-- where no field is left, the move goes up with the record of the values
pub no-part : (whole : Term) (done ds : TermPairs) (o : Option Term) (e : Term) → Begun whole done → ds ≡ done → o ≡ option_map (λ (y : Label × Term). y.1) (slice_get (fields_of whole) (length ds)) → o ≡ None → e ≡ Term.Fields (term_row done) → Moves (with_done whole done) (3 * pairs_size (left whole done) + 1) (move.Up e)
no-part whole done ds o e b d p q r = by-place (slice_get_cases (fields_of whole) (length done)).1
  where
    by-place : Place (fields_of whole) (length done) → Moves (with_done whole done) (3 * pairs_size (left whole done) + 1) (move.Up e)
    by-place (inl (x, h, g, k)) = absurd (let z : None ≡ Some x.1 = sym q ∙ (p ∙ (ap (λ ys. option_map (λ (y : Label × Term). y.1) (slice_get (fields_of whole) (length ys))) d ∙ ap (option_map (λ (y : Label × Term). y.1)) g)) in cc)
    by-place (inr (h, g)) = to-record whole done e b h r

-- ---- on from frames

-- a value that comes into a package goes up as the package
pub pack-value : (t u : Ty) (v e : Term) (f : Waiting) → f ≡ waiting.Packed t u → IsValue v → e ≡ Term.Pack t v u → Moves (fill_waiting f v) (waiting_work f) (move.Up e)
pack-value t u v e f p h q =
    subst (λ g. Moves (fill_waiting g v) (waiting_work g) (move.Up e)) (sym p) (record { same = q; sound = subst IsValue (sym q) (IsValue.pack h); less = omega arith })

-- a value that comes into an injection goes up as the injection
pub inject-value : (l : Label) (t : Ty) (v e : Term) (f : Waiting) → f ≡ waiting.Injected l t → IsValue v → e ≡ Term.Inj l v t → Moves (fill_waiting f v) (waiting_work f) (move.Up e)
inject-value l t v e f p h q =
    subst (λ g. Moves (fill_waiting g v) (waiting_work g) (move.Up e)) (sym p) (record { same = q; sound = subst IsValue (sym q) (IsValue.inj h); less = omega arith })

-- a value that comes into a rolled term goes up as the rolled value
pub roll-value : (t : Ty) (v e : Term) (f : Waiting) → f ≡ waiting.Rolled t → IsValue v → e ≡ Term.Roll v t → Moves (fill_waiting f v) (waiting_work f) (move.Up e)
roll-value t v e f p h q =
    subst (λ g. Moves (fill_waiting g v) (waiting_work g) (move.Up e)) (sym p) (record { same = q; sound = subst IsValue (sym q) (IsValue.roll h); less = omega arith })

-- what the code finds at the number of fields that are done
pub at-done : (done ds fs : TermPairs) (x : Label × Term) → ds ≡ done → length ds < length fs → x ≡ get_or fs (length ds) x → (length done < length fs) × (x ≡ get_or fs (length done) x)
at-done done ds fs x e h p = (subst (λ ys. length ys < length fs) e h, subst (λ ys. x ≡ get_or fs (length ys) x) e p)
