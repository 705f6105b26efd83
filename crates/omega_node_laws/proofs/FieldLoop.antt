-- The types of a record's fields and of a case's branches, found one after the other.
-- Main results: found-all, rises-differ, all-pass, branches-length.
use Rattle.std.proofs.Common.{◌≡◌, ℕ, suc, ◌+◌, ◌<◌, ◌≤◌, [], ◌∷◌, ◌++◌, List, Option, Some, None, Bool as Truth, true, false, ◌&&◌, if◌then◌else◌, length}
use Rattle.std.proofs.Common.{get_or, drop, refl, sym, ap, ap₂, ◌∙◌, subst}
use Rattle.std.proofs.lemmas.List.{drop_all}
use Rattle.std.specs.Option.{option_map}
use Rattle.std.specs.Ordering.{is_eq}
use Rattle.omega_kinds.specs.Kind.{Kind}
use Rattle.omega_kinds.specs.LabelOrder.{LabelBefore, label_cmp}
use Rattle.omega_kinds.specs.declared.label.Label.{Label}
use Rattle.omega_kinds.proofs.LabelLaws.{label-self, label-yes, transitive}
use Rattle.omega_types.specs.Ty.{Ty, Row}
use Rattle.omega_types.specs.Fields.{Pairs, row, Rises}
use Rattle.omega_types.proofs.KindsFound.{before-not}
use Rattle.omega_terms.specs.Term.{Term, TermRow}
use Rattle.omega_terms.specs.Fields.{TermPairs, term_row}
use Rattle.type_store.proofs.PartSteps.{after}
use Rattle.omega_node_laws.specs.Found.{synth_in, synth_row, synth_branches, is_found, more_type, is_new, labels_differ}

-- the fields that stand before a row
abbrev pub row_after : Pairs → Row → Row
row_after [] r = r
row_after (x ∷ xs) r = Row.More x.0 x.1 (row_after xs r)

row_after-end : (xs : Pairs) → row_after xs Row.End ≡ row xs
row_after-end [] = refl
row_after-end (x ∷ xs) = ap (Row.More x.0 x.1) (row_after-end xs)

row_after-more : (xs : Pairs) (l : Label) (t : Ty) (r : Row) → row_after (xs ++ (l, t) ∷ []) r ≡ row_after xs (Row.More l t r)
row_after-more [] l t r = refl
row_after-more (x ∷ xs) l t r = ap (Row.More x.0 x.1) (row_after-more xs l t r)

map-more : (xs : Pairs) (l : Label) (t : Ty) (o : Option Row)
    → option_map (row_after (xs ++ (l, t) ∷ [])) o ≡ option_map (row_after xs) (more_type l (Some t) o)
map-more xs l t None = refl
map-more xs l t (Some r) = ap Some (row_after-more xs l t r)

-- the fields from a place on are the one at the place and those after it
pub left-more : (i : ℕ) (xs : TermPairs) (x : Label × Term) → i < length xs → x ≡ get_or xs i x
    → term_row (drop i xs) ≡ TermRow.More x.0 x.1 (term_row (drop (i + 1) xs))
left-more i xs x h e = ap term_row (after xs i x e h)

-- one more type found
pub found-more : (ctx : List Kind) (vars : List Ty) (i : ℕ) (xs : TermPairs) (types more : Pairs) (x : Label × Term) (l : Label) (t : Ty) (whole : Option Row)
    → option_map (row_after types) (synth_row ctx vars (term_row (drop i xs))) ≡ whole → i < length xs → x ≡ get_or xs i x → l ≡ x.0
    → Some t ≡ synth_in ctx vars x.1 → more ≡ types ++ (l, t) ∷ [] → option_map (row_after more) (synth_row ctx vars (term_row (drop (i + 1) xs))) ≡ whole
found-more ctx vars i xs types more x l t whole h p is j s m =
    let rest = synth_row ctx vars (term_row (drop (i + 1) xs)) in
    ap (λ ys. option_map (row_after ys) rest) m ∙
    (map-more types l t rest ∙
    (ap₂ (λ k o. option_map (row_after types) (more_type k o rest)) j s ∙
    (ap (λ r. option_map (row_after types) (synth_row ctx vars r)) (sym (left-more i xs x p is)) ∙ h)))

-- a field without a type
pub found-none : (ctx : List Kind) (vars : List Ty) (i : ℕ) (xs : TermPairs) (types : Pairs) (x : Label × Term) (whole : Option Row)
    → option_map (row_after types) (synth_row ctx vars (term_row (drop i xs))) ≡ whole → i < length xs → x ≡ get_or xs i x → None ≡ synth_in ctx vars x.1
    → None ≡ whole
found-none ctx vars i xs types x whole h p is s =
    ap (λ o. option_map (row_after types) (more_type x.0 o (synth_row ctx vars (term_row (drop (i + 1) xs))))) s ∙
    (ap (λ r. option_map (row_after types) (synth_row ctx vars r)) (sym (left-more i xs x p is)) ∙ h)

-- all types found
pub found-all : (ctx : List Kind) (vars : List Ty) (i : ℕ) (xs : TermPairs) (types : Pairs) (whole : Option Row)
    → option_map (row_after types) (synth_row ctx vars (term_row (drop i xs))) ≡ whole → length xs ≤ i → Some (row types) ≡ whole
found-all ctx vars i xs types whole h p =
    ap Some (sym (row_after-end types)) ∙ (ap (λ ys. option_map (row_after types) (synth_row ctx vars (term_row ys))) (sym (drop_all i xs p)) ∙ h)

-- labels that rise differ

rises-new : (l : Label) (x : Label × Term) (xs : TermPairs) → LabelBefore l x.0 → Rises (x ∷ xs) → is_new l (term_row (x ∷ xs)) ≡ true
rises-new l x [] h r = rw (before-not l x.0 h) refl
rises-new l x (y ∷ xs) h r = rw (before-not l x.0 h, rises-new l y xs (transitive l x.0 y.0 h r.0) r.1) refl

-- labels that rise are all different
pub rises-differ : (xs : TermPairs) → Rises xs → labels_differ (term_row xs) ≡ true
rises-differ [] r = refl
rises-differ (x ∷ []) r = refl
rises-differ (x ∷ y ∷ xs) r = rw (rises-new x.0 y xs r.0 r.1, rises-differ (y ∷ xs) r.1) refl

-- the type of a record whose labels rise
pub record-type : (o p : Option Row) (xs ys : TermPairs) → Rises xs → xs ≡ ys → o ≡ p
    → option_map Ty.Fields o ≡ (if labels_differ (term_row ys) then option_map Ty.Fields p else None)
record-type o p xs ys r e q =
    ap (option_map Ty.Fields) q ∙ ap (λ b. if b then option_map Ty.Fields p else None)
    (sym (ap (λ zs. labels_differ (term_row zs)) (sym e) ∙ rises-differ xs r))

-- an option that is no value is none
pub none-is : {A : Type 0} (o : Option A) → ((x : A) → o ≡ Some x → ⊥) → None ≡ o
none-is None h = refl
none-is (Some x) h = absurd (h x refl)

-- ---- the branches of a case and the labels of a sum, side by side

last-false : (a b c : Truth) → c ≡ false → (a && (b && c)) ≡ false
last-false true true c e = e
last-false true false c e = refl
last-false false b c e = refl

-- both or neither have one more
pub branches-length : (ctx : List Kind) (vars : List Ty) (n : Ty) (xs : TermPairs) (ys : Pairs) → (length xs ≡ length ys → ⊥)
    → false ≡ synth_branches ctx vars (term_row xs) (row ys) n
branches-length ctx vars n [] [] h = absurd (h refl)
branches-length ctx vars n [] (y ∷ ys) h = refl
branches-length ctx vars n (x ∷ xs) [] h = refl
branches-length ctx vars n (x ∷ xs) (y ∷ ys) h =
    sym (last-false (is_eq (label_cmp x.0 y.0)) (is_found n (synth_in ctx (y.1 ∷ vars) x.1)) (synth_branches ctx vars (term_row xs) (row ys) n)
    (sym (branches-length ctx vars n xs ys (λ e. h (ap suc e)))))

-- the parts from a place on are the one at the place and those after it
pub parts-more : (i : ℕ) (ys : Pairs) (y : Label × Ty) → i < length ys → y ≡ get_or ys i y → row (drop i ys) ≡ Row.More y.0 y.1 (row (drop (i + 1) ys))
parts-more i ys y h e = ap row (after ys i y e h)

-- whether the branches from a place on pass
abbrev pub pass_from : List Kind → List Ty → Ty → ℕ → TermPairs → Pairs → Truth
pass_from ctx vars n i xs ys = synth_branches ctx vars (term_row (drop i xs)) (row (drop i ys)) n

-- whether one branch passes
abbrev pub passes : List Kind → List Ty → Ty → Label × Term → Label × Ty → Truth
passes ctx vars n x y = is_found n (synth_in ctx (y.1 ∷ vars) x.1)

branches-more : (ctx : List Kind) (vars : List Ty) (n : Ty) (i : ℕ) (xs : TermPairs) (ys : Pairs) (x : Label × Term) (y : Label × Ty) → i < length xs
    → i < length ys → x ≡ get_or xs i x → y ≡ get_or ys i y
    → pass_from ctx vars n i xs ys ≡ (is_eq (label_cmp x.0 y.0) && (passes ctx vars n x y && pass_from ctx vars n (i + 1) xs ys))
branches-more ctx vars n i xs ys x y h j e f = ap₂ (λ p q. synth_branches ctx vars p q n) (left-more i xs x h e) (parts-more i ys y j f)

-- one more branch passes
pub branch-passes : (ctx : List Kind) (vars : List Ty) (n : Ty) (i : ℕ) (xs : TermPairs) (ys : Pairs) (x : Label × Term) (y : Label × Ty) (whole : Truth)
    → i < length xs → i < length ys → x ≡ get_or xs i x → y ≡ get_or ys i y
    → pass_from ctx vars n i xs ys ≡ whole → x.0 ≡ y.0 → true ≡ passes ctx vars n x y → pass_from ctx vars n (i + 1) xs ys ≡ whole
branch-passes ctx vars n i xs ys x y whole h j e f w l p =
    let rest = pass_from ctx vars n (i + 1) xs ys in
    ap₂ (λ a b. a && (b && rest)) (sym (ap (λ k. is_eq (label_cmp x.0 k)) (sym l) ∙ label-self x.0)) p ∙
    (sym (branches-more ctx vars n i xs ys x y h j e f) ∙ w)

-- a branch of another label, and one that does not pass
pub label-differs : (ctx : List Kind) (vars : List Ty) (n : Ty) (i : ℕ) (xs : TermPairs) (ys : Pairs) (x : Label × Term) (y : Label × Ty) (whole : Truth)
    → i < length xs → i < length ys → x ≡ get_or xs i x → y ≡ get_or ys i y
    → pass_from ctx vars n i xs ys ≡ whole → (x.0 ≡ y.0 → ⊥) → false ≡ whole
label-differs ctx vars n i xs ys x y whole h j e f w d = differ (is_eq (label_cmp x.0 y.0)) refl ∙ (sym (branches-more ctx vars n i xs ys x y h j e f) ∙ w)
  where
    differ : (b : Truth) → is_eq (label_cmp x.0 y.0) ≡ b → false ≡ (is_eq (label_cmp x.0 y.0) && (passes ctx vars n x y && pass_from ctx vars n (i + 1) xs ys))
    differ true q = absurd (d (label-yes x.0 y.0 q))
    differ false q = ap (λ b. b && (passes ctx vars n x y && pass_from ctx vars n (i + 1) xs ys)) (sym q)

-- one branch that does not pass makes the test of all branches fail
pub branch-fails : (ctx : List Kind) (vars : List Ty) (n : Ty) (i : ℕ) (xs : TermPairs) (ys : Pairs) (x : Label × Term) (y : Label × Ty) (whole : Truth)
    → i < length xs → i < length ys → x ≡ get_or xs i x → y ≡ get_or ys i y
    → pass_from ctx vars n i xs ys ≡ whole → false ≡ passes ctx vars n x y → false ≡ whole
branch-fails ctx vars n i xs ys x y whole h j e f w p =
    let rest = pass_from ctx vars n (i + 1) xs ys in
    fails (is_eq (label_cmp x.0 y.0)) ∙ (ap (λ b. is_eq (label_cmp x.0 y.0) && (b && rest)) p ∙ (sym (branches-more ctx vars n i xs ys x y h j e f) ∙ w))
  where
    fails : (b : Truth) → false ≡ (b && false)
    fails true = refl
    fails false = refl

-- all branches passed
pub all-pass : (ctx : List Kind) (vars : List Ty) (n : Ty) (i : ℕ) (xs : TermPairs) (ys : Pairs) (whole : Truth) → length xs ≡ length ys → length ys ≤ i
    → pass_from ctx vars n i xs ys ≡ whole → true ≡ whole
all-pass ctx vars n i xs ys whole l h w =
    ap₂ (λ p q. synth_branches ctx vars (term_row p) (row q) n) (sym (drop_all i xs (subst (λ m. m ≤ i) (sym l) h))) (sym (drop_all i ys h)) ∙ w
