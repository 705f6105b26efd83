-- The fields of a record one after the other.
-- Main results: types-next, types-end, exps-next, exps-end.
use Rattle.std.proofs.Common.{◌≡◌, ◌≢◌, ℕ, ◌≤◌, List, [], ◌∷◌, ◌++◌, true, false, Option, Some, None, is_some, length, drop, refl, sym, ap, ◌∙◌, subst}
use Rattle.std.proofs.lemmas.Bool.{false≢true}
use Rattle.std.proofs.lemmas.List.{drop_all}
use Rattle.std.specs.BTreeMap.{insert_entry}
use Rattle.std.specs.List.Sorted.{IsStrictlySortedBy}
use Rattle.std.specs.Map.{keys_of}
use Rattle.std.specs.Ordering.{is_lt}
use Rattle.omega_kinds.specs.Kind.{Kind}
use Rattle.omega_kinds.specs.declared.label.Label.{Label}
use Rattle.omega_kinds.specs.Name.{Name}
use Rattle.omega_kinds.specs.LabelOrder.{name_cmp}
use Rattle.omega_kinds.specs.View.{kind_tree}
use Rattle.omega_types.specs.Ty.{Ty, Row}
use Rattle.omega_types.specs.Fields.{row, Rises, MayFollow}
use Rattle.omega_terms.specs.Term.{TermRow}
use Rattle.omega_terms.specs.Fields.{term_row}
use Rattle.sig_definitions.specs.Signatures.RecordOrder.{insert_part, insert_term}
use Rattle.semantic_sigs.specs.declared.made.Kinded.{Kinded}
use Rattle.semantic_sigs.specs.declared.made.Typed.{Typed}
use Rattle.core_judgments.specs.CoreWhy.{CoreWhy, KindDiffer, DuplicateField}
use Rattle.core_judgments.specs.TypeRules.{FieldTy, RecordTypeGives, RecordTypeRefuses}
use Rattle.core_judgments.specs.TypeRules.FieldTy.{field as field_ty}
use Rattle.core_judgments.specs.ExpRules.{FieldExp, RecordGives, RecordRefuses}
use Rattle.core_judgments.specs.ExpRules.FieldExp.{field as field_exp}
use Rattle.core_rules.specs.Inner.Records.{type_fields, exp_fields, labelled}
use Rattle.core_rules.proofs.Entries.{at_name, Seen, none, more, none-new, new-none, type_rows, term_rows, type_put, term_put, type-push, term-push, type-seen, term-seen}

-- the map's answer

-- an option without a value is none
pub none-is : {A : Type 0} (o : Option A) → is_some o ≡ false → o ≡ None
none-is None e = refl
none-is (Some x) e = absurd (false≢true (sym e))

-- an option with a value is not none
pub some-is : {A : Type 0} (o : Option A) → is_some o ≡ true → o ≡ None → ⊥
some-is None e f = false≢true e
some-is (Some x) e f = absurd (let g : Some x ≡ None → ⊥ = λ p. cc in g f)

-- what is left of a list at one place

-- nothing is left of a list from its length on
pub left-none : {A : Type 0} (xs : List A) (i : ℕ) → length xs ≤ i → drop i xs ≡ []
left-none xs i h = drop_all i xs h

-- record types

abbrev pub of_values : List (Name × Ty) → List FieldTy
of_values [] = []
of_values (x ∷ xs) = field_ty x.0 x.1 Kind.Star ∷ of_values xs

values-push : (xs : List (Name × Ty)) (x : Name × Ty) (rest : List FieldTy) → of_values (xs ++ x ∷ []) ++ rest ≡ of_values xs ++ (field_ty x.0 x.1 Kind.Star ∷ rest)
values-push [] x rest = refl
values-push (y ∷ xs) x rest = ap (λ ys. field_ty y.0 y.1 Kind.Star ∷ ys) (values-push xs x rest)

types-give : {xs : List (Name × Ty)} {before : List Name} {es : List (Name × Ty)} (rest : List FieldTy) (r : Row) → Seen xs before es → RecordTypeGives before rest r → RecordTypeGives [] (of_values xs ++ rest) (type_put (λ t. t) xs r)
types-give rest r none g = g
types-give rest r (more xs es l a s n) g =
    let whole = types-give (field_ty l a Kind.Star ∷ rest) (insert_part (Label.Name l) a r) s (RecordTypeGives.next_field n g) in
    subst (λ ys. RecordTypeGives [] ys (type_put (λ t. t) (xs ++ (l, a) ∷ []) r)) (sym (values-push xs (l, a) rest)) (subst (λ q. RecordTypeGives [] (of_values xs ++ (field_ty l a Kind.Star ∷ rest)) q) (sym (type-push (λ t. t) xs (l, a) r)) whole)

types-refuse : {xs : List (Name × Ty)} {before : List Name} {es : List (Name × Ty)} (rest : List FieldTy) (why : CoreWhy) → Seen xs before es → RecordTypeRefuses before rest why → RecordTypeRefuses [] (of_values xs ++ rest) why
types-refuse rest why none g = g
types-refuse rest why (more xs es l a s n) g =
    subst (λ ys. RecordTypeRefuses [] ys why) (sym (values-push xs (l, a) rest)) (types-refuse (field_ty l a Kind.Star ∷ rest) why s (RecordTypeRefuses.later_field n g))

-- the map has the fields that came before the rest, all of them types of values of different names
abbrev pub TypesLeft : (whole rest : List (Name × Kinded)) → List (Name × Ty) → Type 0
TypesLeft whole rest es = (xs : List (Name × Ty)) × (before : List Name) × Seen xs before es × (type_fields whole ≡ of_values xs ++ type_fields rest)

-- before the first field, all fields of a record type are left
pub types-begin : (whole : List (Name × Kinded)) → TypesLeft whole whole []
types-begin whole = ([], [], none, refl)

-- one more field of a new name and of kind * is entered
pub types-next : (whole rest : List (Name × Kinded)) (x : Name × Kinded) (es : List (Name × Ty)) → is_some (at_name x.0 es) ≡ false → kind_tree x.1.kind ≡ Kind.Star → TypesLeft whole (x ∷ rest) es → TypesLeft whole rest (insert_entry name_cmp es x.0 x.1.ty)
types-next whole rest x es h k (xs, before, s, e) =
    (xs ++ (x.0, x.1.ty) ∷ [], x.0 ∷ before, more xs es x.0 x.1.ty s (none-new x.0 s (none-is (at_name x.0 es) h)), e ∙ (ap (λ j. of_values xs ++ (field_ty x.0 x.1.ty j ∷ type_fields rest)) k ∙ sym (values-push xs (x.0, x.1.ty) (type_fields rest))))

-- a field whose name is entered already is refused
pub types-again : (whole rest : List (Name × Kinded)) (x : Name × Kinded) (es : List (Name × Ty)) → is_some (at_name x.0 es) ≡ true → TypesLeft whole (x ∷ rest) es → RecordTypeRefuses [] (type_fields whole) (DuplicateField x.0)
types-again whole rest x es h (xs, before, s, e) =
    subst (λ ys. RecordTypeRefuses [] ys (DuplicateField x.0)) (sym e) (types-refuse (type_fields (x ∷ rest)) (DuplicateField x.0) s (RecordTypeRefuses.name_again (λ n. some-is (at_name x.0 es) h (new-none x.0 s n))))

-- a field of another kind than * is refused
pub types-kind : (whole rest : List (Name × Kinded)) (x : Name × Kinded) (es : List (Name × Ty)) → is_some (at_name x.0 es) ≡ false → kind_tree x.1.kind ≢ Kind.Star → TypesLeft whole (x ∷ rest) es → RecordTypeRefuses [] (type_fields whole) (KindDiffer (kind_tree x.1.kind) Kind.Star)
types-kind whole rest x es h k (xs, before, s, e) =
    subst (λ ys. RecordTypeRefuses [] ys (KindDiffer (kind_tree x.1.kind) Kind.Star)) (sym e) (types-refuse (type_fields (x ∷ rest)) (KindDiffer (kind_tree x.1.kind) Kind.Star) s (RecordTypeRefuses.field_kind (none-new x.0 s (none-is (at_name x.0 es) h)) k))

labelled-rows : (es : List (Name × Ty)) → type_rows (λ t. t) es ≡ row (labelled (λ t. t) es)
labelled-rows [] = refl
labelled-rows (x ∷ es) = ap (Row.More (Label.Name x.0) x.1) (labelled-rows es)

-- when no fields are left, the entries make the record type
pub types-end : (whole : List (Name × Kinded)) (es : List (Name × Ty)) → TypesLeft whole [] es → RecordTypeGives [] (type_fields whole) (row (labelled (λ t. t) es))
types-end whole es (xs, before, s, e) =
    let given = types-give [] Row.End s RecordTypeGives.no_fields in
    subst (λ ys. RecordTypeGives [] ys (row (labelled (λ t. t) es))) (sym e) (subst (λ r. RecordTypeGives [] (of_values xs ++ []) r) (sym (type-seen (λ t. t) s) ∙ labelled-rows es) given)

-- records

-- one more field that is done is the first of those that are left
pub exps-push : (xs : List (Name × Typed)) (x : Name × Typed) (rest : List FieldExp) → exp_fields (xs ++ x ∷ []) ++ rest ≡ exp_fields xs ++ (field_exp x.0 x.1.ty x.1.term ∷ rest)
exps-push [] x rest = refl
exps-push (y ∷ xs) x rest = ap (λ ys. field_exp y.0 y.1.ty y.1.term ∷ ys) (exps-push xs x rest)

exps-give : {xs : List (Name × Typed)} {before : List Name} {es : List (Name × Typed)} (rest : List FieldExp) (r : Row) (q : TermRow) → Seen xs before es → RecordGives before rest r q → RecordGives [] (exp_fields xs ++ rest) (type_put (λ e. e.ty) xs r) (term_put (λ e. e.term) xs q)
exps-give rest r q none g = g
exps-give rest r q (more xs es l a s n) g =
    let whole = exps-give (field_exp l a.ty a.term ∷ rest) (insert_part (Label.Name l) a.ty r) (insert_term (Label.Name l) a.term q) s (RecordGives.next_field n g) in
    let typed = subst (λ p. RecordGives [] (exp_fields xs ++ (field_exp l a.ty a.term ∷ rest)) p (term_put (λ e. e.term) xs (insert_term (Label.Name l) a.term q))) (sym (type-push (λ e. e.ty) xs (l, a) r)) whole in
    let both = subst (λ p. RecordGives [] (exp_fields xs ++ (field_exp l a.ty a.term ∷ rest)) (type_put (λ e. e.ty) (xs ++ (l, a) ∷ []) r) p) (sym (term-push (λ e. e.term) xs (l, a) q)) typed in
    subst (λ ys. RecordGives [] ys (type_put (λ e. e.ty) (xs ++ (l, a) ∷ []) r) (term_put (λ e. e.term) (xs ++ (l, a) ∷ []) q)) (sym (exps-push xs (l, a) rest)) both

exps-refuse : {xs : List (Name × Typed)} {before : List Name} {es : List (Name × Typed)} (rest : List FieldExp) (why : CoreWhy) → Seen xs before es → RecordRefuses before rest why → RecordRefuses [] (exp_fields xs ++ rest) why
exps-refuse rest why none g = g
exps-refuse rest why (more xs es l a s n) g =
    subst (λ ys. RecordRefuses [] ys why) (sym (exps-push xs (l, a) rest)) (exps-refuse (field_exp l a.ty a.term ∷ rest) why s (RecordRefuses.later_field n g))

-- the map has the fields that came before the rest, all of different names
abbrev pub ExpsLeft : (whole rest : List (Name × Typed)) → List (Name × Typed) → Type 0
ExpsLeft whole rest es = (xs : List (Name × Typed)) × (before : List Name) × Seen xs before es × (exp_fields whole ≡ exp_fields xs ++ exp_fields rest)

-- before the first field, all fields of a record are left
pub exps-begin : (whole : List (Name × Typed)) → ExpsLeft whole whole []
exps-begin whole = ([], [], none, refl)

-- one more field of a new name is entered
pub exps-next : (whole rest : List (Name × Typed)) (x : Name × Typed) (es : List (Name × Typed)) → is_some (at_name x.0 es) ≡ false → ExpsLeft whole (x ∷ rest) es → ExpsLeft whole rest (insert_entry name_cmp es x.0 x.1)
exps-next whole rest x es h (xs, before, s, e) =
    (xs ++ x ∷ [], x.0 ∷ before, more xs es x.0 x.1 s (none-new x.0 s (none-is (at_name x.0 es) h)), e ∙ sym (exps-push xs x (exp_fields rest)))

-- a field whose name is entered already is refused
pub exps-again : (whole rest : List (Name × Typed)) (x : Name × Typed) (es : List (Name × Typed)) → is_some (at_name x.0 es) ≡ true → ExpsLeft whole (x ∷ rest) es → RecordRefuses [] (exp_fields whole) (DuplicateField x.0)
exps-again whole rest x es h (xs, before, s, e) =
    subst (λ ys. RecordRefuses [] ys (DuplicateField x.0)) (sym e) (exps-refuse (exp_fields (x ∷ rest)) (DuplicateField x.0) s (RecordRefuses.name_again (λ n. some-is (at_name x.0 es) h (new-none x.0 s n))))

types-rows : (es : List (Name × Typed)) → type_rows (λ e. e.ty) es ≡ row (labelled (λ e. e.ty) es)
types-rows [] = refl
types-rows (x ∷ es) = ap (Row.More (Label.Name x.0) x.1.ty) (types-rows es)

terms-rows : (es : List (Name × Typed)) → term_rows (λ e. e.term) es ≡ term_row (labelled (λ e. e.term) es)
terms-rows [] = refl
terms-rows (x ∷ es) = ap (TermRow.More (Label.Name x.0) x.1.term) (terms-rows es)

-- when no fields are left, the entries make the record
pub exps-end : (whole : List (Name × Typed)) (es : List (Name × Typed)) → ExpsLeft whole [] es → RecordGives [] (exp_fields whole) (row (labelled (λ e. e.ty) es)) (term_row (labelled (λ e. e.term) es))
exps-end whole es (xs, before, s, e) =
    let given = exps-give [] Row.End TermRow.End s RecordGives.no_fields in
    let typed = subst (λ r. RecordGives [] (exp_fields xs ++ []) r (term_put (λ x. x.term) xs TermRow.End)) (sym (type-seen (λ x. x.ty) s) ∙ types-rows es) given in
    let both = subst (λ q. RecordGives [] (exp_fields xs ++ []) (row (labelled (λ e. e.ty) es)) q) (sym (term-seen (λ x. x.term) s) ∙ terms-rows es) typed in
    subst (λ ys. RecordGives [] ys (row (labelled (λ e. e.ty) es)) (term_row (labelled (λ e. e.term) es))) (sym e) both

-- the labels of a map's entries rise

labels-rise : {A T : Type 0} (f : A → T) (es : List (Name × A)) → IsStrictlySortedBy name_cmp (keys_of es) → Rises (labelled f es)
unfolding IsStrictlySortedBy
labels-rise f [] h = tt
labels-rise f (x ∷ []) h = tt
labels-rise f (x ∷ y ∷ es) h = (ap is_lt h.0.0, labels-rise f (y ∷ es) h.1)

-- in fields that rise, the next label may follow those before it
pub follows-first : {T : Type 0} (done : List (Label × T)) (x : Label × T) (rest : List (Label × T)) → Rises (done ++ x ∷ rest) → MayFollow done x.0
follows-first [] x rest r = tt
follows-first (y ∷ []) x rest r = r.0
follows-first (y ∷ z ∷ done) x rest r = follows-first (z ∷ done) x rest r.1

-- the next entry's label may follow those that are done
pub entry-follows : {A T : Type 0} (f : A → T) (done : List (Label × T)) (all left rest : List (Name × A)) (x : Name × A) (l : Label) → IsStrictlySortedBy name_cmp (keys_of all) → done ++ labelled f left ≡ labelled f all → left ≡ x ∷ rest → l ≡ Label.Name x.0 → MayFollow done l
entry-follows f done all left rest x l sorted e first is =
    subst (MayFollow done) (sym is) (follows-first done (Label.Name x.0, f x.1) (labelled f rest) (subst Rises (sym (sym (ap (λ ys. done ++ labelled f ys) first) ∙ e)) (labels-rise f all sorted)))
