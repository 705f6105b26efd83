-- Fields and labels one after the other: those that are done, and those that are left.
-- Main results: record_type-means, sum_type-means, record-means, record-rule.
use Rattle.std.proofs.Common.{◌≡◌, List, [], ◌∷◌, ◌++◌, map, reverse, refl, sym, ap, ◌∙◌, subst}
use Rattle.std.proofs.lemmas.List.{map-append, reverse-append, append-nil}
use Rattle.omega_kinds.specs.Kind.{Kind}
use Rattle.omega_kinds.specs.Name.{Name}
use Rattle.omega_kinds.specs.View.{kind_tree}
use Rattle.omega_types.specs.Ty.{Ty}
use Rattle.omega_terms.specs.Term.{Term}
use Rattle.sig_definitions.specs.Env.{Env}
use Rattle.sig_definitions.specs.Signatures.RecordOrder.{IsNew}
use Rattle.semantic_sigs.specs.declared.made.Kinded.{Kinded}
use Rattle.semantic_sigs.specs.declared.made.Typed.{Typed}
use Rattle.fing_syntax.specs.Phrase.{Span, SpanName, TyEx, TyAt, TyFields, TySum, FieldTyExs, NoFieldTys, MoreFieldTys, Exp, ExpAt, ExpFields, FieldExps, NoFieldExps, MoreFieldExps}
use Rattle.fing_syntax.specs.Place.{name_of}
use Rattle.core_rules.specs.Inner.Records.{type_fields, exp_fields, RecordTypeIs, SumTypeIs, RecordIs}
use Rattle.core_judgments.specs.TypeRules.{FieldTy, RecordTypeGives, RecordTypeRefuses}
use Rattle.core_judgments.specs.ExpRules.{FieldExp, RecordGives, RecordRefuses}
use Rattle.elab_judgments.specs.Judgments.Meaning.{TyMeans, FieldTysMean, ExpMeans, FieldExpsMean}
use Rattle.elab_judgments.specs.Refusals.Refusal.{of_core}
use Rattle.elab_judgments.specs.Refusals.Task.{a_type, an_exp, type_fields as type_task, fields as exp_task}
use Rattle.fing_refusals.specs.declared.refusal.Refusal.{Refusal as CodeRefusal}
use Rattle.elab_rules.specs.Inner.Answered.{RefusedAs, ByRule}
use Rattle.elab_rules.specs.Inner.Fields.{names_before}
use Rattle.elab_rules.proofs.Refuse.Types.{ty_fields-parts, ty_fields-rule, ty_field-later, ty_sum-parts, ty_sum-rule}
use Rattle.elab_rules.proofs.Refuse.Expressions.{exp_fields-parts, exp_fields-rule, exp_field-later}

-- with one more field done, its name comes first of the names before
pub names-more : {A : Type 0} (done : List (Name × A)) (x : Name × A) → names_before (done ++ (x ∷ [])) ≡ x.0 ∷ names_before done
names-more done x = ap reverse (map-append (λ y. y.0) done (x ∷ [])) ∙ reverse-append (map (λ y. y.0) done) (x.0 ∷ [])

-- fields of types

types-more : (done : List (Name × Kinded)) (x : Name × Kinded) (parts : List FieldTy) → type_fields (done ++ (x ∷ [])) ++ parts ≡ type_fields done ++ (FieldTy.field x.0 x.1.ty (kind_tree x.1.kind) ∷ parts)
types-more [] x parts = refl
types-more (y ∷ done) x parts = ap (λ fs. FieldTy.field y.0 y.1.ty (kind_tree y.1.kind) ∷ fs) (types-more done x parts)

-- the fields that are left of a record type, and what those that are done grow to
abbrev pub TypesLeft : Env → List (Name × Kinded) → FieldTyExs → List (Name × Kinded) → Type 0
TypesLeft g done fields all = (parts : List FieldTy) × FieldTysMean g (names_before done) fields parts × (type_fields all ≡ type_fields done ++ parts)

-- where no fields of a record type are left, those that are done are all
pub types-none : (g : Env) (done : List (Name × Kinded)) → TypesLeft g done NoFieldTys done
types-none g done = ([], FieldTysMean.no_field_tys, sym (append-nil (type_fields done)))

-- one more field of a record type is done, and those that are left grow to the same fields
pub types-next : {g : Env} {x : SpanName} {a : TyEx} {rest : FieldTyExs} (done more all : List (Name × Kinded)) (part : Kinded)
    → IsNew (name_of x) (names_before done)
    → TyMeans g a part.ty Kind.Star
    → kind_tree part.kind ≡ Kind.Star
    → more ≡ done ++ ((name_of x, part) ∷ [])
    → TypesLeft g more rest all
    → TypesLeft g done (MoreFieldTys x a rest) all
types-next {g} {x} {a} {rest} done more all part n m s e w =
    let f : FieldTysMean g (name_of x ∷ names_before done) rest w.0 = subst (λ ls. FieldTysMean g ls rest w.0) (ap names_before e ∙ names-more done (name_of x, part)) w.1 in
    let q : type_fields more ++ w.0 ≡ type_fields done ++ (FieldTy.field (name_of x) part.ty Kind.Star ∷ w.0) = rw e (types-more done (name_of x, part) w.0 ∙ ap (λ k. type_fields done ++ (FieldTy.field (name_of x) part.ty k ∷ w.0)) s) in
    (FieldTy.field (name_of x) part.ty Kind.Star ∷ w.0, FieldTysMean.next_field_ty n m f, w.2 ∙ q)

-- where the fields of a record type after the next one are refused, those that are left are
pub types-later : {g : Env} {x : SpanName} {a : TyEx} {rest : FieldTyExs} {e : CodeRefusal} (done more : List (Name × Kinded)) (part : Kinded)
    → IsNew (name_of x) (names_before done)
    → TyMeans g a part.ty Kind.Star
    → more ≡ done ++ ((name_of x, part) ∷ [])
    → RefusedAs g (type_task (names_before more) rest) e
    → RefusedAs g (type_task (names_before done) (MoreFieldTys x a rest)) e
types-later {g} {x} {rest = rest} {e = e} done more part n m q r =
    ty_field-later n m (subst (λ ls. RefusedAs g (type_task ls rest) e) (ap names_before q ∙ names-more done (name_of x, part)) r)

-- a record type whose fields are all done means what its rule gives
pub record_type-means : {g : Env} {at : Span} {fields : FieldTyExs} {t : Ty} {k : Kind} (start all : List (Name × Kinded))
    → start ≡ []
    → TypesLeft g start fields all
    → RecordTypeIs (type_fields all) t k
    → TyMeans g (TyAt at (TyFields fields)) t k
record_type-means {g} {at} {fields} {t} {k} start all s w r =
    let m : FieldTysMean g [] fields w.0 = subst (λ d. FieldTysMean g (names_before d) fields w.0) s w.1 in
    let q : type_fields all ≡ w.0 = w.2 ∙ ap (λ d. type_fields d ++ w.0) s in
    let v : RecordTypeGives [] w.0 r.0 = subst (λ fs. RecordTypeGives [] fs r.0) q r.3 in
    subst (λ u. TyMeans g (TyAt at (TyFields fields)) u k) (sym r.1) (subst (λ j. TyMeans g (TyAt at (TyFields fields)) (Ty.Fields r.0) j) (sym r.2) (TyMeans.ty_fields m v))

-- a record type is refused as its fields, from the first one on
pub record_type-parts : {g : Env} {at : Span} {fields : FieldTyExs} {e : CodeRefusal} (start : List (Name × Kinded))
    → start ≡ []
    → RefusedAs g (type_task (names_before start) fields) e
    → RefusedAs g (a_type (TyAt at (TyFields fields))) e
record_type-parts {g} {fields = fields} {e = e} start s r = ty_fields-parts (subst (λ d. RefusedAs g (type_task (names_before d) fields) e) s r)

-- a record type whose fields are all done is refused by its rule
pub record_type-rule : {g : Env} {at : Span} {fields : FieldTyExs} {e : CodeRefusal} (start all : List (Name × Kinded))
    → start ≡ []
    → TypesLeft g start fields all
    → ByRule of_core g at (RecordTypeRefuses [] (type_fields all)) e
    → RefusedAs g (a_type (TyAt at (TyFields fields))) e
record_type-rule {g} {at} {fields} {e} start all s w r =
    let m : FieldTysMean g [] fields w.0 = subst (λ d. FieldTysMean g (names_before d) fields w.0) s w.1 in
    ty_fields-rule m (subst (λ fs. ByRule of_core g at (RecordTypeRefuses [] fs) e) (w.2 ∙ ap (λ d. type_fields d ++ w.0) s) r)

-- a sum type whose alternatives are all done means what its rule gives
pub sum_type-means : {g : Env} {at : Span} {labels : FieldTyExs} {t : Ty} {k : Kind} (start all : List (Name × Kinded))
    → start ≡ []
    → TypesLeft g start labels all
    → SumTypeIs (type_fields all) t k
    → TyMeans g (TyAt at (TySum labels)) t k
sum_type-means {g} {at} {labels} {t} {k} start all s w r =
    let m : FieldTysMean g [] labels w.0 = subst (λ d. FieldTysMean g (names_before d) labels w.0) s w.1 in
    let q : type_fields all ≡ w.0 = w.2 ∙ ap (λ d. type_fields d ++ w.0) s in
    let v : RecordTypeGives [] w.0 r.0 = subst (λ fs. RecordTypeGives [] fs r.0) q r.3 in
    subst (λ u. TyMeans g (TyAt at (TySum labels)) u k) (sym r.1) (subst (λ j. TyMeans g (TyAt at (TySum labels)) (Ty.Sum r.0) j) (sym r.2) (TyMeans.ty_sum m v))

-- a sum type is refused as its alternatives, from the first one on
pub sum_type-parts : {g : Env} {at : Span} {labels : FieldTyExs} {e : CodeRefusal} (start : List (Name × Kinded))
    → start ≡ []
    → RefusedAs g (type_task (names_before start) labels) e
    → RefusedAs g (a_type (TyAt at (TySum labels))) e
sum_type-parts {g} {labels = labels} {e = e} start s r = ty_sum-parts (subst (λ d. RefusedAs g (type_task (names_before d) labels) e) s r)

-- a sum type whose alternatives are all done is refused by its rule
pub sum_type-rule : {g : Env} {at : Span} {labels : FieldTyExs} {e : CodeRefusal} (start all : List (Name × Kinded))
    → start ≡ []
    → TypesLeft g start labels all
    → ByRule of_core g at (RecordTypeRefuses [] (type_fields all)) e
    → RefusedAs g (a_type (TyAt at (TySum labels))) e
sum_type-rule {g} {at} {labels} {e} start all s w r =
    let m : FieldTysMean g [] labels w.0 = subst (λ d. FieldTysMean g (names_before d) labels w.0) s w.1 in
    ty_sum-rule m (subst (λ fs. ByRule of_core g at (RecordTypeRefuses [] fs) e) (w.2 ∙ ap (λ d. type_fields d ++ w.0) s) r)

-- fields of expressions

-- one more field that is done is the first of those that are left
pub exps-more : (done : List (Name × Typed)) (x : Name × Typed) (parts : List FieldExp) → exp_fields (done ++ (x ∷ [])) ++ parts ≡ exp_fields done ++ (FieldExp.field x.0 x.1.ty x.1.term ∷ parts)
exps-more [] x parts = refl
exps-more (y ∷ done) x parts = ap (λ fs. FieldExp.field y.0 y.1.ty y.1.term ∷ fs) (exps-more done x parts)

-- the fields that are left of a record, and what those that are done grow to
abbrev pub ExpsLeft : Env → List (Name × Typed) → FieldExps → List (Name × Typed) → Type 0
ExpsLeft g done fields all = (parts : List FieldExp) × FieldExpsMean g (names_before done) fields parts × (exp_fields all ≡ exp_fields done ++ parts)

-- where no fields of a record are left, those that are done are all
pub exps-none : (g : Env) (done : List (Name × Typed)) → ExpsLeft g done NoFieldExps done
exps-none g done = ([], FieldExpsMean.no_field_exps, sym (append-nil (exp_fields done)))

-- one more field of a record is done, and those that are left grow to the same fields
pub exps-next : {g : Env} {x : SpanName} {a : Exp} {rest : FieldExps} (done more all : List (Name × Typed)) (part : Typed)
    → IsNew (name_of x) (names_before done)
    → ExpMeans g a part.ty part.term
    → more ≡ done ++ ((name_of x, part) ∷ [])
    → ExpsLeft g more rest all
    → ExpsLeft g done (MoreFieldExps x a rest) all
exps-next {g} {x} {a} {rest} done more all part n m e w =
    let f : FieldExpsMean g (name_of x ∷ names_before done) rest w.0 = subst (λ ls. FieldExpsMean g ls rest w.0) (ap names_before e ∙ names-more done (name_of x, part)) w.1 in
    let q : exp_fields more ++ w.0 ≡ exp_fields done ++ (FieldExp.field (name_of x) part.ty part.term ∷ w.0) = rw e (exps-more done (name_of x, part) w.0) in
    (FieldExp.field (name_of x) part.ty part.term ∷ w.0, FieldExpsMean.next_field_exp n m f, w.2 ∙ q)

-- where the fields of a record after the next one are refused, those that are left are
pub exps-later : {g : Env} {x : SpanName} {a : Exp} {rest : FieldExps} {e : CodeRefusal} (done more : List (Name × Typed)) (part : Typed)
    → IsNew (name_of x) (names_before done)
    → ExpMeans g a part.ty part.term
    → more ≡ done ++ ((name_of x, part) ∷ [])
    → RefusedAs g (exp_task (names_before more) rest) e
    → RefusedAs g (exp_task (names_before done) (MoreFieldExps x a rest)) e
exps-later {g} {x} {rest = rest} {e = e} done more part n m q r =
    exp_field-later n m (subst (λ ls. RefusedAs g (exp_task ls rest) e) (ap names_before q ∙ names-more done (name_of x, part)) r)

-- a record whose fields are all done means what its rule gives
pub record-means : {g : Env} {at : Span} {fields : FieldExps} {t : Ty} {d : Term} (start all : List (Name × Typed))
    → start ≡ []
    → ExpsLeft g start fields all
    → RecordIs (exp_fields all) t d
    → ExpMeans g (ExpAt at (ExpFields fields)) t d
record-means {g} {at} {fields} {t} {d} start all s w r =
    let m : FieldExpsMean g [] fields w.0 = subst (λ x. FieldExpsMean g (names_before x) fields w.0) s w.1 in
    let q : exp_fields all ≡ w.0 = w.2 ∙ ap (λ x. exp_fields x ++ w.0) s in
    let v : RecordGives [] w.0 r.0 r.1 = subst (λ fs. RecordGives [] fs r.0 r.1) q r.4 in
    subst (λ u. ExpMeans g (ExpAt at (ExpFields fields)) u d) (sym r.2) (subst (λ j. ExpMeans g (ExpAt at (ExpFields fields)) (Ty.Fields r.0) j) (sym r.3) (ExpMeans.exp_fields m v))

-- a record is refused as its fields, from the first one on
pub record-parts : {g : Env} {at : Span} {fields : FieldExps} {e : CodeRefusal} (start : List (Name × Typed))
    → start ≡ []
    → RefusedAs g (exp_task (names_before start) fields) e
    → RefusedAs g (an_exp (ExpAt at (ExpFields fields))) e
record-parts {g} {fields = fields} {e = e} start s r = exp_fields-parts (subst (λ d. RefusedAs g (exp_task (names_before d) fields) e) s r)

-- a record whose fields are all done is refused by its rule
pub record-rule : {g : Env} {at : Span} {fields : FieldExps} {e : CodeRefusal} (start all : List (Name × Typed))
    → start ≡ []
    → ExpsLeft g start fields all
    → ByRule of_core g at (RecordRefuses [] (exp_fields all)) e
    → RefusedAs g (an_exp (ExpAt at (ExpFields fields))) e
record-rule {g} {at} {fields} {e} start all s w r =
    let m : FieldExpsMean g [] fields w.0 = subst (λ d. FieldExpsMean g (names_before d) fields w.0) s w.1 in
    exp_fields-rule m (subst (λ fs. ByRule of_core g at (RecordRefuses [] fs) e) (w.2 ∙ ap (λ d. exp_fields d ++ w.0) s) r)
