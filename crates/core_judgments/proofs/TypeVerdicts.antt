-- Each rule of types has exactly one conclusion or exactly one refusal.
-- Main results: one_arrow, one_applied, one_record_type.
use Rattle.std.specs.Prelude.{List, [], ◌∷◌, ◌≡◌, ◌≢◌}
use Rattle.std.proofs.Math.Path.{refl, subst, ap, ◌∙◌}
use Rattle.omega_kinds.specs.Kind.{Kind, Kind-discrete}
use Rattle.omega_kinds.specs.declared.label.Label.{Label}
use Rattle.omega_kinds.specs.Name.{Name}
use Rattle.omega_types.specs.Ty.{Ty, Row}
use Rattle.omega_types.specs.Kinding.{HasKind}
use Rattle.omega_types.specs.Kinding.HasKind.{k_apply}
use Rattle.omega_types.specs.Normalises.{NormalForm}
use Rattle.omega_types.proofs.Hereditary.{each_has_one}
use Rattle.sig_definitions.specs.Verdict.{Verdict, holds, refuses}
use Rattle.sig_definitions.specs.Signatures.RecordOrder.{insert_part, IsNew}
use Rattle.sig_laws.proofs.Formed.Forms.{new_dec, pair-same}
use Rattle.core_judgments.proofs.Equal.{equal}
use Rattle.core_judgments.specs.CoreWhy.{CoreWhy, KindDiffer, NotOperator, DuplicateField}
use Rattle.core_judgments.specs.TypeRules.{Base, BaseGives, ArrowGives, ArrowRefuses, AllGives, AllRefuses, OperatorGives, AppliedGives, AppliedRefuses, FieldTy, field, RecordTypeGives, RecordTypeRefuses}
use Rattle.core_judgments.specs.OneOutcome.{OneBase, OneArrow, OneAll, OneOperator, OneApplied, OneRecordType}

base-int : (o : Ty × Kind) → BaseGives Base.Int o.0 o.1 → o ≡ (Ty.Int, Kind.Star)
base-int _ BaseGives.int = refl

base-bool : (o : Ty × Kind) → BaseGives Base.Bool o.0 o.1 → o ≡ (Ty.Bool, Kind.Star)
base-bool _ BaseGives.bool = refl

base-text : (o : Ty × Kind) → BaseGives Base.Text o.0 o.1 → o ≡ (Ty.Text, Kind.Star)
base-text _ BaseGives.text = refl

-- the rule of base types has exactly one conclusion
pub one_base : OneBase
one_base Base.Int = holds (Ty.Int, Kind.Star) BaseGives.int base-int (λ r q. q)
one_base Base.Bool = holds (Ty.Bool, Kind.Star) BaseGives.bool base-bool (λ r q. q)
one_base Base.Text = holds (Ty.Text, Kind.Star) BaseGives.text base-text (λ r q. q)

arrow-only : {t u : Ty} (o : Ty × Kind) → ArrowGives t Kind.Star u Kind.Star o.0 o.1 → o ≡ (Ty.Arrow t u, Kind.Star)
arrow-only _ ArrowGives.arrow = refl

arrow-never : {t u : Ty} {why : CoreWhy} → ArrowRefuses t Kind.Star u Kind.Star why → ⊥
arrow-never (ArrowRefuses.from_kind n) = n refl
arrow-never (ArrowRefuses.to_kind n) = n refl

arrow-from : {t u : Ty} {k j : Kind} {why : CoreWhy} → k ≢ Kind.Star → ArrowRefuses t k u j why → why ≡ KindDiffer k Kind.Star
arrow-from n (ArrowRefuses.from_kind m) = refl
arrow-from n (ArrowRefuses.to_kind m) = absurd (n refl)

arrow-to : {t u : Ty} {j : Kind} {why : CoreWhy} → ArrowRefuses t Kind.Star u j why → why ≡ KindDiffer j Kind.Star
arrow-to (ArrowRefuses.from_kind n) = absurd (n refl)
arrow-to (ArrowRefuses.to_kind n) = refl

arrow-kinds : {t u v : Ty} {k j l : Kind} → ArrowGives t k u j v l → (k ≡ Kind.Star) × (j ≡ Kind.Star)
arrow-kinds ArrowGives.arrow = (refl, refl)

-- the rule of function types has exactly one conclusion or one refusal
pub one_arrow : OneArrow
one_arrow t k u j =
    equal (λ k (o : Ty × Kind). ArrowGives t k u j o.0 o.1) (λ k. ArrowRefuses t k u j) (KindDiffer k Kind.Star) (Kind-discrete k Kind.Star)
    (λ e. equal (λ j (o : Ty × Kind). ArrowGives t Kind.Star u j o.0 o.1) (ArrowRefuses t Kind.Star u) (KindDiffer j Kind.Star) (Kind-discrete j Kind.Star) (λ f. holds (Ty.Arrow t u, Kind.Star) ArrowGives.arrow arrow-only (λ r q. arrow-never q)) ArrowRefuses.to_kind (λ n q h. arrow-to h) (λ o g. (arrow-kinds g).1))
    ArrowRefuses.from_kind (λ n q h. arrow-from n h) (λ o g. (arrow-kinds g).0)

all-only : {k : Kind} {t : Ty} (o : Ty × Kind) → AllGives k t Kind.Star o.0 o.1 → o ≡ (Ty.All k t, Kind.Star)
all-only _ AllGives.all = refl

all-never : {k : Kind} {t : Ty} {why : CoreWhy} → AllRefuses k t Kind.Star why → ⊥
all-never (AllRefuses.body_kind n) = n refl

all-same : {k j : Kind} {t : Ty} {why : CoreWhy} → AllRefuses k t j why → why ≡ KindDiffer j Kind.Star
all-same (AllRefuses.body_kind n) = refl

all-kinds : {k j l : Kind} {t v : Ty} → AllGives k t j v l → j ≡ Kind.Star
all-kinds AllGives.all = refl

-- the rule of universally quantified types has exactly one conclusion or one refusal
pub one_all : OneAll
one_all k t j = equal (λ j (o : Ty × Kind). AllGives k t j o.0 o.1) (AllRefuses k t) (KindDiffer j Kind.Star) (Kind-discrete j Kind.Star) (λ e. holds (Ty.All k t, Kind.Star) AllGives.all all-only (λ r q. all-never q)) AllRefuses.body_kind (λ n q h. all-same h) (λ o g. all-kinds g)

operator-only : {k j : Kind} {t : Ty} (o : Ty × Kind) → OperatorGives k t j o.0 o.1 → o ≡ (Ty.Lam k t, Kind.Arrow k j)
operator-only _ OperatorGives.operator = refl

-- the rule of type functions has exactly one conclusion
pub one_operator : OneOperator
one_operator k t j = holds (Ty.Lam k t, Kind.Arrow k j) OperatorGives.operator operator-only (λ r q. q)

applied-view : {ctx : List Kind} {t u : Ty} {k j l : Kind} (o : Ty × Kind) → AppliedGives ctx t (Kind.Arrow k j) u l o.0 o.1 → NormalForm ctx (Ty.Apply t u) j o.0 × (o.1 ≡ j)
applied-view _ (AppliedGives.applied n) = (n, refl)

applied-never : {t u : Ty} {k j : Kind} {why : CoreWhy} → AppliedRefuses t (Kind.Arrow k j) u k why → ⊥
applied-never (AppliedRefuses.arg_kind n) = n refl

applied-same : {t u : Ty} {k j l : Kind} {why : CoreWhy} → AppliedRefuses t (Kind.Arrow k j) u l why → why ≡ KindDiffer l k
applied-same (AppliedRefuses.arg_kind n) = refl

applied-kind : {ctx : List Kind} {t u v : Ty} {k j l i : Kind} → AppliedGives ctx t (Kind.Arrow k j) u l v i → l ≡ k
applied-kind (AppliedGives.applied n) = refl

no_operator-same : {t u : Ty} {l : Kind} {why : CoreWhy} → AppliedRefuses t Kind.Star u l why → why ≡ NotOperator
no_operator-same AppliedRefuses.no_operator = refl

no_operator-never : {ctx : List Kind} {t u v : Ty} {l i : Kind} → AppliedGives ctx t Kind.Star u l v i → ⊥
no_operator-never g = elim g [ ]

-- the rule of applications has exactly one conclusion or one refusal
pub one_applied : OneApplied
one_applied ctx t Kind.Star u l h g = refuses NotOperator AppliedRefuses.no_operator (λ q r. no_operator-same r) (λ o r. no_operator-never r)
one_applied ctx t (Kind.Arrow k j) u l h g =
    equal (λ l (o : Ty × Kind). AppliedGives ctx t (Kind.Arrow k j) u l o.0 o.1) (AppliedRefuses t (Kind.Arrow k j) u) (KindDiffer l k) (Kind-discrete l k)
    (λ e.
    let v = each_has_one ctx (Ty.Apply t u) j (k_apply h (subst (λ i. HasKind ctx u i) e g)) in
    holds (v.0, j) (AppliedGives.applied v.1) (λ o r. let w = applied-view o r in pair-same o (v.2 o.0 w.0) w.1) (λ r q. applied-never q))
    AppliedRefuses.arg_kind (λ n q r. applied-same r) (λ o r. applied-kind r)

-- record types

record-end : {before : List Name} (row : Row) → RecordTypeGives before [] row → row ≡ Row.End
record-end _ RecordTypeGives.no_fields = refl

record-end-never : {before : List Name} {why : CoreWhy} → RecordTypeRefuses before [] why → ⊥
record-end-never r = elim r [ ]

record-view : {before : List Name} {l : Name} {t : Ty} {k : Kind} {rest : List FieldTy} {row : Row} → RecordTypeGives before (field l t k ∷ rest) row → IsNew l before × (k ≡ Kind.Star) × ((q : Row) × RecordTypeGives (l ∷ before) rest q × (row ≡ insert_part (Label.Name l) t q))
record-view (RecordTypeGives.next_field {row = row} n r) = (n, refl, (row, r, refl))

record-again : {before : List Name} {l : Name} {t : Ty} {k : Kind} {rest : List FieldTy} {why : CoreWhy} → (IsNew l before → ⊥) → RecordTypeRefuses before (field l t k ∷ rest) why → why ≡ DuplicateField l
record-again n (RecordTypeRefuses.name_again m) = refl
record-again n (RecordTypeRefuses.field_kind m d) = absurd (n m)
record-again n (RecordTypeRefuses.later_field m r) = absurd (n m)

record-kind : {before : List Name} {l : Name} {t : Ty} {k : Kind} {rest : List FieldTy} {why : CoreWhy} → IsNew l before → k ≢ Kind.Star → RecordTypeRefuses before (field l t k ∷ rest) why → why ≡ KindDiffer k Kind.Star
record-kind h n (RecordTypeRefuses.name_again m) = absurd (m h)
record-kind h n (RecordTypeRefuses.field_kind m d) = refl
record-kind h n (RecordTypeRefuses.later_field m r) = absurd (n refl)

record-later : {before : List Name} {l : Name} {t : Ty} {rest : List FieldTy} {why : CoreWhy} → IsNew l before → RecordTypeRefuses before (field l t Kind.Star ∷ rest) why → RecordTypeRefuses (l ∷ before) rest why
record-later h (RecordTypeRefuses.name_again m) = absurd (m h)
record-later h (RecordTypeRefuses.field_kind m d) = absurd (d refl)
record-later h (RecordTypeRefuses.later_field m r) = r

-- the rule of record types has exactly one conclusion or one refusal
pub one_record_type : OneRecordType
one_record_type before [] = holds Row.End RecordTypeGives.no_fields record-end (λ r q. record-end-never q)
one_record_type before (field l t k ∷ rest) = go (new_dec l before) (Kind-discrete k Kind.Star) (one_record_type (l ∷ before) rest)
  where
    inner : IsNew l before → Verdict (RecordTypeGives (l ∷ before) rest) (RecordTypeRefuses (l ∷ before) rest) → Verdict (RecordTypeGives before (field l t Kind.Star ∷ rest)) (RecordTypeRefuses before (field l t Kind.Star ∷ rest))
    inner h (holds row p only never) = holds (insert_part (Label.Name l) t row) (RecordTypeGives.next_field h p) (λ q r. same q (record-view r)) (λ why q. never why (record-later h q))
      where
        same : (q : Row) → IsNew l before × (Kind.Star ≡ Kind.Star) × ((p : Row) × RecordTypeGives (l ∷ before) rest p × (q ≡ insert_part (Label.Name l) t p)) → q ≡ insert_part (Label.Name l) t row
        same q v = v.2.2 ∙ ap (insert_part (Label.Name l) t) (only v.2.0 v.2.1)
    inner h (refuses why q only never) = refuses why (RecordTypeRefuses.later_field h q) (λ w r. only w (record-later h r)) (λ row r. let v = record-view r in never v.2.0 v.2.1)

    go : Dec (IsNew l before) → Dec (k ≡ Kind.Star) → Verdict (RecordTypeGives (l ∷ before) rest) (RecordTypeRefuses (l ∷ before) rest) → Verdict (RecordTypeGives before (field l t k ∷ rest)) (RecordTypeRefuses before (field l t k ∷ rest))
    go (no n) d later = refuses (DuplicateField l) (RecordTypeRefuses.name_again n) (λ q r. record-again n r) (λ row r. n (record-view r).0)
    go (yes h) d later =
        equal (λ k. RecordTypeGives before (field l t k ∷ rest)) (λ k. RecordTypeRefuses before (field l t k ∷ rest)) (KindDiffer k Kind.Star) d (λ e. inner h later)
        (RecordTypeRefuses.field_kind h) (λ n q r. record-kind h n r) (λ row r. (record-view r).1)
