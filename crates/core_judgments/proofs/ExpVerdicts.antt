-- Each rule of expressions has exactly one conclusion or exactly one refusal.
-- Main results: one_call, one_instance, one_get, one_record.
use Rattle.std.specs.Prelude.{ℤ, Bool, List, [], ◌∷◌, ◌≡◌, ◌≢◌, ◌⊎◌}
use Rattle.std.proofs.Common.{inl, inr}
use Rattle.std.proofs.Math.Path.{refl, sym, subst, ap, ◌∙◌}
use Rattle.omega_kinds.specs.Kind.{Kind, Kind-discrete}
use Rattle.omega_kinds.specs.declared.label.Label.{Label}
use Rattle.omega_kinds.specs.Name.{Name}
use Rattle.omega_types.specs.Ty.{Ty, Row}
use Rattle.omega_types.specs.Kinding.{HasKind}
use Rattle.omega_types.specs.Substitution.{instantiate, single}
use Rattle.omega_types.specs.Normalises.{NormalForm}
use Rattle.omega_types.proofs.Hereditary.{each_has_one}
use Rattle.omega_types.proofs.Inverse.{all-kinds}
use Rattle.omega_types.proofs.Preservation.{kind-substitute, single-substitutes}
use Rattle.omega_terms.specs.declared.op.Op.{Op}
use Rattle.omega_terms.specs.Term.{Term, TermRow}
use Rattle.omega_terms.specs.Typing.{HasPart, result_type}
use Rattle.sig_definitions.specs.Verdict.{Verdict, holds, refuses, Perhaps, one, none}
use Rattle.sig_definitions.specs.Signatures.RecordOrder.{insert_part, insert_term, IsNew}
use Rattle.sig_laws.specs.Decide.{dec_ty}
use Rattle.sig_laws.proofs.Formed.Forms.{new_dec, part-at, pair-same}
use Rattle.core_judgments.proofs.Equal.{equal}
use Rattle.core_judgments.specs.CoreWhy.{CoreWhy, NotArrow, NotAll, NotRecord, NoField, Differ, KindDiffer, DuplicateField, IsNoArrow, IsNoAll, IsNoRecord}
use Rattle.core_judgments.specs.ExpRules.{Literal, LiteralGives, FunctionGives, FunctionRefuses, TypeFunctionGives, CallGives, CallRefuses, InstanceGives, InstanceRefuses, GetGives, GetRefuses, IfGives, IfRefuses, OperationGives, OperationRefuses, FixGives, FixRefuses, FieldExp, field, RecordGives, RecordRefuses}
use Rattle.core_judgments.specs.OneOutcome.{OneLiteral, OneFunction, OneTypeFunction, OneCall, OneInstance, OneGet, OneIf, OneOperation, OneFix, OneRecord}

literal-int : {z : ℤ} (o : Ty × Term) → LiteralGives (Literal.Int z) o.0 o.1 → o ≡ (Ty.Int, Term.Int z)
literal-int _ LiteralGives.int = refl

literal-bool : {b : Bool} (o : Ty × Term) → LiteralGives (Literal.Bool b) o.0 o.1 → o ≡ (Ty.Bool, Term.Bool b)
literal-bool _ LiteralGives.bool = refl

literal-text : {bytes : Name} (o : Ty × Term) → LiteralGives (Literal.Text bytes) o.0 o.1 → o ≡ (Ty.Text, Term.Text bytes)
literal-text _ LiteralGives.text = refl

-- the rule of literals has exactly one conclusion
pub one_literal : OneLiteral
one_literal (Literal.Int z) = holds (Ty.Int, Term.Int z) LiteralGives.int literal-int (λ r q. q)
one_literal (Literal.Bool b) = holds (Ty.Bool, Term.Bool b) LiteralGives.bool literal-bool (λ r q. q)
one_literal (Literal.Text w) = holds (Ty.Text, Term.Text w) LiteralGives.text literal-text (λ r q. q)

arrow-or-not : (f : Ty) → ((p : Ty × Ty) × (f ≡ Ty.Arrow p.0 p.1)) ⊎ IsNoArrow f
arrow-or-not (Ty.Arrow a b) = inl ((a, b), refl)
arrow-or-not _ = inr tt

all-or-not : (f : Ty) → ((p : Kind × Ty) × (f ≡ Ty.All p.0 p.1)) ⊎ IsNoAll f
all-or-not (Ty.All k b) = inl ((k, b), refl)
all-or-not _ = inr tt

record-or-not : (f : Ty) → ((row : Row) × (f ≡ Ty.Fields row)) ⊎ IsNoRecord f
record-or-not (Ty.Fields r) = inl (r, refl)
record-or-not _ = inr tt

-- functions

function-only : {t u : Ty} {e : Term} (o : Ty × Term) → FunctionGives t Kind.Star u e o.0 o.1 → o ≡ (Ty.Arrow t u, Term.Lam t e)
function-only _ FunctionGives.function = refl

function-kind : {t u v : Ty} {k : Kind} {e d : Term} → FunctionGives t k u e v d → k ≡ Kind.Star
function-kind FunctionGives.function = refl

function-same : {t : Ty} {k : Kind} {why : CoreWhy} → FunctionRefuses t k why → (k ≢ Kind.Star) × (why ≡ KindDiffer k Kind.Star)
function-same (FunctionRefuses.param_kind n) = (n, refl)

-- the rule of functions has exactly one conclusion or one refusal
pub one_function : OneFunction
one_function t k u e =
    equal (λ k (o : Ty × Term). FunctionGives t k u e o.0 o.1) (FunctionRefuses t) (KindDiffer k Kind.Star) (Kind-discrete k Kind.Star) (λ i. holds (Ty.Arrow t u, Term.Lam t e) FunctionGives.function function-only (λ r q. (function-same q).0 refl))
    FunctionRefuses.param_kind (λ n r q. (function-same q).1) (λ o g. function-kind g)

type_function-only : {k : Kind} {t : Ty} {e : Term} (o : Ty × Term) → TypeFunctionGives k t e o.0 o.1 → o ≡ (Ty.All k t, Term.TyLam k e)
type_function-only _ TypeFunctionGives.type_function = refl

-- the rule of type functions has exactly one conclusion
pub one_type_function : OneTypeFunction
one_type_function k t e = holds (Ty.All k t, Term.TyLam k e) TypeFunctionGives.type_function type_function-only (λ r q. q)

-- calls

call-only : {t u v : Ty} {d e : Term} (o : Ty × Term) → CallGives (Ty.Arrow t u) d v e o.0 o.1 → o ≡ (u, Term.Call d e)
call-only _ CallGives.call = refl

call-arg : {t u v w : Ty} {d e c : Term} → CallGives (Ty.Arrow t u) d v e w c → v ≡ t
call-arg CallGives.call = refl

call-arrow : {f v w : Ty} {d e c : Term} → CallGives f d v e w c → IsNoArrow f → ⊥
call-arrow CallGives.call n = n

call-refused : {t u v : Ty} {why : CoreWhy} → CallRefuses (Ty.Arrow t u) v why → (v ≢ t) × (why ≡ Differ v t)
call-refused (CallRefuses.no_function n) = absurd n
call-refused (CallRefuses.arg_type n) = (n, refl)

call-no_function : {f v : Ty} {why : CoreWhy} → IsNoArrow f → CallRefuses f v why → why ≡ NotArrow f
call-no_function n (CallRefuses.no_function m) = refl
call-no_function n (CallRefuses.arg_type m) = absurd n

-- the rule of calls has exactly one conclusion or one refusal
pub one_call : OneCall
one_call f d v e = go (arrow-or-not f)
  where
    at : (t u : Ty) → Verdict (λ (o : Ty × Term). CallGives (Ty.Arrow t u) d v e o.0 o.1) (CallRefuses (Ty.Arrow t u) v)
    at t u = equal (λ v (o : Ty × Term). CallGives (Ty.Arrow t u) d v e o.0 o.1) (CallRefuses (Ty.Arrow t u)) (Differ v t) (dec_ty v t) (λ i. holds (u, Term.Call d e) CallGives.call call-only (λ r q. (call-refused q).0 refl)) CallRefuses.arg_type (λ n q r. (call-refused r).1) (λ o g. call-arg g)

    go : ((p : Ty × Ty) × (f ≡ Ty.Arrow p.0 p.1)) ⊎ IsNoArrow f → Verdict (λ (o : Ty × Term). CallGives f d v e o.0 o.1) (CallRefuses f v)
    go (inl p) = subst (λ f. Verdict (λ (o : Ty × Term). CallGives f d v e o.0 o.1) (CallRefuses f v)) (sym p.1) (at p.0.0 p.0.1)
    go (inr n) = refuses (NotArrow f) (CallRefuses.no_function n) (λ q r. call-no_function n r) (λ o g. call-arrow g n)

-- instances

instance-view : {ctx : List Kind} {k j : Kind} {u t : Ty} {e : Term} (o : Ty × Term) → InstanceGives ctx (Ty.All k u) e t j o.0 o.1 → NormalForm ctx (instantiate u t) Kind.Star o.0 × (o.1 ≡ Term.Inst e t)
instance-view _ (InstanceGives.instance n) = (n, refl)

instance-arg : {ctx : List Kind} {k j : Kind} {u t v : Ty} {e d : Term} → InstanceGives ctx (Ty.All k u) e t j v d → j ≡ k
instance-arg (InstanceGives.instance n) = refl

instance-all : {ctx : List Kind} {f t v : Ty} {k : Kind} {e d : Term} → InstanceGives ctx f e t k v d → IsNoAll f → ⊥
instance-all (InstanceGives.instance n) m = m

instance-refused : {k j : Kind} {u t : Ty} {why : CoreWhy} → InstanceRefuses (Ty.All k u) t j why → (j ≢ k) × (why ≡ KindDiffer j k)
instance-refused (InstanceRefuses.not_polymorphic n) = absurd n
instance-refused (InstanceRefuses.arg_kind n) = (n, refl)

instance-not_all : {f t : Ty} {k : Kind} {why : CoreWhy} → IsNoAll f → InstanceRefuses f t k why → why ≡ NotAll f
instance-not_all n (InstanceRefuses.not_polymorphic m) = refl
instance-not_all n (InstanceRefuses.arg_kind m) = absurd n

-- the rule of instances has exactly one conclusion or one refusal
pub one_instance : OneInstance
one_instance ctx f e t j h g = go (all-or-not f)
  where
    at : (k : Kind) (u : Ty) → HasKind ctx (Ty.All k u) Kind.Star → Verdict (λ (o : Ty × Term). InstanceGives ctx (Ty.All k u) e t j o.0 o.1) (InstanceRefuses (Ty.All k u) t j)
    at k u w =
        equal (λ j (o : Ty × Term). InstanceGives ctx (Ty.All k u) e t j o.0 o.1) (InstanceRefuses (Ty.All k u) t) (KindDiffer j k) (Kind-discrete j k)
        (λ i.
        let v = each_has_one ctx (instantiate u t) Kind.Star (kind-substitute (single t) (single-substitutes (subst (λ l. HasKind ctx t l) i g)) (all-kinds w)) in
        holds (v.0, Term.Inst e t) (InstanceGives.instance v.1) (λ o r. let x = instance-view o r in pair-same o (v.2 o.0 x.0) x.1) (λ r q. (instance-refused q).0 refl))
        InstanceRefuses.arg_kind (λ n q r. (instance-refused r).1) (λ o r. instance-arg r)

    go : ((p : Kind × Ty) × (f ≡ Ty.All p.0 p.1)) ⊎ IsNoAll f → Verdict (λ (o : Ty × Term). InstanceGives ctx f e t j o.0 o.1) (InstanceRefuses f t j)
    go (inl p) = subst (λ f. Verdict (λ (o : Ty × Term). InstanceGives ctx f e t j o.0 o.1) (InstanceRefuses f t j)) (sym p.1) (at p.0.0 p.0.1 (subst (λ f. HasKind ctx f Kind.Star) p.1 h))
    go (inr n) = refuses (NotAll f) (InstanceRefuses.not_polymorphic n) (λ q r. instance-not_all n r) (λ o r. instance-all r n)

-- fields

get-view : {row : Row} {l : Name} {e : Term} (o : Ty × Term) → GetGives (Ty.Fields row) e l o.0 o.1 → HasPart row (Label.Name l) o.0 × (o.1 ≡ Term.Get e (Label.Name l))
get-view _ (GetGives.get h) = (h, refl)

get-record : {t u : Ty} {l : Name} {e d : Term} → GetGives t e l u d → IsNoRecord t → ⊥
get-record (GetGives.get h) n = n

get-refused : {row : Row} {l : Name} {why : CoreWhy} → GetRefuses (Ty.Fields row) l why → ((t : Ty) → HasPart row (Label.Name l) t → ⊥) × (why ≡ NoField l)
get-refused (GetRefuses.no_record n) = absurd n
get-refused (GetRefuses.no_field n) = (n, refl)

get-no_record : {t : Ty} {l : Name} {why : CoreWhy} → IsNoRecord t → GetRefuses t l why → why ≡ NotRecord t
get-no_record n (GetRefuses.no_record m) = refl
get-no_record n (GetRefuses.no_field m) = absurd n

-- the rule of selections has exactly one conclusion or one refusal
pub one_get : OneGet
one_get t e l = go (record-or-not t)
  where
    at : (row : Row) → Perhaps (λ u. HasPart row (Label.Name l) u) → Verdict (λ (o : Ty × Term). GetGives (Ty.Fields row) e l o.0 o.1) (GetRefuses (Ty.Fields row) l)
    at row (one u h only) = holds (u, Term.Get e (Label.Name l)) (GetGives.get h) (λ o g. let v = get-view o g in pair-same o (only o.0 v.0) v.1) (λ r q. (get-refused q).0 u h)
    at row (none n) = refuses (NoField l) (GetRefuses.no_field n) (λ q r. (get-refused r).1) (λ o g. n o.0 (get-view o g).0)

    go : ((row : Row) × (t ≡ Ty.Fields row)) ⊎ IsNoRecord t → Verdict (λ (o : Ty × Term). GetGives t e l o.0 o.1) (GetRefuses t l)
    go (inl p) = subst (λ t. Verdict (λ (o : Ty × Term). GetGives t e l o.0 o.1) (GetRefuses t l)) (sym p.1) (at p.0 (part-at p.0 (Label.Name l)))
    go (inr n) = refuses (NotRecord t) (GetRefuses.no_record n) (λ q r. get-no_record n r) (λ o g. get-record g n)

-- conditionals

if-only : {s t u : Ty} {d e f : Term} (o : Ty × Term) → IfGives s d t e u f o.0 o.1 → o ≡ (t, Term.If d e f)
if-only _ IfGives.if_ = refl

if-types : {s t u v : Ty} {d e f c : Term} → IfGives s d t e u f v c → (s ≡ Ty.Bool) × (t ≡ u)
if-types IfGives.if_ = (refl, refl)

if-never : {t : Ty} {why : CoreWhy} → IfRefuses Ty.Bool t t why → ⊥
if-never r = go r refl refl
  where
    go : {s t u : Ty} {why : CoreWhy} → IfRefuses s t u why → s ≡ Ty.Bool → t ≡ u → ⊥
    go (IfRefuses.test_type n) e f = n e
    go (IfRefuses.branches n) e f = n f

if-test : {s t u : Ty} {why : CoreWhy} → s ≢ Ty.Bool → IfRefuses s t u why → why ≡ Differ s Ty.Bool
if-test n (IfRefuses.test_type m) = refl
if-test n (IfRefuses.branches m) = absurd (n refl)

if-branches : {t u : Ty} {why : CoreWhy} → IfRefuses Ty.Bool t u why → why ≡ Differ t u
if-branches (IfRefuses.test_type n) = absurd (n refl)
if-branches (IfRefuses.branches n) = refl

-- the rule of conditionals has exactly one conclusion or one refusal
pub one_if : OneIf
one_if s d t e u f =
    equal (λ s (o : Ty × Term). IfGives s d t e u f o.0 o.1) (λ s. IfRefuses s t u) (Differ s Ty.Bool) (dec_ty s Ty.Bool)
    (λ i. equal (λ t (o : Ty × Term). IfGives Ty.Bool d t e u f o.0 o.1) (λ t. IfRefuses Ty.Bool t u) (Differ t u) (dec_ty t u) (λ j. holds (u, Term.If d e f) IfGives.if_ if-only (λ r q. if-never q)) IfRefuses.branches (λ n q r. if-branches r) (λ o g. (if-types g).1))
    IfRefuses.test_type (λ n q r. if-test n r) (λ o g. (if-types g).0)

-- operators

operation-only : {op : Op} {d e : Term} (o : Ty × Term) → OperationGives op Ty.Int d Ty.Int e o.0 o.1 → o ≡ (result_type op, Term.Arith op d e)
operation-only _ OperationGives.operation = refl

operation-types : {op : Op} {t u v : Ty} {d e c : Term} → OperationGives op t d u e v c → (t ≡ Ty.Int) × (u ≡ Ty.Int)
operation-types OperationGives.operation = (refl, refl)

operation-never : {why : CoreWhy} → OperationRefuses Ty.Int Ty.Int why → ⊥
operation-never (OperationRefuses.left_type n) = n refl
operation-never (OperationRefuses.right_type n) = n refl

operation-left : {t u : Ty} {why : CoreWhy} → t ≢ Ty.Int → OperationRefuses t u why → why ≡ Differ t Ty.Int
operation-left n (OperationRefuses.left_type m) = refl
operation-left n (OperationRefuses.right_type m) = absurd (n refl)

operation-right : {u : Ty} {why : CoreWhy} → OperationRefuses Ty.Int u why → why ≡ Differ u Ty.Int
operation-right (OperationRefuses.left_type n) = absurd (n refl)
operation-right (OperationRefuses.right_type n) = refl

-- the rule of operations has exactly one conclusion or one refusal
pub one_operation : OneOperation
one_operation op t d u e =
    equal (λ t (o : Ty × Term). OperationGives op t d u e o.0 o.1) (λ t. OperationRefuses t u) (Differ t Ty.Int) (dec_ty t Ty.Int)
    (λ i. equal (λ u (o : Ty × Term). OperationGives op Ty.Int d u e o.0 o.1) (OperationRefuses Ty.Int) (Differ u Ty.Int) (dec_ty u Ty.Int) (λ j. holds (result_type op, Term.Arith op d e) OperationGives.operation operation-only (λ r q. operation-never q)) OperationRefuses.right_type (λ n q r. operation-right r) (λ o g. (operation-types g).1))
    OperationRefuses.left_type (λ n q r. operation-left n r) (λ o g. (operation-types g).0)

-- recursive functions

fix-only : {t u v : Ty} {k j : Kind} {e : Term} (o : Ty × Term) → FixGives t k u j v e o.0 o.1 → o ≡ (Ty.Arrow t u, Term.Fix t u e)
fix-only _ FixGives.fix = refl

fix-premises : {t u v w : Ty} {k j : Kind} {e d : Term} → FixGives t k u j v e w d → (k ≡ Kind.Star) × (j ≡ Kind.Star) × (v ≡ u)
fix-premises FixGives.fix = (refl, refl, refl)

fix-never : {t u v : Ty} {k j : Kind} {why : CoreWhy} → k ≡ Kind.Star → j ≡ Kind.Star → v ≡ u → FixRefuses t k u j v why → ⊥
fix-never a b c (FixRefuses.param_kind n) = n a
fix-never a b c (FixRefuses.result_kind n) = n b
fix-never a b c (FixRefuses.body_type n) = n c

fix-param : {t u v : Ty} {k j : Kind} {why : CoreWhy} → k ≢ Kind.Star → FixRefuses t k u j v why → why ≡ KindDiffer k Kind.Star
fix-param n (FixRefuses.param_kind m) = refl
fix-param n (FixRefuses.result_kind m) = absurd (n refl)
fix-param n (FixRefuses.body_type m) = absurd (n refl)

fix-result : {t u v : Ty} {j : Kind} {why : CoreWhy} → j ≢ Kind.Star → FixRefuses t Kind.Star u j v why → why ≡ KindDiffer j Kind.Star
fix-result n (FixRefuses.param_kind m) = absurd (m refl)
fix-result n (FixRefuses.result_kind m) = refl
fix-result n (FixRefuses.body_type m) = absurd (n refl)

fix-body : {t u v : Ty} {why : CoreWhy} → FixRefuses t Kind.Star u Kind.Star v why → why ≡ Differ v u
fix-body (FixRefuses.param_kind m) = absurd (m refl)
fix-body (FixRefuses.result_kind m) = absurd (m refl)
fix-body (FixRefuses.body_type m) = refl

-- the rule of recursive functions has exactly one conclusion or one refusal
pub one_fix : OneFix
one_fix t k u j v e =
    equal (λ k (o : Ty × Term). FixGives t k u j v e o.0 o.1) (λ k. FixRefuses t k u j v) (KindDiffer k Kind.Star) (Kind-discrete k Kind.Star)
    (λ a. equal (λ j (o : Ty × Term). FixGives t Kind.Star u j v e o.0 o.1) (λ j. FixRefuses t Kind.Star u j v) (KindDiffer j Kind.Star) (Kind-discrete j Kind.Star)
    (λ b. equal (λ v (o : Ty × Term). FixGives t Kind.Star u Kind.Star v e o.0 o.1) (FixRefuses t Kind.Star u Kind.Star) (Differ v u) (dec_ty v u) (λ c. holds (Ty.Arrow t u, Term.Fix t u e) FixGives.fix fix-only (λ r q. fix-never refl refl refl q)) FixRefuses.body_type (λ n q r. fix-body r) (λ o g. (fix-premises g).2))
    FixRefuses.result_kind (λ n q r. fix-result n r) (λ o g. (fix-premises g).1))
    FixRefuses.param_kind (λ n q r. fix-param n r) (λ o g. (fix-premises g).0)

-- records

record-end : {before : List Name} (o : Row × TermRow) → RecordGives before [] o.0 o.1 → o ≡ (Row.End, TermRow.End)
record-end _ RecordGives.no_fields = refl

record-end-never : {before : List Name} {why : CoreWhy} → RecordRefuses before [] why → ⊥
record-end-never r = elim r [ ]

record-view : {before : List Name} {l : Name} {t : Ty} {e : Term} {rest : List FieldExp} {row : Row} {es : TermRow} → RecordGives before (field l t e ∷ rest) row es → IsNew l before × ((q : Row × TermRow) × RecordGives (l ∷ before) rest q.0 q.1 × (row ≡ insert_part (Label.Name l) t q.0) × (es ≡ insert_term (Label.Name l) e q.1))
record-view (RecordGives.next_field {row = row} {es = es} n r) = (n, ((row, es), r, refl, refl))

record-again : {before : List Name} {l : Name} {t : Ty} {e : Term} {rest : List FieldExp} {why : CoreWhy} → (IsNew l before → ⊥) → RecordRefuses before (field l t e ∷ rest) why → why ≡ DuplicateField l
record-again n (RecordRefuses.name_again m) = refl
record-again n (RecordRefuses.later_field m r) = absurd (n m)

record-later : {before : List Name} {l : Name} {t : Ty} {e : Term} {rest : List FieldExp} {why : CoreWhy} → IsNew l before → RecordRefuses before (field l t e ∷ rest) why → RecordRefuses (l ∷ before) rest why
record-later h (RecordRefuses.name_again m) = absurd (m h)
record-later h (RecordRefuses.later_field m r) = r

-- the rule of records has exactly one conclusion or one refusal
pub one_record : OneRecord
one_record before [] = holds (Row.End, TermRow.End) RecordGives.no_fields record-end (λ r q. record-end-never q)
one_record before (field l t e ∷ rest) = go (new_dec l before) (one_record (l ∷ before) rest)
  where
    inner : IsNew l before → Verdict (λ (o : Row × TermRow). RecordGives (l ∷ before) rest o.0 o.1) (RecordRefuses (l ∷ before) rest) → Verdict (λ (o : Row × TermRow). RecordGives before (field l t e ∷ rest) o.0 o.1) (RecordRefuses before (field l t e ∷ rest))
    inner h (holds p g only never) = holds (insert_part (Label.Name l) t p.0, insert_term (Label.Name l) e p.1) (RecordGives.next_field h g) same (λ why q. never why (record-later h q))
      where
        same : (o : Row × TermRow) → RecordGives before (field l t e ∷ rest) o.0 o.1 → o ≡ (insert_part (Label.Name l) t p.0, insert_term (Label.Name l) e p.1)
        same o r =
            let v = record-view r in
            let x = only v.1.0 v.1.1 in
            pair-same o (v.1.2 ∙ ap (λ (q : Row × TermRow). insert_part (Label.Name l) t q.0) x) (v.1.3 ∙ ap (λ (q : Row × TermRow). insert_term (Label.Name l) e q.1) x)
    inner h (refuses why q only never) = refuses why (RecordRefuses.later_field h q) (λ w r. only w (record-later h r)) (λ o r. let v = record-view r in never v.1.0 v.1.1)

    go : Dec (IsNew l before) → Verdict (λ (o : Row × TermRow). RecordGives (l ∷ before) rest o.0 o.1) (RecordRefuses (l ∷ before) rest) → Verdict (λ (o : Row × TermRow). RecordGives before (field l t e ∷ rest) o.0 o.1) (RecordRefuses before (field l t e ∷ rest))
    go (no n) later = refuses (DuplicateField l) (RecordRefuses.name_again n) (λ q r. record-again n r) (λ o r. n (record-view r).0)
    go (yes h) later = inner h later
