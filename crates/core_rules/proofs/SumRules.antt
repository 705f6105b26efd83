-- From the conditions of the rules of sums to their conclusions and refusals.
-- Main results: label-given, injection-given, case-given.
use Rattle.std.proofs.Common.{◌≡◌, ◌≢◌, [], List, refl, sym, ◌∙◌, subst}
use Rattle.omega_kinds.specs.Kind.{Kind}
use Rattle.omega_kinds.specs.LabelOrder.{spelling}
use Rattle.omega_kinds.specs.Name.{Name}
use Rattle.omega_kinds.specs.declared.label.Label.{Label}
use Rattle.omega_types.specs.Ty.{Ty, Row}
use Rattle.omega_terms.specs.Term.{Term, TermRow}
use Rattle.omega_terms.specs.Typing.{HasPart}
use Rattle.core_judgments.specs.CoreWhy.{CoreWhy, NotSum, NoField, NoBranch, Differ, KindDiffer, IsNoSum}
use Rattle.core_judgments.specs.ExpRules.{FieldExp, SumGives, SumRefuses, LabelGives, LabelRefuses, InjectionGives, InjectionRefuses, BranchesGive, BranchesRefuse, InOrder, LeastWithout, CaseGives, CaseRefuses}

-- a sum type gives its row
pub sum-given : (t : Ty) (r : Row) → t ≡ Ty.Sum r → SumGives t r
sum-given t r e = rw (e) SumGives.sum

-- a type that is no sum is refused as a sum
pub sum-refused : (t w : Ty) → w ≡ t → IsNoSum t → SumRefuses t (NotSum w)
sum-refused t w e n = rw (e) (SumRefuses.no_sum n)

-- a label that a sum has gives its type
pub label-given : (t u : Ty) (r : Row) (l : Name) → t ≡ Ty.Sum r → HasPart r (Label.Name l) u → LabelGives t l u
label-given t u r l e h = rw (e) (LabelGives.label h)

-- a label of a type that is no sum is refused
pub label-no_sum : (t w : Ty) (l : Name) → w ≡ t → IsNoSum t → LabelRefuses t l (NotSum w)
label-no_sum t w l e n = rw (e) (LabelRefuses.no_sum n)

-- a label that a sum lacks is refused
pub label-missing : (t : Ty) (r : Row) (l : Name) (why : CoreWhy) → t ≡ Ty.Sum r → ((u : Ty) → HasPart r (Label.Name l) u → ⊥) × (why ≡ NoField l) → LabelRefuses t l why
label-missing t r l why e h = rw (e, h.1) (LabelRefuses.no_label h.0)

-- injections
-- an injection whose type is no sum is refused
pub injection-no_sum : (l : Name) (v t w : Ty) (k : Kind) → k ≡ Kind.Star → w ≡ t → IsNoSum t → InjectionRefuses l v t k (NotSum w)
injection-no_sum l v t w k e q n = rw (e, q) (InjectionRefuses.no_sum n)

-- an injection with a label that the sum lacks is refused
pub injection-missing : (l : Name) (v t : Ty) (r : Row) (k : Kind) (why : CoreWhy) → k ≡ Kind.Star → t ≡ Ty.Sum r → ((u : Ty) → HasPart r (Label.Name l) u → ⊥) × (why ≡ NoField l) → InjectionRefuses l v t k why
injection-missing l v t r k why e q h = rw (e, q, h.1) (InjectionRefuses.no_label h.0)

-- an injection of a value of another type than the label's is refused
pub injection-differs : (l : Name) (v t u : Ty) (r : Row) (k : Kind) → k ≡ Kind.Star → t ≡ Ty.Sum r → HasPart r (Label.Name l) u → v ≢ u → InjectionRefuses l v t k (Differ v u)
injection-differs l v t u r k e q h n = rw (e, q) (InjectionRefuses.value_type h n)

-- an injection of a value of the label's type has the sum type
pub injection-given : (l : Name) (v t u w : Ty) (r : Row) (k : Kind) (d x : Term) → k ≡ Kind.Star → t ≡ Ty.Sum r → HasPart r (Label.Name l) u → v ≡ u → w ≡ t → x ≡ Term.Inj (Label.Name l) d t → InjectionGives l v d t k w x
injection-given l v t u w r k d x e q h is iw ix = rw (e, iw, ix, q, is) (InjectionGives.injection h)

-- cases
-- a case on what is of no sum type is refused
pub case-no_sum : (w t f : Ty) (k : Kind) (bs : List FieldExp) → f ≡ w → IsNoSum w → CaseRefuses w t k bs (NotSum f)
case-no_sum w t f k bs e n = rw (e) (CaseRefuses.no_sum n)

-- a case whose result is of another kind than * is refused
pub case-kind : (w t : Ty) (r : Row) (k : Kind) (bs : List FieldExp) → w ≡ Ty.Sum r → k ≢ Kind.Star → CaseRefuses w t k bs (KindDiffer k Kind.Star)
case-kind w t r k bs e n = rw (e) (CaseRefuses.result_kind n)

-- a case is refused as its branches
pub case-branch : (w t : Ty) (r : Row) (k : Kind) (bs : List FieldExp) (why : CoreWhy) → w ≡ Ty.Sum r → k ≡ Kind.Star → BranchesRefuse r t [] bs why → CaseRefuses w t k bs why
case-branch w t r k bs why e q h = rw (e, q) (CaseRefuses.branch h)

-- a case without a branch for a label is refused, at the least such label
pub case-missing : (w t : Ty) (r : Row) (k : Kind) (bs : List FieldExp) (why : CoreWhy) → w ≡ Ty.Sum r → k ≡ Kind.Star → BranchesGive r t [] bs → (l : Label) × LeastWithout bs r l × (why ≡ NoBranch (spelling l)) → CaseRefuses w t k bs why
case-missing w t r k bs why e q g h = rw (e, q, h.2) (CaseRefuses.no_branch g h.1)

-- a case with a branch of the right type for each label has the result's type
pub case-given : (w t v : Ty) (r : Row) (k : Kind) (bs : List FieldExp) (es : TermRow) (d x : Term) → w ≡ Ty.Sum r → k ≡ Kind.Star → BranchesGive r t [] bs → InOrder bs r es → v ≡ t → x ≡ Term.Case d t es → CaseGives w d t k bs v x
case-given w t v r k bs es d x e q g o iv ix = rw (e, q, iv, ix) (CaseGives.case_ g o)
