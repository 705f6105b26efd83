-- The fields of records, the labels of sums and the branches of cases, as the code and as the rules have them.
use Rattle.std.specs.Prelude.{◌≡◌, List, [], ◌∷◌, Option, None, MatchOption}
use Rattle.std.specs.BTreeMap.{is_at}
use Rattle.std.specs.Map.{lookup}
use Rattle.omega_kinds.specs.Kind.{Kind}
use Rattle.omega_kinds.specs.LabelOrder.{name_cmp}
use Rattle.omega_kinds.specs.Name.{Name}
use Rattle.omega_kinds.specs.View.{kind_tree}
use Rattle.omega_kinds.specs.declared.label.Label.{Label}
use Rattle.omega_types.specs.Ty.{Ty, Row}
use Rattle.omega_terms.specs.Term.{Term, TermRow}
use Rattle.core_judgments.specs.TypeRules.{FieldTy, RecordTypeGives}
use Rattle.core_judgments.specs.TypeRules.FieldTy.{field as field_ty}
use Rattle.core_judgments.specs.ExpRules.{FieldExp, RecordGives, HasBranch, HasNoBranch}
use Rattle.core_judgments.specs.ExpRules.FieldExp.{field as field_exp}
use Rattle.semantic_sigs.specs.declared.made.Kinded.{Kinded}
use Rattle.semantic_sigs.specs.declared.made.Typed.{Typed}

abbrev pub type_fields : List (Name × Kinded) → List FieldTy
type_fields [] = []
type_fields (x ∷ xs) = field_ty x.0 x.1.ty (kind_tree x.1.kind) ∷ type_fields xs

abbrev pub exp_fields : List (Name × Typed) → List FieldExp
exp_fields [] = []
exp_fields (x ∷ xs) = field_exp x.0 x.1.ty x.1.term ∷ exp_fields xs

-- a record type, of a type of values
abbrev pub RecordTypeIs : List FieldTy → Ty → Kind → Type 0
RecordTypeIs fields t k = (row : Row) × (t ≡ Ty.Fields row) × (k ≡ Kind.Star) × RecordTypeGives [] fields row

-- a sum type, of a type of values
abbrev pub SumTypeIs : List FieldTy → Ty → Kind → Type 0
SumTypeIs fields t k = (row : Row) × (t ≡ Ty.Sum row) × (k ≡ Kind.Star) × RecordTypeGives [] fields row

-- a record, with its type
abbrev pub RecordIs : List FieldExp → Ty → Term → Type 0
RecordIs fields t e = (row : Row) × (es : TermRow) × (t ≡ Ty.Fields row) × (e ≡ Term.Fields es) × RecordGives [] fields row es

-- parts by their names, as the fields of a record
abbrev pub labelled : {A T : Type 0} → (A → T) → List (Name × A) → List (Label × T)
labelled f [] = []
labelled f (x ∷ xs) = (Label.Name x.0, f x.1) ∷ labelled f xs

-- what a map by names has for a label, nothing for a reserved one
abbrev pub at_key : {A : Type 0} → Label → List (Name × A) → Option A
at_key (Label.Name l) es = lookup (is_at (name_cmp l)) es
at_key _ es = None

-- a map has the branch for each label
abbrev pub HasBranches : List FieldExp → List (Name × Typed) → Type 0
HasBranches bs es = (l : Label) → MatchOption (at_key l es) (HasNoBranch bs l) (λ e. HasBranch bs l e.term)
