-- The rules of expressions, one relation for the conclusion of each, and one for its refusals, over premises that are
-- already elaborated: normal types with their terms (Rossberg, Russo, Dreyer, F-ing modules, section 4, over a core language
-- that is own). A rule's conditions are tried in order.
use Rattle.std.specs.Prelude.{ℤ, Bool as Truth, List, [], ◌∷◌, ◌≢◌}
use Rattle.omega_kinds.specs.Kind.{Kind}
use Rattle.omega_kinds.specs.declared.label.Label.{Label}
use Rattle.omega_kinds.specs.LabelOrder.{LabelBefore, spelling}
use Rattle.omega_kinds.specs.Name.{Name}
use Rattle.omega_types.specs.Ty.{Ty, Row}
use Rattle.omega_types.specs.Substitution.{instantiate}
use Rattle.omega_types.specs.Normalises.{NormalForm}
use Rattle.omega_terms.specs.declared.op.Op.{Op}
use Rattle.omega_terms.specs.Term.{Term, TermRow}
use Rattle.omega_terms.specs.Typing.{HasPart, result_type}
use Rattle.sig_definitions.specs.Signatures.RecordOrder.{insert_part, insert_term, IsNew}
use Rattle.core_judgments.specs.CoreWhy.{CoreWhy, NotArrow, NotAll, NotRecord, NotSum, NoField, NoBranch, Differ, KindDiffer, DuplicateField, IsNoArrow, IsNoAll, IsNoRecord, IsNoSum}

pub data Literal : Type 0 where
  Int : ℤ → Literal
  Bool : Truth → Literal
  Text : (bytes : Name) → Literal

-- a number, a truth value, a text; never refused
pub data LiteralGives : Literal → Ty → Term → Type 0 where
  int : {z : ℤ} → LiteralGives (Literal.Int z) Ty.Int (Term.Int z)
  bool : {b : Truth} → LiteralGives (Literal.Bool b) Ty.Bool (Term.Bool b)
  text : {bytes : Name} → LiteralGives (Literal.Text bytes) Ty.Text (Term.Text bytes)

-- fun (X : T) => E, E under X
pub data FunctionGives : (param : Ty) (kind : Kind) (body : Ty) (term : Term) → Ty → Term → Type 0 where
  function : {t u : Ty} {e : Term} → FunctionGives t Kind.Star u e (Ty.Arrow t u) (Term.Lam t e)

pub data FunctionRefuses : (param : Ty) (kind : Kind) → CoreWhy → Type 0 where
  param_kind : {t : Ty} {k : Kind}
      → k ≢ Kind.Star
      → FunctionRefuses t k (KindDiffer k Kind.Star)

-- fun [X : K] => E, E under X; never refused
pub data TypeFunctionGives : (kind : Kind) (body : Ty) (term : Term) → Ty → Term → Type 0 where
  type_function : {k : Kind} {t : Ty} {e : Term} → TypeFunctionGives k t e (Ty.All k t) (Term.TyLam k e)

-- E1 E2
pub data CallGives : (function : Ty) (term : Term) (arg : Ty) (arg_term : Term) → Ty → Term → Type 0 where
  call : {t u : Ty} {d e : Term} → CallGives (Ty.Arrow t u) d t e u (Term.Call d e)

pub data CallRefuses : (function arg : Ty) → CoreWhy → Type 0 where
  no_function : {f v : Ty}
      → IsNoArrow f
      → CallRefuses f v (NotArrow f)
  arg_type : {t u v : Ty}
      → v ≢ t
      → CallRefuses (Ty.Arrow t u) v (Differ v t)

-- E [T]: the result's type is in normal form
pub data InstanceGives (ctx : List Kind) : (function : Ty) (term : Term) (arg : Ty) (kind : Kind) → Ty → Term → Type 0 where
  instance : {k : Kind} {u t v : Ty} {e : Term}
      → NormalForm ctx (instantiate u t) Kind.Star v
      → InstanceGives ctx (Ty.All k u) e t k v (Term.Inst e t)

pub data InstanceRefuses : (function arg : Ty) (kind : Kind) → CoreWhy → Type 0 where
  not_polymorphic : {f t : Ty} {k : Kind}
      → IsNoAll f
      → InstanceRefuses f t k (NotAll f)
  arg_kind : {k j : Kind} {u t : Ty}
      → j ≢ k
      → InstanceRefuses (Ty.All k u) t j (KindDiffer j k)

-- E#X
pub data GetGives : (whole : Ty) (term : Term) (name : Name) → Ty → Term → Type 0 where
  get : {row : Row} {l : Name} {t : Ty} {e : Term}
      → HasPart row (Label.Name l) t
      → GetGives (Ty.Fields row) e l t (Term.Get e (Label.Name l))

pub data GetRefuses : (whole : Ty) (name : Name) → CoreWhy → Type 0 where
  no_record : {t : Ty} {l : Name}
      → IsNoRecord t
      → GetRefuses t l (NotRecord t)
  no_field : {row : Row} {l : Name}
      → ((t : Ty) → HasPart row (Label.Name l) t → ⊥)
      → GetRefuses (Ty.Fields row) l (NoField l)

-- if E1 then E2 else E3
pub data IfGives : (test : Ty) (test_term : Term) (yes : Ty) (yes_term : Term) (no : Ty) (no_term : Term) → Ty → Term → Type 0 where
  if_ : {t : Ty} {d e f : Term} → IfGives Ty.Bool d t e t f t (Term.If d e f)

pub data IfRefuses : (test yes no : Ty) → CoreWhy → Type 0 where
  test_type : {s t u : Ty}
      → s ≢ Ty.Bool
      → IfRefuses s t u (Differ s Ty.Bool)
  branches : {t u : Ty}
      → t ≢ u
      → IfRefuses Ty.Bool t u (Differ t u)

-- an operator on two numbers
pub data OperationGives : Op → (left : Ty) (left_term : Term) (right : Ty) (right_term : Term) → Ty → Term → Type 0 where
  operation : {o : Op} {d e : Term} → OperationGives o Ty.Int d Ty.Int e (result_type o) (Term.Arith o d e)

pub data OperationRefuses : (left right : Ty) → CoreWhy → Type 0 where
  left_type : {t u : Ty}
      → t ≢ Ty.Int
      → OperationRefuses t u (Differ t Ty.Int)
  right_type : {u : Ty}
      → u ≢ Ty.Int
      → OperationRefuses Ty.Int u (Differ u Ty.Int)

-- fix F (X : T) : U => E, E under F and then X
pub data FixGives : (param : Ty) (kind : Kind) (result : Ty) (result_kind : Kind) (body : Ty) (term : Term) → Ty → Term → Type 0 where
  fix : {t u : Ty} {e : Term} → FixGives t Kind.Star u Kind.Star u e (Ty.Arrow t u) (Term.Fix t u e)

pub data FixRefuses : (param : Ty) (kind : Kind) (result : Ty) (result_kind : Kind) (body : Ty) → CoreWhy → Type 0 where
  param_kind : {t u v : Ty} {k j : Kind}
      → k ≢ Kind.Star
      → FixRefuses t k u j v (KindDiffer k Kind.Star)
  result_kind : {t u v : Ty} {j : Kind}
      → j ≢ Kind.Star
      → FixRefuses t Kind.Star u j v (KindDiffer j Kind.Star)
  body_type : {t u v : Ty}
      → v ≢ u
      → FixRefuses t Kind.Star u Kind.Star v (Differ v u)

-- a field of a record, or a branch of a case, whose term stands under the value of the label
pub data FieldExp : Type 0 where
  field : (name : Name) (ty : Ty) (term : Term) → FieldExp

-- {X = E, ..}: fields of different names, after fields of the names before; type and term have them in the order of labels
pub data RecordGives : (before : List Name) → List FieldExp → Row → TermRow → Type 0 where
  no_fields : {before : List Name} → RecordGives before [] Row.End TermRow.End
  next_field : {before : List Name} {l : Name} {t : Ty} {e : Term} {rest : List FieldExp} {row : Row} {es : TermRow}
      → IsNew l before
      → RecordGives (l ∷ before) rest row es
      → RecordGives before (field l t e ∷ rest) (insert_part (Label.Name l) t row) (insert_term (Label.Name l) e es)

pub data RecordRefuses : (before : List Name) → List FieldExp → CoreWhy → Type 0 where
  name_again : {before : List Name} {l : Name} {t : Ty} {e : Term} {rest : List FieldExp}
      → (IsNew l before → ⊥)
      → RecordRefuses before (field l t e ∷ rest) (DuplicateField l)
  later_field : {before : List Name} {l : Name} {t : Ty} {e : Term} {rest : List FieldExp} {why : CoreWhy}
      → IsNew l before
      → RecordRefuses (l ∷ before) rest why
      → RecordRefuses before (field l t e ∷ rest) why

-- the phrase after case has a sum type
pub data SumGives : (whole : Ty) → Row → Type 0 where
  sum : {row : Row} → SumGives (Ty.Sum row) row

pub data SumRefuses : (whole : Ty) → CoreWhy → Type 0 where
  no_sum : {t : Ty}
      → IsNoSum t
      → SumRefuses t (NotSum t)

-- the type of the value that the branch for X takes
pub data LabelGives : (whole : Ty) (name : Name) → Ty → Type 0 where
  label : {row : Row} {l : Name} {t : Ty}
      → HasPart row (Label.Name l) t
      → LabelGives (Ty.Sum row) l t

pub data LabelRefuses : (whole : Ty) (name : Name) → CoreWhy → Type 0 where
  no_sum : {t : Ty} {l : Name}
      → IsNoSum t
      → LabelRefuses t l (NotSum t)
  no_label : {row : Row} {l : Name}
      → ((t : Ty) → HasPart row (Label.Name l) t → ⊥)
      → LabelRefuses (Ty.Sum row) l (NoField l)

-- inj X E : T
pub data InjectionGives : (name : Name) (value : Ty) (term : Term) (target : Ty) (kind : Kind) → Ty → Term → Type 0 where
  injection : {row : Row} {l : Name} {t : Ty} {e : Term}
      → HasPart row (Label.Name l) t
      → InjectionGives l t e (Ty.Sum row) Kind.Star (Ty.Sum row) (Term.Inj (Label.Name l) e (Ty.Sum row))

pub data InjectionRefuses : (name : Name) (value : Ty) (target : Ty) (kind : Kind) → CoreWhy → Type 0 where
  target_kind : {l : Name} {v t : Ty} {k : Kind}
      → k ≢ Kind.Star
      → InjectionRefuses l v t k (KindDiffer k Kind.Star)
  no_sum : {l : Name} {v t : Ty}
      → IsNoSum t
      → InjectionRefuses l v t Kind.Star (NotSum t)
  no_label : {row : Row} {l : Name} {v : Ty}
      → ((t : Ty) → HasPart row (Label.Name l) t → ⊥)
      → InjectionRefuses l v (Ty.Sum row) Kind.Star (NoField l)
  value_type : {row : Row} {l : Name} {t v : Ty}
      → HasPart row (Label.Name l) t
      → v ≢ t
      → InjectionRefuses l v (Ty.Sum row) Kind.Star (Differ v t)

-- branches of a case on a sum, after branches of the names before: of different names that the sum has, all of one type
pub data BranchesGive (row : Row) (result : Ty) : (before : List Name) → List FieldExp → Type 0 where
  no_branches : {before : List Name} → BranchesGive row result before []
  next_branch : {before : List Name} {l : Name} {u : Ty} {e : Term} {rest : List FieldExp}
      → IsNew l before
      → HasPart row (Label.Name l) u
      → BranchesGive row result (l ∷ before) rest
      → BranchesGive row result before (field l result e ∷ rest)

-- branch by branch: first its name, then its label in the sum, then its type
pub data BranchesRefuse (row : Row) (result : Ty) : (before : List Name) → List FieldExp → CoreWhy → Type 0 where
  name_again : {before : List Name} {l : Name} {t : Ty} {e : Term} {rest : List FieldExp}
      → (IsNew l before → ⊥)
      → BranchesRefuse row result before (field l t e ∷ rest) (DuplicateField l)
  no_label : {before : List Name} {l : Name} {t : Ty} {e : Term} {rest : List FieldExp}
      → IsNew l before
      → ((u : Ty) → HasPart row (Label.Name l) u → ⊥)
      → BranchesRefuse row result before (field l t e ∷ rest) (NoField l)
  branch_type : {before : List Name} {l : Name} {t u : Ty} {e : Term} {rest : List FieldExp}
      → IsNew l before
      → HasPart row (Label.Name l) u
      → t ≢ result
      → BranchesRefuse row result before (field l t e ∷ rest) (Differ t result)
  later_branch : {before : List Name} {l : Name} {u : Ty} {e : Term} {rest : List FieldExp} {why : CoreWhy}
      → IsNew l before
      → HasPart row (Label.Name l) u
      → BranchesRefuse row result (l ∷ before) rest why
      → BranchesRefuse row result before (field l result e ∷ rest) why

-- the first branch for a label has this term
pub data HasBranch : List FieldExp → Label → Term → Type 0 where
  here : {l : Name} {t : Ty} {e : Term} {rest : List FieldExp} → HasBranch (field l t e ∷ rest) (Label.Name l) e
  there : {m : Label} {l : Name} {t : Ty} {d e : Term} {rest : List FieldExp} → m ≢ Label.Name l → HasBranch rest m e → HasBranch (field l t d ∷ rest) m e

abbrev pub HasNoBranch : List FieldExp → Label → Type 0
HasNoBranch bs l = (e : Term) → HasBranch bs l e → ⊥

-- the terms of the branches for the labels of the sum, in the sum's order
pub data InOrder (branches : List FieldExp) : Row → TermRow → Type 0 where
  no_labels : InOrder branches Row.End TermRow.End
  next_label : {l : Label} {t : Ty} {e : Term} {row : Row} {es : TermRow}
      → HasBranch branches l e
      → InOrder branches row es
      → InOrder branches (Row.More l t row) (TermRow.More l e es)

-- the least of the sum's labels that have no branch
pub record LeastWithout (branches : List FieldExp) (row : Row) (l : Label) : Type 0 where
  pub of_sum : (t : Ty) × HasPart row l t
  pub without : HasNoBranch branches l
  pub least : (m : Label) (t : Ty) → HasPart row m t → HasNoBranch branches m → LabelBefore m l → ⊥

-- case E : T of {X (x) => E', ..}, each E' under the value x
pub data CaseGives : (whole : Ty) (term : Term) (result : Ty) (kind : Kind) (branches : List FieldExp) → Ty → Term → Type 0 where
  case_ : {row : Row} {t : Ty} {e : Term} {branches : List FieldExp} {es : TermRow}
      → BranchesGive row t [] branches
      → InOrder branches row es
      → CaseGives (Ty.Sum row) e t Kind.Star branches t (Term.Case e t es)

-- the name of a reserved label, which no sum of a program has, is empty
pub data CaseRefuses : (whole : Ty) (result : Ty) (kind : Kind) (branches : List FieldExp) → CoreWhy → Type 0 where
  no_sum : {w t : Ty} {k : Kind} {branches : List FieldExp}
      → IsNoSum w
      → CaseRefuses w t k branches (NotSum w)
  result_kind : {row : Row} {t : Ty} {k : Kind} {branches : List FieldExp}
      → k ≢ Kind.Star
      → CaseRefuses (Ty.Sum row) t k branches (KindDiffer k Kind.Star)
  branch : {row : Row} {t : Ty} {branches : List FieldExp} {why : CoreWhy}
      → BranchesRefuse row t [] branches why
      → CaseRefuses (Ty.Sum row) t Kind.Star branches why
  no_branch : {row : Row} {t : Ty} {branches : List FieldExp} {l : Label}
      → BranchesGive row t [] branches
      → LeastWithout branches row l
      → CaseRefuses (Ty.Sum row) t Kind.Star branches (NoBranch (spelling l))
