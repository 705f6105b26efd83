-- The statements that each rule has exactly one conclusion, or exactly one refusal, for premises of the right kinds.
use Rattle.std.specs.Prelude.{List}
use Rattle.omega_kinds.specs.Kind.{Kind}
use Rattle.omega_kinds.specs.Name.{Name}
use Rattle.omega_types.specs.Ty.{Ty, Row}
use Rattle.omega_types.specs.Kinding.{HasKind}
use Rattle.omega_terms.specs.declared.op.Op.{Op}
use Rattle.omega_terms.specs.Term.{Term, TermRow}
use Rattle.sig_definitions.specs.Verdict.{Verdict}
use Rattle.core_judgments.specs.CoreWhy.{CoreWhy}
use Rattle.core_judgments.specs.TypeRules.{Base, BaseGives, ArrowGives, ArrowRefuses, AllGives, AllRefuses, OperatorGives, AppliedGives, AppliedRefuses, FieldTy, RecordTypeGives, RecordTypeRefuses}
use Rattle.core_judgments.specs.ExpRules.{Literal, LiteralGives, FunctionGives, FunctionRefuses, TypeFunctionGives, CallGives, CallRefuses, InstanceGives, InstanceRefuses, GetGives, GetRefuses, IfGives, IfRefuses, OperationGives, OperationRefuses, FixGives, FixRefuses, FieldExp, RecordGives, RecordRefuses, SumGives, SumRefuses, LabelGives, LabelRefuses, InjectionGives, InjectionRefuses, CaseGives, CaseRefuses}
use Rattle.core_judgments.specs.DataRules.{DataWhy, MuGives, MuRefuses, RollGives, RollRefuses, UnrollGives, UnrollRefuses}

-- a rule without a refusal
abbrev pub Never : CoreWhy → Type 0
Never why = ⊥

abbrev pub OneBase : Type 0
OneBase = (b : Base) → Verdict (λ (o : Ty × Kind). BaseGives b o.0 o.1) Never

abbrev pub OneArrow : Type 0
OneArrow = (t : Ty) (k : Kind) (u : Ty) (j : Kind) → Verdict (λ (o : Ty × Kind). ArrowGives t k u j o.0 o.1) (ArrowRefuses t k u j)

abbrev pub OneAll : Type 0
OneAll = (k : Kind) (t : Ty) (j : Kind) → Verdict (λ (o : Ty × Kind). AllGives k t j o.0 o.1) (AllRefuses k t j)

abbrev pub OneOperator : Type 0
OneOperator = (k : Kind) (t : Ty) (j : Kind) → Verdict (λ (o : Ty × Kind). OperatorGives k t j o.0 o.1) Never

abbrev pub OneApplied : Type 0
OneApplied = (ctx : List Kind) (t : Ty) (k : Kind) (u : Ty) (j : Kind) → HasKind ctx t k → HasKind ctx u j → Verdict (λ (o : Ty × Kind). AppliedGives ctx t k u j o.0 o.1) (AppliedRefuses t k u j)

abbrev pub OneRecordType : Type 0
OneRecordType = (before : List Name) (fields : List FieldTy) → Verdict (RecordTypeGives before fields) (RecordTypeRefuses before fields)

abbrev pub OneLiteral : Type 0
OneLiteral = (l : Literal) → Verdict (λ (o : Ty × Term). LiteralGives l o.0 o.1) Never

abbrev pub OneFunction : Type 0
OneFunction = (t : Ty) (k : Kind) (u : Ty) (e : Term) → Verdict (λ (o : Ty × Term). FunctionGives t k u e o.0 o.1) (FunctionRefuses t k)

abbrev pub OneTypeFunction : Type 0
OneTypeFunction = (k : Kind) (t : Ty) (e : Term) → Verdict (λ (o : Ty × Term). TypeFunctionGives k t e o.0 o.1) Never

abbrev pub OneCall : Type 0
OneCall = (f : Ty) (d : Term) (v : Ty) (e : Term) → Verdict (λ (o : Ty × Term). CallGives f d v e o.0 o.1) (CallRefuses f v)

abbrev pub OneInstance : Type 0
OneInstance = (ctx : List Kind) (f : Ty) (e : Term) (t : Ty) (k : Kind) → HasKind ctx f Kind.Star → HasKind ctx t k → Verdict (λ (o : Ty × Term). InstanceGives ctx f e t k o.0 o.1) (InstanceRefuses f t k)

abbrev pub OneGet : Type 0
OneGet = (t : Ty) (e : Term) (l : Name) → Verdict (λ (o : Ty × Term). GetGives t e l o.0 o.1) (GetRefuses t l)

abbrev pub OneIf : Type 0
OneIf = (s : Ty) (d : Term) (t : Ty) (e : Term) (u : Ty) (f : Term) → Verdict (λ (o : Ty × Term). IfGives s d t e u f o.0 o.1) (IfRefuses s t u)

abbrev pub OneOperation : Type 0
OneOperation = (op : Op) (t : Ty) (d : Term) (u : Ty) (e : Term) → Verdict (λ (o : Ty × Term). OperationGives op t d u e o.0 o.1) (OperationRefuses t u)

abbrev pub OneFix : Type 0
OneFix = (t : Ty) (k : Kind) (u : Ty) (j : Kind) (v : Ty) (e : Term) → Verdict (λ (o : Ty × Term). FixGives t k u j v e o.0 o.1) (FixRefuses t k u j v)

abbrev pub OneRecord : Type 0
OneRecord = (before : List Name) (fields : List FieldExp) → Verdict (λ (o : Row × TermRow). RecordGives before fields o.0 o.1) (RecordRefuses before fields)

abbrev pub OneSum : Type 0
OneSum = (t : Ty) → Verdict (SumGives t) (SumRefuses t)

abbrev pub OneLabel : Type 0
OneLabel = (t : Ty) (l : Name) → Verdict (LabelGives t l) (LabelRefuses t l)

abbrev pub OneInjection : Type 0
OneInjection = (l : Name) (v : Ty) (e : Term) (t : Ty) (k : Kind) → Verdict (λ (o : Ty × Term). InjectionGives l v e t k o.0 o.1) (InjectionRefuses l v t k)

abbrev pub OneCase : Type 0
OneCase = (w : Ty) (e : Term) (t : Ty) (k : Kind) (branches : List FieldExp) → Verdict (λ (o : Ty × Term). CaseGives w e t k branches o.0 o.1) (CaseRefuses w t k branches)

abbrev pub OneMu : Type 0
OneMu = (t : Ty) (k : Kind) → Verdict {R = DataWhy} (λ (o : Ty × Kind). MuGives t k o.0 o.1) (MuRefuses t k)

abbrev pub OneRoll : Type 0
OneRoll = (ctx : List Kind) (v : Ty) (e : Term) (t : Ty) (k : Kind) → HasKind ctx t k → Verdict {R = DataWhy} (λ (o : Ty × Term). RollGives ctx v e t k o.0 o.1) (RollRefuses ctx v t k)

abbrev pub OneUnroll : Type 0
OneUnroll = (ctx : List Kind) (t : Ty) (e : Term) → HasKind ctx t Kind.Star → Verdict {R = DataWhy} (λ (o : Ty × Term). UnrollGives ctx t e o.0 o.1) (UnrollRefuses t)
