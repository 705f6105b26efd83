-- The steps of each rule in the order in which they are tried, each condition with its refusal. A condition that comes
-- before a later premise is a step of its own; the rule's own relations come when all premises are done.
use Rattle.std.specs.Prelude.{List, [], ◌∷◌, ◌≡◌, Bool, true, false, Some}
use Rattle.omega_kinds.specs.Kind.{Kind}
use Rattle.omega_kinds.specs.declared.effect.Effect.{Effect}
use Rattle.omega_kinds.specs.declared.effect.Effect.TheVariants.{Pure, Impure}
use Rattle.omega_kinds.specs.Name.{Name}
use Rattle.omega_types.specs.Ty.{Ty, Row}
use Rattle.omega_terms.specs.Term.{Term, TermRow}
use Rattle.sig_definitions.specs.Signatures.Sig.{Sig, Abs, SigRow, Module, made}
use Rattle.sig_definitions.specs.Explicit.SigPath.{SigPath}
use Rattle.sig_definitions.specs.Env.{Env, Value, kinds, find, type_vars, with_module, named_fields}
use Rattle.sig_definitions.specs.Lifting.{Lift}
use Rattle.sig_definitions.specs.QuantifierOrder.{Norm}
use Rattle.sig_definitions.specs.Signatures.FieldOrder.{with_name, with_names}
use Rattle.fing_syntax.specs.Phrase.{Span, SpanName, Mod, ModAt, ModName, ModStruct, ModProject, ModFunctor, ModApply, ModSeal, ModUnpack, Bind, BindAt, BindVal, BindTy, BindModule, BindSignature, BindInclude, Binds, NoBinds, MoreBinds, SigEx, SigAt, PathSig, SigDecls, SigFun, SigRefine, Decl, DeclAt, DeclVal, DeclTyIs, DeclTyOf, DeclModule, DeclSignature, DeclInclude, Decls, NoDecls, MoreDecls, TyEx, TyAt, PathTy, TyInt, TyBool, TyText, TyArrow, TyApply, TyFields, TyAll, TyLam, TyPack, TySum, TyMu, TyExs, NoTys, MoreTys, FieldTyExs, NoFieldTys, MoreFieldTys, Exp, ExpAt, PathExp, ExpInt, ExpBool, ExpText, ExpLam, ExpTyLam, ExpFix, ExpIf, ExpOps, ExpApply, ExpFields, ExpGet, ExpPack, ExpInj, ExpCase, ExpRoll, ExpUnroll, OpExps, NoOps, MoreOps, ArgExp, ArgTy, Args, NoArgs, MoreArgs, FieldExps, NoFieldExps, MoreFieldExps, Branches, NoBranches, MoreBranches}
use Rattle.fing_syntax.specs.Place.{name_of, name_span, mod_span, sig_span, ty_span, exp_span, path_span, decl_span, up_to}
use Rattle.sig_definitions.specs.Signatures.RecordOrder.{IsNew, AreNew}
use Rattle.core_judgments.specs.TypeRules.{Base, BaseGives, FieldTy, RecordTypeGives, RecordTypeRefuses, ArrowGives, ArrowRefuses, AllGives, AllRefuses, OperatorGives, AppliedGives, AppliedRefuses}
use Rattle.core_judgments.specs.ExpRules.{Literal, LiteralGives, FieldExp, RecordGives, RecordRefuses, FunctionGives, FunctionRefuses, TypeFunctionGives, CallGives, CallRefuses, InstanceGives, InstanceRefuses, GetGives, GetRefuses, IfGives, IfRefuses, OperationGives, OperationRefuses, FixGives, FixRefuses, SumGives, SumRefuses, LabelGives, LabelRefuses, InjectionGives, InjectionRefuses, CaseGives, CaseRefuses}
use Rattle.core_judgments.specs.DataRules.{MuGives, MuRefuses, RollGives, RollRefuses, UnrollGives, UnrollRefuses}
use Rattle.sig_judgments.specs.SigRules.{ValueGives, ValueRefuses, TypeGives, AbstractGives, ModuleGives, SignatureGives, IncludeGives, IncludeRefuses, DistinctRefuses, DeclarationsGive, WhereRefuses, GenerativeGives as GenerativeSigGives}
use Rattle.module_judgments.specs.ModRules.{NamedGives, NamedRefuses, ProjectRefuses, TypePathRefuses, ValuePathRefuses, SigPathRefuses, GenerativeGives, PartsGive, FunctorRefuses, ApplyGives, IncludeGives as IncludeModule, IncludeRefuses as IncludeModuleRefuses, SealGives, ValueGives as ValueModule, TypeGives as TypeModule, SignatureGives as SignatureModule}
use Rattle.functor_judgments.specs.PureFunctor.{PureFunctorGives}
use Rattle.package_judgments.specs.Package.{PackTypeGives, PackGives, UnpackGives, UnpackRefuses}
use Rattle.elab_judgments.specs.Refusals.Refusal.{of_core, of_data, of_sig, of_mod, of_unpack}
use Rattle.module_judgments.specs.PathUse.{TypeOfPath, ValueOfPath, SigOfPath}
use Rattle.module_judgments.specs.Projection.{Projected}
use Rattle.module_judgments.specs.Sequence.{Seq, Collected}
use Rattle.sig_judgments.specs.SigWhy.{SigWhy}
use Rattle.sig_judgments.specs.Refinement.{Refined, LeavesAt}
use Rattle.elab_judgments.specs.Operators.{omega_op, names_of, include_name, with_type}
use Rattle.refusal_reasons.specs.Refusal.{NotOperator, KindDiffer, Differ, DuplicateField, NotArrow, NotAll, NotRecord, NotData, NotStructure}
use Rattle.elab_judgments.specs.Refusals.Refusal.{refuse}
use Rattle.elab_judgments.specs.Refusals.Task.{Task, Result, a_type, type_args, type_fields, an_exp, operands, args, fields, branches, a_sig, a_decl, decls, a_mod, a_bind, binds}
use Rattle.elab_judgments.specs.Refusals.Rule.{Rule, some, test, the, stop, by_rule, matched}

-- where the refusal of a fixed type stands: at the name that leads nowhere, at the path to a part that is no hidden type,
-- at the type of another kind
pub data WhereAt (s : Sig) (z : SpanName) (path : List SpanName) (b : TyEx) : SigWhy → Span → Type 0 where
  at_name : {x : SpanName}
      → LeavesAt name_of s (z ∷ path) x
      → WhereAt s z path b (SigWhy.NoPart (name_of x)) (name_span x)
  at_path : {p : SigPath} → WhereAt s z path b (SigWhy.NotAbstract p) (path_span z path)
  at_type : {k j : Kind} → WhereAt s z path b (SigWhy.KindDiffer k j) (ty_span b)

-- the kind is that of types of values
abbrev pub star : {A : Type 0} → Env → TyEx → Kind → (Unit {0} → Rule A) → Rule A
star g a k go = test (k ≡ Kind.Star) (refuse g (ty_span a) (KindDiffer k Kind.Star)) go

-- the name is bound
abbrev pub found : {A : Type 0} → Env → SpanName → (Sig × Term → Rule A) → Rule A
found g x go = by_rule of_mod g (name_span x) (λ o. find g (name_of x) ≡ Some o) (NamedRefuses g (name_of x)) go

-- types

abbrev pub type_steps : Env → TyEx → Rule (Ty × Kind)
type_steps g (TyAt at (PathTy m)) =
    Rule.need g (a_mod m) λ M.
    by_rule of_mod g at (λ (o : Ty × Kind). TypeOfPath (kinds g) M o.0 o.1) (TypePathRefuses (kinds g) M) λ o.
    Rule.gives o
type_steps g (TyAt at TyInt) =
    the (λ (o : Ty × Kind). BaseGives Base.Int o.0 o.1) λ o.
    Rule.gives o
type_steps g (TyAt at TyBool) =
    the (λ (o : Ty × Kind). BaseGives Base.Bool o.0 o.1) λ o.
    Rule.gives o
type_steps g (TyAt at TyText) =
    the (λ (o : Ty × Kind). BaseGives Base.Text o.0 o.1) λ o.
    Rule.gives o
type_steps g (TyAt at (TyArrow a b)) =
    Rule.need g (a_type a) λ t.
    star g a t.1 λ h.
    Rule.need g (a_type b) λ u.
    by_rule of_core g (ty_span b) (λ (o : Ty × Kind). ArrowGives t.0 t.1 u.0 u.1 o.0 o.1) (ArrowRefuses t.0 t.1 u.0 u.1) λ o.
    Rule.gives o
type_steps g (TyAt at (TyApply a rest)) =
    Rule.need g (a_type a) λ t.
    Rule.need g (type_args (ty_span a) t.0 t.1 rest) λ u.
    Rule.gives u
type_steps g (TyAt at (TyFields rest)) =
    Rule.need g (type_fields [] rest) λ parts.
    by_rule of_core g at (RecordTypeGives [] parts) (RecordTypeRefuses [] parts) λ row.
    Rule.gives (Ty.Fields row, Kind.Star)
type_steps g (TyAt at (TyAll x k b)) =
    Rule.need (with_type g k (name_of x)) (a_type b) λ t.
    by_rule of_core g (ty_span b) (λ (o : Ty × Kind). AllGives k t.0 t.1 o.0 o.1) (AllRefuses k t.0 t.1) λ o.
    Rule.gives o
type_steps g (TyAt at (TyLam x k b)) =
    Rule.need (with_type g k (name_of x)) (a_type b) λ t.
    the (λ (o : Ty × Kind). OperatorGives k t.0 t.1 o.0 o.1) λ o.
    Rule.gives o
type_steps g (TyAt at (TyPack a)) =
    Rule.need g (a_sig a) λ x.
    the (PackTypeGives (kinds g) x) λ t.
    Rule.gives (t, Kind.Star)
type_steps g (TyAt at (TySum rest)) =
    Rule.need g (type_fields [] rest) λ parts.
    by_rule of_core g at (RecordTypeGives [] parts) (RecordTypeRefuses [] parts) λ row.
    Rule.gives (Ty.Sum row, Kind.Star)
type_steps g (TyAt at (TyMu x b)) =
    Rule.need (with_type g Kind.Star (name_of x)) (a_type b) λ t.
    by_rule of_data g (ty_span b) (λ (o : Ty × Kind). MuGives t.0 t.1 o.0 o.1) (MuRefuses t.0 t.1) λ o.
    Rule.gives o

abbrev pub type_args_steps : Env → Span → Ty → Kind → TyExs → Rule (Ty × Kind)
type_args_steps g at t k NoTys = Rule.gives (t, k)
type_args_steps g at t k (MoreTys a rest) =
    some (λ (p : Kind × Kind). k ≡ Kind.Arrow p.0 p.1) (refuse g at NotOperator) λ p.
    Rule.need g (a_type a) λ u.
    by_rule of_core g (ty_span a) (λ (o : Ty × Kind). AppliedGives (kinds g) t k u.0 u.1 o.0 o.1) (AppliedRefuses t k u.0 u.1) λ v.
    Rule.need g (type_args (up_to at (ty_span a)) v.0 v.1 rest) λ w.
    Rule.gives w

abbrev pub type_fields_steps : Env → List Name → FieldTyExs → Rule (List FieldTy)
type_fields_steps g before NoFieldTys = Rule.gives []
type_fields_steps g before (MoreFieldTys x a rest) =
    test (IsNew (name_of x) before) (refuse g (name_span x) (DuplicateField (name_of x))) λ n.
    Rule.need g (a_type a) λ t.
    star g a t.1 λ h.
    Rule.need g (type_fields (name_of x ∷ before) rest) λ parts.
    Rule.gives (FieldTy.field (name_of x) t.0 t.1 ∷ parts)

-- expressions

abbrev pub exp_steps : Env → Exp → Rule (Ty × Term)
exp_steps g (ExpAt at (PathExp m)) =
    Rule.need g (a_mod m) λ M.
    by_rule of_mod g at (λ (o : Ty × Term). ValueOfPath (kinds g) M o.0 o.1) (ValuePathRefuses (kinds g) M) λ o.
    Rule.gives o
exp_steps g (ExpAt at (ExpInt z)) =
    the (λ (o : Ty × Term). LiteralGives (Literal.Int z) o.0 o.1) λ o.
    Rule.gives o
exp_steps g (ExpAt at (ExpBool b)) =
    the (λ (o : Ty × Term). LiteralGives (Literal.Bool b) o.0 o.1) λ o.
    Rule.gives o
exp_steps g (ExpAt at (ExpText w)) =
    the (λ (o : Ty × Term). LiteralGives (Literal.Text w) o.0 o.1) λ o.
    Rule.gives o
exp_steps g (ExpAt at (ExpLam x a b)) =
    Rule.need g (a_type a) λ t.
    star g a t.1 λ h.
    Rule.need (Value (name_of x) t.0 ∷ g) (an_exp b) λ u.
    by_rule of_core g (ty_span a) (λ (o : Ty × Term). FunctionGives t.0 t.1 u.0 u.1 o.0 o.1) (FunctionRefuses t.0 t.1) λ o.
    Rule.gives o
exp_steps g (ExpAt at (ExpTyLam x k b)) =
    Rule.need (with_type g k (name_of x)) (an_exp b) λ t.
    the (λ (o : Ty × Term). TypeFunctionGives k t.0 t.1 o.0 o.1) λ o.
    Rule.gives o
exp_steps g (ExpAt at (ExpFix f x a b c)) =
    Rule.need g (a_type a) λ t.
    star g a t.1 λ h.
    Rule.need g (a_type b) λ u.
    star g b u.1 λ i.
    Rule.need (Value (name_of x) t.0 ∷ Value (name_of f) (Ty.Arrow t.0 u.0) ∷ g) (an_exp c) λ v.
    by_rule of_core g (exp_span c) (λ (o : Ty × Term). FixGives t.0 t.1 u.0 u.1 v.0 v.1 o.0 o.1) (FixRefuses t.0 t.1 u.0 u.1 v.0) λ o.
    Rule.gives o
exp_steps g (ExpAt at (ExpIf a b c)) =
    Rule.need g (an_exp a) λ t.
    test (t.0 ≡ Ty.Bool) (refuse g (exp_span a) (Differ t.0 Ty.Bool)) λ h.
    Rule.need g (an_exp b) λ u.
    Rule.need g (an_exp c) λ v.
    by_rule of_core g (exp_span b) (λ (o : Ty × Term). IfGives t.0 t.1 u.0 u.1 v.0 v.1 o.0 o.1) (IfRefuses t.0 u.0 v.0) λ o.
    Rule.gives o
exp_steps g (ExpAt at (ExpOps a rest)) =
    Rule.need g (an_exp a) λ t.
    Rule.need g (operands (exp_span a) t.0 t.1 rest) λ u.
    Rule.gives u
exp_steps g (ExpAt at (ExpApply a rest)) =
    Rule.need g (an_exp a) λ t.
    Rule.need g (args (exp_span a) t.0 t.1 rest) λ u.
    Rule.gives u
exp_steps g (ExpAt at (ExpFields rest)) =
    Rule.need g (fields [] rest) λ parts.
    by_rule of_core g at (λ (o : Row × TermRow). RecordGives [] parts o.0 o.1) (RecordRefuses [] parts) λ o.
    Rule.gives (Ty.Fields o.0, Term.Fields o.1)
exp_steps g (ExpAt at (ExpGet a x)) =
    Rule.need g (an_exp a) λ t.
    some (λ row. t.0 ≡ Ty.Fields row) (refuse g (exp_span a) (NotRecord t.0)) λ row.
    by_rule of_core g (name_span x) (λ (o : Ty × Term). GetGives t.0 t.1 (name_of x) o.0 o.1) (GetRefuses t.0 (name_of x)) λ o.
    Rule.gives o
exp_steps g (ExpAt at (ExpPack x a)) =
    found g x λ o.
    Rule.need g (a_sig a) λ y.
    the (Norm (kinds g) y) λ z.
    matched g (sig_span a) o.0 z λ m.
    the (λ (p : Ty × Term). PackGives (kinds g) o.1 z m.0 m.1 p.0 p.1) λ p.
    Rule.gives p
exp_steps g (ExpAt at (ExpInj x a b)) =
    Rule.need g (an_exp a) λ t.
    Rule.need g (a_type b) λ u.
    star g b u.1 λ h.
    by_rule of_core g (ty_span b) (SumGives u.0) (SumRefuses u.0) λ row.
    by_rule of_core g (name_span x) (LabelGives u.0 (name_of x)) (LabelRefuses u.0 (name_of x)) λ v.
    by_rule of_core g (exp_span a) (λ (o : Ty × Term). InjectionGives (name_of x) t.0 t.1 u.0 u.1 o.0 o.1) (InjectionRefuses (name_of x) t.0 u.0 u.1) λ o.
    Rule.gives o
exp_steps g (ExpAt at (ExpCase a b rest)) =
    Rule.need g (an_exp a) λ t.
    by_rule of_core g (exp_span a) (SumGives t.0) (SumRefuses t.0) λ row.
    Rule.need g (a_type b) λ u.
    star g b u.1 λ h.
    Rule.need g (branches t.0 u.0 [] rest) λ parts.
    by_rule of_core g at (λ (o : Ty × Term). CaseGives t.0 t.1 u.0 u.1 parts o.0 o.1) (CaseRefuses t.0 u.0 u.1 parts) λ o.
    Rule.gives o
exp_steps g (ExpAt at (ExpRoll a b)) =
    Rule.need g (an_exp a) λ t.
    Rule.need g (a_type b) λ u.
    star g b u.1 λ h.
    some (λ body. u.0 ≡ Ty.Mu body) (refuse g (ty_span b) (NotData u.0)) λ body.
    by_rule of_data g (exp_span a) (λ (o : Ty × Term). RollGives (kinds g) t.0 t.1 u.0 u.1 o.0 o.1) (RollRefuses (kinds g) t.0 u.0 u.1) λ o.
    Rule.gives o
exp_steps g (ExpAt at (ExpUnroll a)) =
    Rule.need g (an_exp a) λ t.
    by_rule of_data g (exp_span a) (λ (o : Ty × Term). UnrollGives (kinds g) t.0 t.1 o.0 o.1) (UnrollRefuses t.0) λ o.
    Rule.gives o

abbrev pub operands_steps : Env → Span → Ty → Term → OpExps → Rule (Ty × Term)
operands_steps g at t e NoOps = Rule.gives (t, e)
operands_steps g at t e (MoreOps o b rest) =
    test (t ≡ Ty.Int) (refuse g at (Differ t Ty.Int)) λ h.
    Rule.need g (an_exp b) λ u.
    by_rule of_core g (exp_span b) (λ (p : Ty × Term). OperationGives (omega_op o) t e u.0 u.1 p.0 p.1) (OperationRefuses t u.0) λ p.
    Rule.need g (operands (up_to at (exp_span b)) p.0 p.1 rest) λ v.
    Rule.gives v

abbrev pub args_steps : Env → Span → Ty → Term → Args → Rule (Ty × Term)
args_steps g at t e NoArgs = Rule.gives (t, e)
args_steps g at t e (MoreArgs (ArgExp b) rest) =
    some (λ (p : Ty × Ty). t ≡ Ty.Arrow p.0 p.1) (refuse g at (NotArrow t)) λ p.
    Rule.need g (an_exp b) λ u.
    by_rule of_core g (exp_span b) (λ (o : Ty × Term). CallGives t e u.0 u.1 o.0 o.1) (CallRefuses t u.0) λ o.
    Rule.need g (args (up_to at (exp_span b)) o.0 o.1 rest) λ v.
    Rule.gives v
args_steps g at t e (MoreArgs (ArgTy a place) rest) =
    some (λ (p : Kind × Ty). t ≡ Ty.All p.0 p.1) (refuse g at (NotAll t)) λ p.
    Rule.need g (a_type a) λ u.
    by_rule of_core g (ty_span a) (λ (o : Ty × Term). InstanceGives (kinds g) t e u.0 u.1 o.0 o.1) (InstanceRefuses t u.0 u.1) λ o.
    Rule.need g (args (up_to at place) o.0 o.1 rest) λ w.
    Rule.gives w

abbrev pub fields_steps : Env → List Name → FieldExps → Rule (List FieldExp)
fields_steps g before NoFieldExps = Rule.gives []
fields_steps g before (MoreFieldExps x a rest) =
    test (IsNew (name_of x) before) (refuse g (name_span x) (DuplicateField (name_of x))) λ n.
    Rule.need g (an_exp a) λ t.
    Rule.need g (fields (name_of x ∷ before) rest) λ parts.
    Rule.gives (FieldExp.field (name_of x) t.0 t.1 ∷ parts)

abbrev pub branches_steps : Env → Ty → Ty → List Name → Branches → Rule (List FieldExp)
branches_steps g w t before NoBranches = Rule.gives []
branches_steps g w t before (MoreBranches x y a rest) =
    test (IsNew (name_of x) before) (refuse g (name_span x) (DuplicateField (name_of x))) λ n.
    by_rule of_core g (name_span x) (LabelGives w (name_of x)) (LabelRefuses w (name_of x)) λ u.
    Rule.need (Value (name_of y) u ∷ g) (an_exp a) λ v.
    test (v.0 ≡ t) (refuse g (exp_span a) (Differ v.0 t)) λ h.
    Rule.need g (branches w t (name_of x ∷ before) rest) λ parts.
    Rule.gives (FieldExp.field (name_of x) v.0 v.1 ∷ parts)

-- signatures and declarations

abbrev pub functor_sig : Env → Bool → SpanName → SigEx → Abs → Rule Abs
functor_sig g false x b (Abs.Ex ks s) =
    Rule.need (with_module g ks (name_of x) s) (a_sig b) λ y.
    the (GenerativeSigGives (Abs.Ex ks s) y) λ z.
    Rule.gives z
functor_sig g true x b (Abs.Ex ks s) =
    Rule.need (with_module g ks (name_of x) s) (a_sig b) λ y.
    the (Lift (kinds g) ks s y) λ z.
    Rule.gives z

abbrev pub refined : Env → SpanName → List SpanName → TyEx → Abs → Ty × Kind → Rule Abs
refined g z path b (Abs.Ex ks s) u =
    Rule.ask (Refined (kinds g) (Abs.Ex ks s) (names_of (z ∷ path)) u.0 u.1)
    (λ q. (why : SigWhy) × WhereRefuses (Abs.Ex ks s) (names_of (z ∷ path)) u.0 u.1 why × ((at : Span) × WhereAt s z path b why at × (q ≡ refuse g at (of_sig why)))) λ y.
    Rule.gives y

abbrev pub sig_steps : Env → SigEx → Rule Abs
sig_steps g (SigAt at (PathSig m)) =
    Rule.need g (a_mod m) λ M.
    by_rule of_mod g at (SigOfPath (kinds g) M) (SigPathRefuses (kinds g) M) λ x.
    Rule.gives x
sig_steps g (SigAt at (SigDecls ds)) =
    Rule.need g (decls [] ds) λ x.
    Rule.gives x
sig_steps g (SigAt at (SigFun pure x a b)) = Rule.need g (a_sig a) λ y. functor_sig g pure x b y
sig_steps g (SigAt at (SigRefine a z path b)) =
    Rule.need g (a_sig a) λ x.
    Rule.need g (a_type b) λ u.
    refined g z path b x u

abbrev pub decl_steps : Env → Decl → Rule Abs
decl_steps g (DeclAt at (DeclVal x a)) =
    Rule.need g (a_type a) λ t.
    by_rule of_sig g (ty_span a) (ValueGives (name_of x) t.0 t.1) (ValueRefuses t.0 t.1) λ y.
    Rule.gives y
decl_steps g (DeclAt at (DeclTyIs x a)) =
    Rule.need g (a_type a) λ t.
    the (TypeGives (name_of x) t.0 t.1) λ y.
    Rule.gives y
decl_steps g (DeclAt at (DeclTyOf x k)) =
    the (AbstractGives (name_of x) k) λ y.
    Rule.gives y
decl_steps g (DeclAt at (DeclModule x a)) =
    Rule.need g (a_sig a) λ y.
    the (ModuleGives (name_of x) y) λ z.
    Rule.gives z
decl_steps g (DeclAt at (DeclSignature x a)) =
    Rule.need g (a_sig a) λ y.
    the (SignatureGives (name_of x) y) λ z.
    Rule.gives z
decl_steps g (DeclAt at (DeclInclude a)) =
    Rule.need g (a_sig a) λ y.
    by_rule of_sig g (sig_span a) (IncludeGives y) (IncludeRefuses y) λ z.
    Rule.gives z

abbrev pub decls_from : Env → List Name → Decl → Decls → Abs → Rule Abs
decls_from g before d ds (Abs.Ex ks s) =
    the (λ fs. s ≡ Sig.Str fs) λ fs.
    by_rule of_sig g (decl_span d) (λ (u : Unit {0}). AreNew fs before) (DistinctRefuses before fs) λ u.
    Rule.need (named_fields (type_vars g ks) fs) (decls (with_names fs before) ds) λ y.
    the (DeclarationsGive (Abs.Ex ks (Sig.Str fs)) y) λ z.
    Rule.gives z

abbrev pub decls_steps : Env → List Name → Decls → Rule Abs
decls_steps g before NoDecls = Rule.gives (Abs.Ex [] (Sig.Str SigRow.End))
decls_steps g before (MoreDecls d ds) = Rule.need g (a_decl d) λ x. decls_from g before d ds x

-- modules and bindings

abbrev pub generative : Env → List Kind → Sig → Module → Rule Module
generative g ks s M =
    the (GenerativeGives (kinds g) ks s M) λ N.
    Rule.gives N

abbrev pub functor_of : Env → List Kind → Sig → Bool → Module → Rule Module
functor_of g ks s false (made Pure y ts e) =
    the (PureFunctorGives (kinds g) ks s (made Pure y ts e)) λ N.
    Rule.gives N
functor_of g ks s false (made Impure y ts e) = generative g ks s (made Impure y ts e)
functor_of g ks s true M = generative g ks s M

abbrev pub functor_body : Env → Bool → SpanName → Mod → Abs → Rule Module
functor_body g gen x b (Abs.Ex ks s) = Rule.need (with_module g ks (name_of x) s) (a_mod b) λ M. functor_of g ks s gen M

abbrev pub mod_steps : Env → Mod → Rule Module
mod_steps g (ModAt at (ModName x)) =
    by_rule of_mod g (name_span x) (NamedGives g (name_of x)) (NamedRefuses g (name_of x)) λ M.
    Rule.gives M
mod_steps g (ModAt at (ModStruct bs)) =
    Rule.need g (binds [] bs) λ M.
    Rule.gives M
mod_steps g (ModAt at (ModProject m x)) =
    Rule.need g (a_mod m) λ M.
    by_rule of_mod g (name_span x) (Projected (kinds g) M (name_of x)) (ProjectRefuses M (name_of x)) λ N.
    Rule.gives N
mod_steps g (ModAt at (ModFunctor gen x a b)) = Rule.need g (a_sig a) λ y. functor_body g gen x b y
mod_steps g (ModAt at (ModApply x z)) =
    found g x λ o.
    by_rule of_mod g (name_span x) (λ (p : Effect × Abs × Abs). PartsGive o.0 p.0 p.1 p.2) (FunctorRefuses o.0) λ p.
    found g z λ q.
    matched g (name_span z) q.0 p.1 λ m.
    the (ApplyGives (kinds g) o.0 o.1 m.0 m.1 q.1) λ M.
    Rule.gives M
mod_steps g (ModAt at (ModSeal x a)) =
    found g x λ o.
    Rule.need g (a_sig a) λ y.
    matched g (sig_span a) o.0 y λ m.
    the (SealGives o.1 y m.0 m.1) λ M.
    Rule.gives M
mod_steps g (ModAt at (ModUnpack b a)) =
    Rule.need g (an_exp b) λ t.
    Rule.need g (a_sig a) λ x.
    the (Norm (kinds g) x) λ y.
    by_rule of_unpack g (exp_span b) (UnpackGives t.0 t.1 y) (UnpackRefuses t.0 y) λ M.
    Rule.gives M

abbrev pub bind_steps : Env → Bind → Rule (Name × Module)
bind_steps g (BindAt at (BindVal x a)) =
    Rule.need g (an_exp a) λ t.
    the (ValueModule t.0 t.1) λ M.
    Rule.gives (name_of x, M)
bind_steps g (BindAt at (BindTy x a)) =
    Rule.need g (a_type a) λ t.
    the (TypeModule t.0 t.1) λ M.
    Rule.gives (name_of x, M)
bind_steps g (BindAt at (BindSignature x a)) =
    Rule.need g (a_sig a) λ y.
    the (SignatureModule y) λ M.
    Rule.gives (name_of x, M)
bind_steps g (BindAt at (BindModule x m)) =
    Rule.need g (a_mod m) λ M.
    Rule.gives (name_of x, M)
-- an include is no single binding
bind_steps g (BindAt at (BindInclude m)) = stop (refuse g at NotStructure)

abbrev pub after_bind : Env → List Name → Binds → Name → Module → Rule Module
after_bind g before bs x (made f (Abs.Ex ks s) ts e) =
    Rule.need (with_module g ks x s) (binds (with_name x before) bs) λ M.
    the (Seq (kinds g) (made f (Abs.Ex ks s) ts e) M) λ N.
    Rule.gives N

abbrev pub after_include : Env → List Name → Mod → Binds → Module → Rule Module
after_include g before m bs (made f (Abs.Ex ks s) ts e) =
    by_rule of_mod g (mod_span m) (λ fs. s ≡ Sig.Str fs) (IncludeModuleRefuses (made f (Abs.Ex ks s) ts e)) λ fs.
    Rule.need (named_fields (with_module g ks include_name (Sig.Str fs)) fs) (binds (with_names fs before) bs) λ M.
    the (IncludeModule (kinds g) (made f (Abs.Ex ks (Sig.Str fs)) ts e) M) λ N.
    Rule.gives N

abbrev pub binds_steps : Env → List Name → Binds → Rule Module
binds_steps g before NoBinds =
    the (λ (o : SigRow × TermRow). Collected g before o.0 o.1) λ o.
    Rule.gives (made Pure (Abs.Ex [] (Sig.Str o.0)) [] (Term.Fields o.1))
binds_steps g before (MoreBinds (BindAt at (BindInclude m)) bs) = Rule.need g (a_mod m) λ M. after_include g before m bs M
binds_steps g before (MoreBinds b bs) = Rule.need g (a_bind b) λ o. after_bind g before bs o.0 o.1

-- the rule of each task
abbrev pub steps : (g : Env) (a : Task) → Rule (Result a)
steps g (a_type a) = type_steps g a
steps g (type_args at t k rest) = type_args_steps g at t k rest
steps g (type_fields before rest) = type_fields_steps g before rest
steps g (an_exp a) = exp_steps g a
steps g (operands at t e rest) = operands_steps g at t e rest
steps g (args at t e rest) = args_steps g at t e rest
steps g (fields before rest) = fields_steps g before rest
steps g (branches w t before rest) = branches_steps g w t before rest
steps g (a_sig a) = sig_steps g a
steps g (a_decl d) = decl_steps g d
steps g (decls before ds) = decls_steps g before ds
steps g (a_mod m) = mod_steps g m
steps g (a_bind b) = bind_steps g b
steps g (binds before bs) = binds_steps g before bs
