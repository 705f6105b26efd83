-- The types that a refusal tells are normal in a context of as many type variables as it tells.
-- Main results: refusals_are_good.
use Rattle.std.specs.Prelude.{List, [], ◌∷◌, ◌≡◌, Bool, true, false}
use Rattle.std.proofs.Common.{inl, inr}
use Rattle.std.proofs.Math.Path.{refl, sym, subst}
use Rattle.omega_kinds.specs.Kind.{Kind}
use Rattle.omega_kinds.specs.declared.effect.Effect.TheVariants.{Pure}
use Rattle.omega_kinds.specs.Name.{Name}
use Rattle.omega_types.specs.Ty.{Ty, Row}
use Rattle.omega_types.specs.Normality.{Normal}
use Rattle.omega_types.specs.Normality.Normal.{n_arrow, n_neutral, n_int, n_bool}
use Rattle.omega_types.specs.Binders.{extend}
use Rattle.omega_terms.specs.declared.op.Op.{Op}
use Rattle.omega_terms.specs.Term.{Term}
use Rattle.omega_terms.proofs.NormalTyping.{normal-sum}
use Rattle.sig_definitions.specs.Signatures.Sig.{Sig, Abs, Module, made}
use Rattle.sig_definitions.specs.Env.{Env, Value, kinds, with_module}
use Rattle.sig_definitions.specs.Matching.MatchRefusal.{MatchRefusal, RefusesMatch}
use Rattle.sig_laws.specs.Good.{OkSig, OkRow, OkRight, OkEnv, OkModule}
use Rattle.sig_laws.proofs.Algebra.FormLaws.{kinds-type_vars}
use Rattle.sig_laws.proofs.Encoded.EncodingLaws.{enc_well_formed-normal}
use Rattle.sig_laws.proofs.Formed.Conditions.{explicit-abs, abs-body, structure-row}
use Rattle.fing_syntax.specs.Phrase.{Span, SpanName, Mod, ModAt, ModName, ModStruct, ModProject, ModFunctor, ModApply, ModSeal, ModUnpack, Bind, BindAt, BindVal, BindTy, BindModule, BindSignature, BindInclude, Binds, NoBinds, MoreBinds, SigEx, SigAt, PathSig, SigDecls, SigFun, SigRefine, Decl, DeclAt, DeclVal, DeclTyIs, DeclTyOf, DeclModule, DeclSignature, DeclInclude, Decls, NoDecls, MoreDecls, TyEx, TyAt, PathTy, TyInt, TyBool, TyText, TyArrow, TyApply, TyFields, TyAll, TyLam, TyPack, TySum, TyMu, TyExs, NoTys, MoreTys, FieldTyExs, NoFieldTys, MoreFieldTys, Exp, ExpAt, PathExp, ExpInt, ExpBool, ExpText, ExpLam, ExpTyLam, ExpFix, ExpIf, ExpOps, ExpApply, ExpFields, ExpGet, ExpPack, ExpInj, ExpCase, ExpRoll, ExpUnroll, OpExps, NoOps, MoreOps, ArgExp, ArgTy, Args, NoArgs, MoreArgs, FieldExps, NoFieldExps, MoreFieldExps, Branches, NoBranches, MoreBranches}
use Rattle.fing_syntax.specs.Place.{name_of}
use Rattle.refusal_reasons.specs.Refusal.{Refusal, ElabWhy, NotArrow, NotAll, NotRecord, NotData, Differ, KindDiffer, DuplicateField, NotOperator, NotStructure}
use Rattle.refusal_reasons.specs.Good.{GoodWhy, GoodRefusal}
use Rattle.core_judgments.specs.CoreWhy.{CoreWhy}
use Rattle.core_judgments.specs.TypeRules.{FieldTy, RecordTypeRefuses, ArrowRefuses, AllRefuses, AppliedGives, AppliedRefuses}
use Rattle.core_judgments.specs.ExpRules.{FieldExp, RecordRefuses, FunctionRefuses, CallGives, CallRefuses, InstanceGives, InstanceRefuses, GetRefuses, IfRefuses, OperationGives, OperationRefuses, FixRefuses, SumRefuses, LabelRefuses, InjectionRefuses, BranchesRefuse, CaseRefuses}
use Rattle.core_judgments.specs.DataRules.{DataWhy, MuRefuses, RollRefuses, UnrollRefuses}
use Rattle.sig_judgments.specs.SigWhy.{SigWhy}
use Rattle.module_judgments.specs.ModWhy.{ModWhy}
use Rattle.module_judgments.proofs.Verdicts.{param-ok}
use Rattle.package_judgments.specs.Package.{UnpackWhy, UnpackRefuses}
use Rattle.sig_premise_laws.proofs.Environments.{body-ok, good-module, good-fields, good-type_fields, find-good}
use Rattle.elab_judgments.specs.Operators.{include_name}
use Rattle.elab_judgments.specs.Judgments.Meaning.{BranchesMean}
use Rattle.elab_judgments.specs.Refusals.Refusal.{refuse, refuse_match, of_core, of_data, of_sig, of_mod, of_unpack}
use Rattle.elab_judgments.specs.Refusals.Task.{Task, Result, Means, a_type, type_args, type_fields, an_exp, operands, args, fields, branches, a_sig, a_decl, decls, a_mod, a_bind, binds}
use Rattle.elab_judgments.specs.Refusals.Rule.{Rule, Fails, Enters}
use Rattle.elab_judgments.specs.Refusals.Steps.{steps, type_steps, type_args_steps, type_fields_steps, exp_steps, operands_steps, args_steps, fields_steps, branches_steps, functor_sig, refined, sig_steps, decl_steps, decls_from, decls_steps, functor_of, functor_body, mod_steps, bind_steps, after_bind, after_include, binds_steps}
use Rattle.elab_judgments.specs.Refusals.Refused.{Refused}
use Rattle.elab_laws.proofs.SumTyping.{part-normal, label-normal}
use Rattle.elab_laws.proofs.Kept.{type_ok, exp_ok, sig_ok, decl_ok, mod_ok, bind_ok, norm_ok}
use Rattle.elab_exact.specs.Claims.{RefusalsAreGood}
use Rattle.elab_exact.proofs.GoodMatches.{refused-match}

-- what a task holds besides its phrases is normal
abbrev Holds : Env → Task → Type 0
Holds g (type_args at t k rest) = Normal (kinds g) t k
Holds g (operands at t e rest) = Normal (kinds g) t Kind.Star
Holds g (args at t e rest) = Normal (kinds g) t Kind.Star
Holds g (branches w t before rest) = Normal (kinds g) w Kind.Star × Normal (kinds g) t Kind.Star
Holds g _ = Unit {0}

-- the refusals of each condition are good, and each premise stands in a good environment
abbrev Safe : {A : Type 0} → Rule A → Type 0
Safe (Rule.gives x) = Unit {0}
Safe (Rule.need g a go) = (OkEnv g × Holds g a) × ((o : Result a) → Means g a o → Safe (go o))
Safe (Rule.ask {B} P Q go) = ((r : Refusal) → Q r → GoodRefusal r) × ((b : B) → P b → Safe (go b))

fails-good : {A : Type 0} (R : Rule A) (r : Refusal) → Safe R → Fails R r → GoodRefusal r
fails-good (Rule.gives x) r s f = absurd f
fails-good (Rule.need g a go) r s f = fails-good (go f.0) r (s.1 f.0 f.1) f.2
fails-good (Rule.ask P Q go) r s (inl q) = s.0 r q
fails-good (Rule.ask P Q go) r s (inr f) = fails-good (go f.0) r (s.1 f.0 f.1) f.2

moved : {g h : Env} {a b : Task} → g ≡ h → a ≡ b → OkEnv g × Holds g a → OkEnv h × Holds h b
moved {g} {h} {a} {b} e f k = subst (λ g. OkEnv g × Holds g b) e (subst (λ a. OkEnv g × Holds g a) f k)

enters-good : {A : Type 0} (R : Rule A) (h : Env) (b : Task) → Safe R → Enters R h b → OkEnv h × Holds h b
enters-good (Rule.gives x) h b s e = absurd e
enters-good (Rule.need g a go) h b s (inl e) = moved e.0 e.1 s.0
enters-good (Rule.need g a go) h b s (inr e) = enters-good (go e.0) h b (s.1 e.0 e.1) e.2
enters-good (Rule.ask P Q go) h b s e = enters-good (go e.0) h b (s.1 e.0 e.1) e.2

-- the refusals of one condition

none : (r : Refusal) → ⊥ → GoodRefusal r
none r f = absurd f

told : (g : Env) (at : Span) (why : ElabWhy) → GoodWhy (kinds g) why → (r : Refusal) → r ≡ refuse g at why → GoodRefusal r
told g at why k r e = subst GoodRefusal (sym e) (kinds g, refl, k)

plain : {P : Type 0} (g : Env) (at : Span) (why : ElabWhy) → GoodWhy (kinds g) why → (r : Refusal) → P × (r ≡ refuse g at why) → GoodRefusal r
plain g at why k r q = told g at why k r q.1

by_core : {T : CoreWhy → Type 0} (g : Env) (at : Span) → ((why : CoreWhy) → T why → GoodWhy (kinds g) (of_core why)) → (r : Refusal) → (why : CoreWhy) × T why × (r ≡ refuse g at (of_core why)) → GoodRefusal r
by_core g at f r q = told g at (of_core q.0) (f q.0 q.1) r q.2

by_data : {T : DataWhy → Type 0} (g : Env) (at : Span)
    → ((why : DataWhy) → T why → GoodWhy (kinds g) (of_data why))
    → (r : Refusal)
    → (why : DataWhy) × T why × (r ≡ refuse g at (of_data why))
    → GoodRefusal r
by_data g at f r q = told g at (of_data q.0) (f q.0 q.1) r q.2

of_mod-good : (ctx : List Kind) (why : ModWhy) → GoodWhy ctx (of_mod why)
of_mod-good ctx (ModWhy.Unbound l) = tt
of_mod-good ctx _ = tt

by_mod : {T : ModWhy → Type 0} (g : Env) (at : Span) (r : Refusal) → (why : ModWhy) × T why × (r ≡ refuse g at (of_mod why)) → GoodRefusal r
by_mod g at r q = told g at (of_mod q.0) (of_mod-good (kinds g) q.0) r q.2

of_sig-good : (ctx : List Kind) (why : SigWhy) → GoodWhy ctx (of_sig why)
of_sig-good ctx (SigWhy.NotAbstract p) = tt
of_sig-good ctx _ = tt

by_sig : {T : SigWhy → Type 0} (g : Env) (at : Span) (r : Refusal) → (why : SigWhy) × T why × (r ≡ refuse g at (of_sig why)) → GoodRefusal r
by_sig g at r q = told g at (of_sig q.0) (of_sig-good (kinds g) q.0) r q.2

by_match : (g : Env) (at : Span) (s : Sig) (y : Abs) → OkSig (kinds g) s → OkRight (kinds g) y → (r : Refusal) → (q : MatchRefusal) × RefusesMatch (kinds g) s y q × (r ≡ refuse_match g at q) → GoodRefusal r
by_match g at s y w v r q = subst GoodRefusal (sym q.2) (refused-match g at s y q.0 w v q.1)

-- the refusals of the rules of types and of expressions

record_type-good : (ctx : List Kind) {before : List Name} {parts : List FieldTy} (why : CoreWhy) → RecordTypeRefuses before parts why → GoodWhy ctx (of_core why)
record_type-good ctx _ (RecordTypeRefuses.name_again n) = tt
record_type-good ctx _ (RecordTypeRefuses.field_kind n k) = tt
record_type-good ctx why (RecordTypeRefuses.later_field n r) = record_type-good ctx why r

record-good : (ctx : List Kind) {before : List Name} {parts : List FieldExp} (why : CoreWhy) → RecordRefuses before parts why → GoodWhy ctx (of_core why)
record-good ctx _ (RecordRefuses.name_again n) = tt
record-good ctx why (RecordRefuses.later_field n r) = record-good ctx why r

arrow-good : (ctx : List Kind) {t u : Ty} {k j : Kind} (why : CoreWhy) → ArrowRefuses t k u j why → GoodWhy ctx (of_core why)
arrow-good ctx _ (ArrowRefuses.from_kind n) = tt
arrow-good ctx _ (ArrowRefuses.to_kind n) = tt

all-good : (ctx : List Kind) {t : Ty} {k j : Kind} (why : CoreWhy) → AllRefuses k t j why → GoodWhy ctx (of_core why)
all-good ctx _ (AllRefuses.body_kind n) = tt

applied-good : (ctx : List Kind) {t u : Ty} {k j : Kind} (why : CoreWhy) → AppliedRefuses t k u j why → GoodWhy ctx (of_core why)
applied-good ctx _ AppliedRefuses.no_operator = tt
applied-good ctx _ (AppliedRefuses.arg_kind n) = tt

function-good : (ctx : List Kind) {t : Ty} {k : Kind} (why : CoreWhy) → FunctionRefuses t k why → GoodWhy ctx (of_core why)
function-good ctx _ (FunctionRefuses.param_kind n) = tt

arrow-normal : {ctx : List Kind} {t u : Ty} → Normal ctx (Ty.Arrow t u) Kind.Star → Normal ctx t Kind.Star × Normal ctx u Kind.Star
arrow-normal (n_arrow a b) = (a, b)
arrow-normal (n_neutral n) = elim n [ ]

call-good : {ctx : List Kind} {f v : Ty} → Normal ctx f Kind.Star → Normal ctx v Kind.Star → (why : CoreWhy) → CallRefuses f v why → GoodWhy ctx (of_core why)
call-good m n _ (CallRefuses.no_function a) = m
call-good m n _ (CallRefuses.arg_type e) = (n, (arrow-normal m).0)

instance-good : {ctx : List Kind} {f t : Ty} {k : Kind} → Normal ctx f Kind.Star → (why : CoreWhy) → InstanceRefuses f t k why → GoodWhy ctx (of_core why)
instance-good m _ (InstanceRefuses.not_polymorphic a) = m
instance-good m _ (InstanceRefuses.arg_kind e) = tt

get-good : {ctx : List Kind} {t : Ty} {l : Name} → Normal ctx t Kind.Star → (why : CoreWhy) → GetRefuses t l why → GoodWhy ctx (of_core why)
get-good m _ (GetRefuses.no_record a) = m
get-good m _ (GetRefuses.no_field a) = tt

if-good : {ctx : List Kind} {s t u : Ty} → Normal ctx s Kind.Star → Normal ctx t Kind.Star → Normal ctx u Kind.Star → (why : CoreWhy) → IfRefuses s t u why → GoodWhy ctx (of_core why)
if-good l m n _ (IfRefuses.test_type e) = (l, n_bool)
if-good l m n _ (IfRefuses.branches e) = (m, n)

operation-good : {ctx : List Kind} {t u : Ty} → Normal ctx t Kind.Star → Normal ctx u Kind.Star → (why : CoreWhy) → OperationRefuses t u why → GoodWhy ctx (of_core why)
operation-good m n _ (OperationRefuses.left_type e) = (m, n_int)
operation-good m n _ (OperationRefuses.right_type e) = (n, n_int)

fix-good : {ctx : List Kind} {t u v : Ty} {k j : Kind} → Normal ctx u j → Normal ctx v Kind.Star → (why : CoreWhy) → FixRefuses t k u j v why → GoodWhy ctx (of_core why)
fix-good m n _ (FixRefuses.param_kind e) = tt
fix-good m n _ (FixRefuses.result_kind e) = tt
fix-good m n _ (FixRefuses.body_type e) = (n, m)

sum-good : {ctx : List Kind} {t : Ty} → Normal ctx t Kind.Star → (why : CoreWhy) → SumRefuses t why → GoodWhy ctx (of_core why)
sum-good n _ (SumRefuses.no_sum m) = n

label-good : {ctx : List Kind} {t : Ty} {l : Name} → Normal ctx t Kind.Star → (why : CoreWhy) → LabelRefuses t l why → GoodWhy ctx (of_core why)
label-good n _ (LabelRefuses.no_sum m) = n
label-good n _ (LabelRefuses.no_label m) = tt

injection-good : {ctx : List Kind} {l : Name} {v t : Ty} {k : Kind}
    → Normal ctx v Kind.Star
    → Normal ctx t Kind.Star
    → (why : CoreWhy)
    → InjectionRefuses l v t k why
    → GoodWhy ctx (of_core why)
injection-good m n _ (InjectionRefuses.target_kind e) = tt
injection-good m n _ (InjectionRefuses.no_sum e) = n
injection-good m n _ (InjectionRefuses.no_label e) = tt
injection-good m n _ (InjectionRefuses.value_type p e) = (m, part-normal (normal-sum n) p)

-- branches that are elaborated already have the type of their case
abbrev AllOf : Ty → List FieldExp → Type 0
AllOf t [] = Unit {0}
AllOf t (FieldExp.field l u e ∷ rest) = (u ≡ t) × AllOf t rest

all-of : {g : Env} {w t : Ty} {before : List Name} {rest : Branches} {parts : List FieldExp} → BranchesMean g w t before rest parts → AllOf t parts
all-of BranchesMean.no_branches = tt
all-of (BranchesMean.next_branch n l p q) = (refl, all-of q)

branches-good : (ctx : List Kind) {row : Row} {t : Ty} {before : List Name} {parts : List FieldExp}
    → AllOf t parts
    → (why : CoreWhy)
    → BranchesRefuse row t before parts why
    → GoodWhy ctx (of_core why)
branches-good ctx a _ (BranchesRefuse.name_again m) = tt
branches-good ctx a _ (BranchesRefuse.no_label m h) = tt
branches-good ctx a _ (BranchesRefuse.branch_type m h d) = absurd (d a.0)
branches-good ctx a why (BranchesRefuse.later_branch m h r) = branches-good ctx a.1 why r

case-good : {ctx : List Kind} {w t : Ty} {k : Kind} {parts : List FieldExp}
    → Normal ctx w Kind.Star
    → AllOf t parts
    → (why : CoreWhy)
    → CaseRefuses w t k parts why
    → GoodWhy ctx (of_core why)
case-good n a _ (CaseRefuses.no_sum e) = n
case-good n a _ (CaseRefuses.result_kind e) = tt
case-good {ctx} n a why (CaseRefuses.branch r) = branches-good ctx a why r
case-good n a _ (CaseRefuses.no_branch b w) = tt

mu-good : (ctx : List Kind) {t : Ty} {k : Kind} (why : DataWhy) → MuRefuses t k why → GoodWhy ctx (of_data why)
mu-good ctx _ (MuRefuses.body_kind e) = tt

roll-good : {ctx : List Kind} {v t : Ty} {k : Kind}
    → Normal ctx v Kind.Star
    → Normal ctx t k
    → (why : DataWhy)
    → RollRefuses ctx v t k why
    → GoodWhy ctx (of_data why)
roll-good m n _ (RollRefuses.target_kind e) = tt
roll-good m n _ (RollRefuses.no_data e) = n
roll-good m n _ (RollRefuses.value_type f e) = (m, f.0)

unroll-good : {ctx : List Kind} {t : Ty} → Normal ctx t Kind.Star → (why : DataWhy) → UnrollRefuses t why → GoodWhy ctx (of_data why)
unroll-good n _ (UnrollRefuses.no_data m) = n

-- the types that the rules give

call-normal : {ctx : List Kind} {t u v : Ty} {d e c : Term} → CallGives t d u e v c → Normal ctx t Kind.Star → Normal ctx v Kind.Star
call-normal CallGives.call n = (arrow-normal n).1

instance-normal : {ctx : List Kind} {t u v : Ty} {k : Kind} {e c : Term} → InstanceGives ctx t e u k v c → Normal ctx v Kind.Star
instance-normal (InstanceGives.instance f) = f.0

applied-normal : {ctx : List Kind} {t u v : Ty} {k j l : Kind} → AppliedGives ctx t k u j v l → Normal ctx v l
applied-normal (AppliedGives.applied f) = f.0

operation-normal : {ctx : List Kind} {o : Op} {t u v : Ty} {d e c : Term} → OperationGives o t d u e v c → Normal ctx v Kind.Star
operation-normal (OperationGives.operation {o = Op.Less}) = n_bool
operation-normal (OperationGives.operation {o = Op.Equal}) = n_bool
operation-normal OperationGives.operation = n_int

-- the rules

type-safe : (g : Env) → OkEnv g → (a : TyEx) → Safe (type_steps g a)
type-safe g h (TyAt at (PathTy m)) = ((h, tt), λ M p. (by_mod g _, λ o r. tt))
type-safe g h (TyAt at TyInt) = (none, λ o r. tt)
type-safe g h (TyAt at TyBool) = (none, λ o r. tt)
type-safe g h (TyAt at TyText) = (none, λ o r. tt)
type-safe g h (TyAt at (TyArrow a b)) = ((h, tt), λ t p. (plain g _ (KindDiffer t.1 Kind.Star) tt, λ u e. ((h, tt), λ v q. (by_core g _ (arrow-good (kinds g)), λ o r. tt))))
type-safe g h (TyAt at (TyApply a rest)) = ((h, tt), λ t p. ((h, type_ok g a t.0 t.1 h p), λ u q. tt))
type-safe g h (TyAt at (TyFields rest)) = ((h, tt), λ parts p. (by_core g _ (record_type-good (kinds g)), λ row r. tt))
type-safe g h (TyAt at (TyAll x k b)) = (((tt, (tt, h)), tt), λ t p. (by_core g _ (all-good (kinds g)), λ o r. tt))
type-safe g h (TyAt at (TyLam x k b)) = (((tt, (tt, h)), tt), λ t p. (none, λ o r. tt))
type-safe g h (TyAt at (TyPack a)) = ((h, tt), λ x p. (none, λ t r. tt))
type-safe g h (TyAt at (TySum rest)) = ((h, tt), λ parts p. (by_core g _ (record_type-good (kinds g)), λ row r. tt))
type-safe g h (TyAt at (TyMu x b)) = (((tt, (tt, h)), tt), λ t p. (by_data g _ (mu-good (kinds g)), λ o r. tt))

type_args-safe : (g : Env) → OkEnv g → (at : Span) (t : Ty) (k : Kind) (rest : TyExs) → Safe (type_args_steps g at t k rest)
type_args-safe g h at t k NoTys = tt
type_args-safe g h at t k (MoreTys a rest) = (plain g _ NotOperator tt, λ p e. ((h, tt), λ u q. (by_core g _ (applied-good (kinds g)), λ v f. ((h, applied-normal f), λ z r. tt))))

type_fields-safe : (g : Env) → OkEnv g → (before : List Name) (rest : FieldTyExs) → Safe (type_fields_steps g before rest)
type_fields-safe g h before NoFieldTys = tt
type_fields-safe g h before (MoreFieldTys x a rest) = (plain g _ (DuplicateField (name_of x)) tt, λ u n. ((h, tt), λ t p. (plain g _ (KindDiffer t.1 Kind.Star) tt, λ v e. ((h, tt), λ row q. tt))))

exp-safe : (g : Env) → OkEnv g → (a : Exp) → Safe (exp_steps g a)
exp-safe g h (ExpAt at (PathExp m)) = ((h, tt), λ M p. (by_mod g _, λ o r. tt))
exp-safe g h (ExpAt at (ExpInt z)) = (none, λ o r. tt)
exp-safe g h (ExpAt at (ExpBool b)) = (none, λ o r. tt)
exp-safe g h (ExpAt at (ExpText w)) = (none, λ o r. tt)
exp-safe g h (ExpAt at (ExpLam x a b)) =
    ((h, tt), λ t p. (plain g _ (KindDiffer t.1 Kind.Star) tt, λ u e. (((subst (λ k. Normal (kinds g) t.0 k) e (type_ok g a t.0 t.1 h p), h), tt), λ v q. (by_core g _ (function-good (kinds g)), λ o r. tt))))
exp-safe g h (ExpAt at (ExpTyLam x k b)) = (((tt, (tt, h)), tt), λ t p. (none, λ o r. tt))
exp-safe g h (ExpAt at (ExpFix f x a b c)) = (
  (h, tt),
  λ t p. (
    plain g _ (KindDiffer t.1 Kind.Star) tt,
    λ u e. (
      (h, tt),
      λ v q. (
        plain g _ (KindDiffer v.1 Kind.Star) tt,
        λ w i.
            let m = subst (λ k. Normal (kinds g) t.0 k) e (type_ok g a t.0 t.1 h p) in
            let n = subst (λ k. Normal (kinds g) v.0 k) i (type_ok g b v.0 v.1 h q) in
            let inner : OkEnv (Value (name_of x) t.0 ∷ Value (name_of f) (Ty.Arrow t.0 v.0) ∷ g) = (m, (n_arrow m n, h)) in
            ((inner, tt), λ z r. (by_core g _ (fix-good (type_ok g b v.0 v.1 h q) (exp_ok (Value (name_of x) t.0 ∷ Value (name_of f) (Ty.Arrow t.0 v.0) ∷ g) c z.0 z.1 inner r)), λ o j. tt)),
      ),
    ),
  ),
)
exp-safe g h (ExpAt at (ExpIf a b c)) = (
  (h, tt),
  λ t p. (
    plain g _ (Differ t.0 Ty.Bool) (exp_ok g a t.0 t.1 h p, n_bool),
    λ u e. ((h, tt), λ v q. ((h, tt), λ w r. (by_core g _ (if-good (exp_ok g a t.0 t.1 h p) (exp_ok g b v.0 v.1 h q) (exp_ok g c w.0 w.1 h r)), λ o j. tt))),
  ),
)
exp-safe g h (ExpAt at (ExpOps a rest)) = ((h, tt), λ t p. ((h, exp_ok g a t.0 t.1 h p), λ u q. tt))
exp-safe g h (ExpAt at (ExpApply a rest)) = ((h, tt), λ t p. ((h, exp_ok g a t.0 t.1 h p), λ u q. tt))
exp-safe g h (ExpAt at (ExpFields rest)) = ((h, tt), λ parts p. (by_core g _ (record-good (kinds g)), λ o r. tt))
exp-safe g h (ExpAt at (ExpGet a x)) = ((h, tt), λ t p. (plain g _ (NotRecord t.0) (exp_ok g a t.0 t.1 h p), λ row e. (by_core g _ (get-good (exp_ok g a t.0 t.1 h p)), λ o q. tt)))
exp-safe g h (ExpAt at (ExpPack x a)) =
    (by_mod g _, λ o f. ((h, tt), λ y p. (none, λ z n. (by_match g _ o.0 z (find-good g (name_of x) h o f) (norm_ok (kinds g) y z (sig_ok g a y h p) n), λ m k. (none, λ d j. tt)))))
exp-safe g h (ExpAt at (ExpInj x a b)) = (
  (h, tt),
  λ t p. (
    (h, tt),
    λ u q. (
      plain g _ (KindDiffer u.1 Kind.Star) tt,
      λ i e.
          let n = subst (λ k. Normal (kinds g) u.0 k) e (type_ok g b u.0 u.1 h q) in
          (by_core g _ (sum-good n), λ row s. (by_core g _ (label-good n), λ v l. (by_core g _ (injection-good (exp_ok g a t.0 t.1 h p) n), λ o r. tt))),
    ),
  ),
)
exp-safe g h (ExpAt at (ExpCase a b rest)) = (
  (h, tt),
  λ t p. (
    by_core g _ (sum-good (exp_ok g a t.0 t.1 h p)),
    λ row s. (
      (h, tt),
      λ u q. (
        plain g _ (KindDiffer u.1 Kind.Star) tt,
        λ i e.
            let m = exp_ok g a t.0 t.1 h p in
            let n = subst (λ k. Normal (kinds g) u.0 k) e (type_ok g b u.0 u.1 h q) in
            ((h, (m, n)), λ parts r. (by_core g _ (case-good m (all-of r)), λ o k. tt)),
      ),
    ),
  ),
)
exp-safe g h (ExpAt at (ExpRoll a b)) = (
  (h, tt),
  λ t p. (
    (h, tt),
    λ u q. (
      plain g _ (KindDiffer u.1 Kind.Star) tt,
      λ i e.
          let n = subst (λ k. Normal (kinds g) u.0 k) e (type_ok g b u.0 u.1 h q) in
          (plain g _ (NotData u.0) n, λ body s. (by_data g _ (roll-good (exp_ok g a t.0 t.1 h p) (type_ok g b u.0 u.1 h q)), λ o r. tt)),
    ),
  ),
)
exp-safe g h (ExpAt at (ExpUnroll a)) = ((h, tt), λ t p. (by_data g _ (unroll-good (exp_ok g a t.0 t.1 h p)), λ o r. tt))

operands-safe : (g : Env) → OkEnv g → (at : Span) (t : Ty) (e : Term) (rest : OpExps) → Normal (kinds g) t Kind.Star → Safe (operands_steps g at t e rest)
operands-safe g h at t e NoOps n = tt
operands-safe g h at t e (MoreOps o b rest) n = (plain g _ (Differ t Ty.Int) (n, n_int), λ u i. ((h, tt), λ v p. (by_core g _ (operation-good n (exp_ok g b v.0 v.1 h p)), λ w j. ((h, operation-normal j), λ z q. tt))))

args-safe : (g : Env) → OkEnv g → (at : Span) (t : Ty) (e : Term) (rest : Args) → Normal (kinds g) t Kind.Star → Safe (args_steps g at t e rest)
args-safe g h at t e NoArgs n = tt
args-safe g h at t e (MoreArgs (ArgExp b) rest) n = (plain g _ (NotArrow t) n, λ p i. ((h, tt), λ u q. (by_core g _ (call-good n (exp_ok g b u.0 u.1 h q)), λ v j. ((h, call-normal j n), λ z r. tt))))
args-safe g h at t e (MoreArgs (ArgTy a place) rest) n = (plain g _ (NotAll t) n, λ p i. ((h, tt), λ u q. (by_core g _ (instance-good n), λ v j. ((h, instance-normal j), λ z r. tt))))

fields-safe : (g : Env) → OkEnv g → (before : List Name) (rest : FieldExps) → Safe (fields_steps g before rest)
fields-safe g h before NoFieldExps = tt
fields-safe g h before (MoreFieldExps x a rest) = (plain g _ (DuplicateField (name_of x)) tt, λ u n. ((h, tt), λ t p. ((h, tt), λ o q. tt)))

branches-safe : (g : Env)
    → OkEnv g
    → (w t : Ty) (before : List Name) (rest : Branches)
    → Normal (kinds g) w Kind.Star × Normal (kinds g) t Kind.Star
    → Safe (branches_steps g w t before rest)
branches-safe g h w t before NoBranches n = tt
branches-safe g h w t before (MoreBranches x y a rest) n = (
  plain g _ (DuplicateField (name_of x)) tt,
  λ i m. (
    by_core g _ (label-good n.0),
    λ u l.
        let inner : OkEnv (Value (name_of y) u ∷ g) = (label-normal l n.0, h) in
        ((inner, tt), λ v p. (plain g _ (Differ v.0 t) (exp_ok (Value (name_of y) u ∷ g) a v.0 v.1 inner p, n.1), λ j e. ((h, n), λ parts q. tt))),
  ),
)

functor_sig-safe : (g : Env) → OkEnv g → (pure : Bool) (x : SpanName) (b : SigEx) (y : Abs) → OkRight (kinds g) y → Safe (functor_sig g pure x b y)
functor_sig-safe g h false x b (Abs.Ex ks s) w = ((good-module g ks (name_of x) s h (body-ok w), tt), λ y p. (none, λ z r. tt))
functor_sig-safe g h true x b (Abs.Ex ks s) w = ((good-module g ks (name_of x) s h (body-ok w), tt), λ y p. (none, λ z l. tt))

refined-safe : (g : Env) (z : SpanName) (path : List SpanName) (b : TyEx) (x : Abs) (u : Ty × Kind) → Safe (refined g z path b x u)
refined-safe g z path b (Abs.Ex ks s) u = (λ r q. told g q.2.0 (of_sig q.0) (of_sig-good (kinds g) q.0) r q.2.2, λ y r. tt)

sig-safe : (g : Env) → OkEnv g → (a : SigEx) → Safe (sig_steps g a)
sig-safe g h (SigAt at (PathSig m)) = ((h, tt), λ M p. (by_mod g _, λ x r. tt))
sig-safe g h (SigAt at (SigDecls ds)) = ((h, tt), λ x p. tt)
sig-safe g h (SigAt at (SigFun pure x a b)) = ((h, tt), λ y p. functor_sig-safe g h pure x b y (sig_ok g a y h p))
sig-safe g h (SigAt at (SigRefine a z path b)) = ((h, tt), λ x p. ((h, tt), λ u q. refined-safe g z path b x u))

decl-safe : (g : Env) → OkEnv g → (d : Decl) → Safe (decl_steps g d)
decl-safe g h (DeclAt at (DeclVal x a)) = ((h, tt), λ t p. (by_sig g _, λ y r. tt))
decl-safe g h (DeclAt at (DeclTyIs x a)) = ((h, tt), λ t p. (none, λ y r. tt))
decl-safe g h (DeclAt at (DeclTyOf x k)) = (none, λ y r. tt)
decl-safe g h (DeclAt at (DeclModule x a)) = ((h, tt), λ y p. (none, λ z r. tt))
decl-safe g h (DeclAt at (DeclSignature x a)) = ((h, tt), λ y p. (none, λ z r. tt))
decl-safe g h (DeclAt at (DeclInclude a)) = ((h, tt), λ y p. (by_sig g _, λ z r. tt))

decls_from-safe : (g : Env) → OkEnv g → (before : List Name) (d : Decl) (ds : Decls) (x : Abs) → OkRight (kinds g) x → Safe (decls_from g before d ds x)
decls_from-safe g h before d ds (Abs.Ex ks s) w =
    (none, λ fs e. (by_sig g _, λ u n. ((good-type_fields g ks fs h (structure-row (subst (λ s. OkSig (extend (kinds g) ks) s) e (body-ok w))), tt), λ y q. (none, λ z r. tt))))

decls-safe : (g : Env) → OkEnv g → (before : List Name) (ds : Decls) → Safe (decls_steps g before ds)
decls-safe g h before NoDecls = tt
decls-safe g h before (MoreDecls d ds) = ((h, tt), λ x p. decls_from-safe g h before d ds x (decl_ok g d x h p))

functor_of-safe : (g : Env) (ks : List Kind) (s : Sig) (gen : Bool) (M : Module) → Safe (functor_of g ks s gen M)
functor_of-safe g ks s false (made Pure y ts e) = (none, λ N r. tt)
functor_of-safe g ks s _ _ = (none, λ N r. tt)

functor_body-safe : (g : Env) → OkEnv g → (gen : Bool) (x : SpanName) (b : Mod) (y : Abs) → OkRight (kinds g) y → Safe (functor_body g gen x b y)
functor_body-safe g h gen x b (Abs.Ex ks s) w = ((good-module g ks (name_of x) s h (body-ok w), tt), λ M p. functor_of-safe g ks s gen M)

unpack-good : {ctx : List Kind} {t : Ty} {y : Abs} → Normal ctx t Kind.Star → OkRight ctx y → (why : UnpackWhy) → UnpackRefuses t y why → GoodWhy ctx (of_unpack why)
unpack-good m w _ (UnpackRefuses.other_type n) = (m, enc_well_formed-normal (explicit-abs w.0) w.1)

mod-safe : (g : Env) → OkEnv g → (m : Mod) → Safe (mod_steps g m)
mod-safe g h (ModAt at (ModName x)) = (by_mod g _, λ M r. tt)
mod-safe g h (ModAt at (ModStruct bs)) = ((h, tt), λ M p. tt)
mod-safe g h (ModAt at (ModProject m x)) = ((h, tt), λ M p. (by_mod g _, λ N r. tt))
mod-safe g h (ModAt at (ModFunctor gen x a b)) = ((h, tt), λ y p. functor_body-safe g h gen x b y (sig_ok g a y h p))
mod-safe g h (ModAt at (ModApply x z)) =
    (by_mod g _, λ o f. (by_mod g _, λ p e. (by_mod g _, λ q i. (by_match g _ q.0 p.1 (find-good g (name_of z) h q i) (param-ok e (find-good g (name_of x) h o f)), λ m k. (none, λ M r. tt)))))
mod-safe g h (ModAt at (ModSeal x a)) = (by_mod g _, λ o f. ((h, tt), λ y p. (by_match g _ o.0 y (find-good g (name_of x) h o f) (sig_ok g a y h p), λ m k. (none, λ M r. tt))))
mod-safe g h (ModAt at (ModUnpack b a)) = (
  (h, tt),
  λ t p. (
    (h, tt),
    λ x q. (
      none,
      λ y n. (λ r d. told g _ (of_unpack d.0) (unpack-good (exp_ok g b t.0 t.1 h p) (norm_ok (kinds g) x y (sig_ok g a x h q) n) d.0 d.1) r d.2, λ M r. tt),
    ),
  ),
)

bind-safe : (g : Env) → OkEnv g → (b : Bind) → Safe (bind_steps g b)
bind-safe g h (BindAt at (BindVal x a)) = ((h, tt), λ t p. (none, λ M r. tt))
bind-safe g h (BindAt at (BindTy x a)) = ((h, tt), λ t p. (none, λ M r. tt))
bind-safe g h (BindAt at (BindSignature x a)) = ((h, tt), λ y p. (none, λ M r. tt))
bind-safe g h (BindAt at (BindModule x m)) = ((h, tt), λ M p. tt)
bind-safe g h (BindAt at (BindInclude m)) = (λ r e. told g at NotStructure tt r e, λ b u. absurd b)

after_bind-safe : (g : Env) → OkEnv g → (before : List Name) (bs : Binds) (x : Name) (M : Module) → OkModule (kinds g) M → Safe (after_bind g before bs x M)
after_bind-safe g h before bs x (made f (Abs.Ex ks s) ts e) w = ((good-module g ks x s h (abs-body w.0.0, w.0.1), tt), λ N q. (none, λ K j. tt))

after_include-safe : (g : Env) → OkEnv g → (before : List Name) (m : Mod) (bs : Binds) (M : Module) → OkModule (kinds g) M → Safe (after_include g before m bs M)
after_include-safe g h before m bs (made f (Abs.Ex ks s) ts e) w = (
  by_mod g _,
  λ fs i.
      let inner = with_module g ks include_name (Sig.Str fs) in
      let sig : OkSig (extend (kinds g) ks) (Sig.Str fs) = subst (λ s. OkSig (extend (kinds g) ks) s) i (abs-body w.0.0, w.0.1) in
      let row : OkRow (kinds inner) fs = subst (λ ctx. OkRow ctx fs) (sym (kinds-type_vars g ks)) (structure-row sig) in
      ((good-fields inner fs (good-module g ks include_name (Sig.Str fs) h sig) row, tt), λ N q. (none, λ K j. tt)),
)

binds-safe : (g : Env) → OkEnv g → (before : List Name) (bs : Binds) → Safe (binds_steps g before bs)
binds-safe g h before NoBinds = (none, λ o c. tt)
binds-safe g h before (MoreBinds (BindAt at (BindInclude m)) bs) = ((h, tt), λ M p. after_include-safe g h before m bs M (mod_ok g m M h p))
binds-safe g h before (MoreBinds (BindAt at b) bs) = ((h, tt), λ o p. after_bind-safe g h before bs o.0 o.1 (bind_ok g (BindAt at b) o.0 o.1 h p))

steps-safe : (g : Env) (a : Task) → OkEnv g → Holds g a → Safe (steps g a)
steps-safe g (a_type a) h k = type-safe g h a
steps-safe g (type_args at t j rest) h k = type_args-safe g h at t j rest
steps-safe g (type_fields before rest) h k = type_fields-safe g h before rest
steps-safe g (an_exp a) h k = exp-safe g h a
steps-safe g (operands at t e rest) h k = operands-safe g h at t e rest k
steps-safe g (args at t e rest) h k = args-safe g h at t e rest k
steps-safe g (fields before rest) h k = fields-safe g h before rest
steps-safe g (branches w t before rest) h k = branches-safe g h w t before rest k
steps-safe g (a_sig a) h k = sig-safe g h a
steps-safe g (a_decl d) h k = decl-safe g h d
steps-safe g (decls before ds) h k = decls-safe g h before ds
steps-safe g (a_mod m) h k = mod-safe g h m
steps-safe g (a_bind b) h k = bind-safe g h b
steps-safe g (binds before bs) h k = binds-safe g h before bs

refused-good : {g : Env} {a : Task} {r : Refusal} → OkEnv g → Holds g a → Refused g a r → GoodRefusal r
refused-good h k (Refused.here {g = g} {a = a} {r = r} f) = fails-good (steps g a) r (steps-safe g a h k) f
refused-good h k (Refused.inside {g = g} {h = i} {a = a} {b = b} e d) = let w = enters-good (steps g a) i b (steps-safe g a h k) e in refused-good w.0 w.1 d

-- the types that a program's refusal tells are normal, where as many type variables are in scope as it tells
pub refusals_are_good : RefusalsAreGood
refusals_are_good bs r d = refused-good tt tt d
