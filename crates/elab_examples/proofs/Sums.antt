-- The derivations of a case on a sum, and of a recursive type that is rolled and unrolled.
-- Main results: case_program, data_program.
use Rattle.std.specs.Prelude.{List, [], ◌∷◌}
use Rattle.std.proofs.Math.Path.{refl}
use Rattle.omega_kinds.specs.Kind.{Kind}
use Rattle.omega_kinds.specs.declared.label.Label.{Label}
use Rattle.omega_kinds.specs.declared.effect.Effect.TheVariants.{Pure}
use Rattle.omega_types.specs.Ty.{Ty}
use Rattle.omega_types.specs.Normality.{Normal}
use Rattle.omega_types.specs.Normality.Normal.{n_int, n_fields, n_sum, n_mu}
use Rattle.omega_types.specs.Normality.Normals.{n_end, n_more}
use Rattle.omega_types.specs.Binders.{NormalForms}
use Rattle.omega_types.proofs.BinderPuts.{its-form}
use Rattle.omega_terms.specs.Term.{Term}
use Rattle.omega_terms.specs.Typing.{HasPart}
use Rattle.omega_terms.specs.Shorthands.{Packs}
use Rattle.omega_terms.specs.Instance.{Instance, Instances}
use Rattle.omega_terms.proofs.InstanceLaws.{type-self}
use Rattle.sig_definitions.specs.Signatures.Sig.{Sig, made}
use Rattle.sig_definitions.specs.Signatures.Alike.{AlikeSig}
use Rattle.sig_definitions.specs.Env.{Env, Entry}
use Rattle.sig_definitions.specs.Packing.{Packed}
use Rattle.fing_syntax.specs.Phrase.{Span, TyEx}
use Rattle.core_judgments.specs.TypeRules.{BaseGives, RecordTypeGives}
use Rattle.core_judgments.specs.ExpRules.{LiteralGives, RecordGives, OperationGives, LabelGives, InjectionGives, BranchesGive, HasBranch, InOrder, CaseGives}
use Rattle.core_judgments.specs.DataRules.{MuGives, RollGives, UnrollGives}
use Rattle.module_judgments.specs.PathUse.{TypeOfPath, ValueOfPath}
use Rattle.module_judgments.specs.Sequence.{Seq, Collected}
use Rattle.module_judgments.specs.ModRules.{ValueGives as ValueModule, TypeGives as TypeModule, NamedGives}
use Rattle.elab_judgments.specs.Judgments.Meaning.{TyMeans, FieldTysMean, ExpMeans, OpsMean, FieldExpsMean, BranchesMean, ModMeans, BindMeans, BindsMean}
use Rattle.elab_judgments.specs.Judgments.Program.{ProgramMeans}
use Rattle.elab_laws.proofs.TypedClaims.{whole_is_typed}
use Rattle.elab_examples.specs.Rows.{x, t}
use Rattle.elab_examples.specs.SumRow.{o, some, labels, option, bound, type_named, option_at, three, three_term, four, one_more_term, four_term, cases, cases_sig, cases_term, CaseProgram, number, zero, zero_term, unrolled_x, unrolled_term, all_three, numbers, N, numbers_sig, numbers_term, DataProgram}
use Rattle.elab_examples.proofs.Parts.{differ, labels-differ, own-path, var0, value-normal, pair-instance, triple-instance}

-- the sum of nothing and of a type
option-normal : {ctx : List Kind} {a : Ty} → Normal ctx a Kind.Star → Normal ctx (option a) Kind.Star
option-normal h = n_sum (n_more (labels-differ refl, tt) (n_fields n_end) (n_more tt h n_end))

some-part : {a : Ty} → HasPart (labels a) (Label.Name some) a
some-part = HasPart.there (labels-differ refl) HasPart.here

option_means : {g : Env} {a : TyEx} {t : Ty} {whole first part second : Span}
    → TyMeans g a t Kind.Star
    → TyMeans g (option_at whole first part second a) (option t) Kind.Star
option_means p =
    TyMeans.ty_sum
    (FieldTysMean.next_field_ty tt
    (TyMeans.ty_fields FieldTysMean.no_field_tys RecordTypeGives.no_fields)
    (FieldTysMean.next_field_ty (differ refl, tt) p FieldTysMean.no_field_tys))
    (RecordTypeGives.next_field tt (RecordTypeGives.next_field (differ refl, tt) RecordTypeGives.no_fields))

-- a value that is bound
bound-instance : {a : Ty} {e rest : Term}
    → Normal [] a Kind.Star
    → Instance [] [] Ty.Var e e
    → Instance [] [] Ty.Var rest rest
    → Instance [] [] Ty.Var (bound a e rest) (bound a e rest)
bound-instance h p q = Instance.call (Instance.lam (type-self (value-normal h)) q) (Instance.fields (Instances.more p Instances.end))

-- a case

three_means : {g : Env} → ExpMeans g three (option Ty.Int) three_term
three_means = ExpMeans.exp_inj (ExpMeans.exp_int LiteralGives.int) (option_means (TyMeans.ty_int BaseGives.int)) (InjectionGives.injection some-part)

four_means : ExpMeans (Entry.Named o (Sig.Val (option Ty.Int)) ∷ []) four Ty.Int four_term
four_means =
    ExpMeans.exp_case
    (ExpMeans.exp_path (ModMeans.mod_name (NamedGives.named refl)) (ValueOfPath.value_at (own-path (option-normal n_int))))
    (TyMeans.ty_int BaseGives.int)
    (BranchesMean.next_branch tt
    (LabelGives.label HasPart.here)
    (ExpMeans.exp_int LiteralGives.int)
    (BranchesMean.next_branch (differ refl, tt)
    (LabelGives.label some-part)
    (ExpMeans.exp_ops
    (ExpMeans.exp_path (ModMeans.mod_name (NamedGives.named refl)) (ValueOfPath.value_at (own-path n_int)))
    (OpsMean.next_op (ExpMeans.exp_int LiteralGives.int) OperationGives.operation OpsMean.no_ops))
    BranchesMean.no_branches))
    (CaseGives.case_
    (BranchesGive.next_branch tt HasPart.here (BranchesGive.next_branch (differ refl, tt) some-part BranchesGive.no_branches))
    (InOrder.next_label HasBranch.here (InOrder.next_label (HasBranch.there (labels-differ refl) HasBranch.here) InOrder.no_labels)))

one_more-instance : Instance [] [] Ty.Var one_more_term one_more_term
one_more-instance = Instance.arith (Instance.get (Instance.fields (Instances.more Instance.var Instances.end))) Instance.int

four-instance : Instance [] [] Ty.Var four_term four_term
four-instance =
    Instance.case (Instance.get Instance.var) (type-self n_int) (Instances.more Instance.int (Instances.more one_more-instance Instances.end))

cases_means : ProgramMeans cases (made Pure cases_sig [] cases_term) cases_term
cases_means =
    ProgramMeans.program
    (BindsMean.next_bind
    (BindMeans.bind_val three_means ValueModule.value)
    (BindsMean.next_bind
    (BindMeans.bind_val four_means ValueModule.value)
    (BindsMean.no_binds (Collected.next refl (Collected.next refl Collected.none)))
    (Seq.both_pure (AlikeSig.val (its-form n_int)) NormalForms.none pair-instance))
    (Seq.both_pure (AlikeSig.val (its-form (option-normal n_int))) NormalForms.none (bound-instance n_int four-instance pair-instance)))
    (Packed.pure Packs.none)

-- the program with a case on a sum means the module stated, and its term is typed
pub case_program : CaseProgram
case_program = (cases_means, whole_is_typed cases Pure cases_sig [] _ _ cases_means)

-- a recursive type

N-normal : {ctx : List Kind} → Normal ctx N Kind.Star
N-normal = n_mu (option-normal var0)

number_means : TyMeans [] number N Kind.Star
number_means = TyMeans.ty_mu (option_means (TyMeans.ty_path (ModMeans.mod_name (NamedGives.named refl)) (TypeOfPath.type_of (own-path var0)))) MuGives.mu

abbrev with_number : Env
with_number = Entry.Named t (Sig.Typ N Kind.Star) ∷ []

named_means : {at : Span} → TyMeans with_number (type_named t at) N Kind.Star
named_means = TyMeans.ty_path (ModMeans.mod_name (NamedGives.named refl)) (TypeOfPath.type_of (own-path N-normal))

zero_means : ExpMeans with_number zero N zero_term
zero_means =
    ExpMeans.exp_roll
    (ExpMeans.exp_inj
    (ExpMeans.exp_fields FieldExpsMean.no_field_exps RecordGives.no_fields)
    (option_means named_means)
    (InjectionGives.injection HasPart.here))
    named_means
    (RollGives.roll (its-form (option-normal N-normal)))

unrolled_means : ExpMeans (Entry.Named x (Sig.Val N) ∷ with_number) unrolled_x (option N) unrolled_term
unrolled_means =
    ExpMeans.exp_unroll
    (ExpMeans.exp_path (ModMeans.mod_name (NamedGives.named refl)) (ValueOfPath.value_at (own-path N-normal)))
    (UnrollGives.unroll (its-form (option-normal N-normal)))

zero-instance : Instance [] [] Ty.Var zero_term zero_term
zero-instance = Instance.roll (Instance.inj (Instance.fields Instances.end) (type-self (option-normal N-normal))) (type-self N-normal)

last-instance : let e = bound (option N) unrolled_term all_three in Instance [] [] Ty.Var e e
last-instance = bound-instance (option-normal N-normal) (Instance.unroll (Instance.get Instance.var)) triple-instance

numbers_means : ProgramMeans numbers (made Pure numbers_sig [] numbers_term) numbers_term
numbers_means =
    ProgramMeans.program
    (BindsMean.next_bind
    (BindMeans.bind_ty number_means TypeModule.type)
    (BindsMean.next_bind
    (BindMeans.bind_val zero_means ValueModule.value)
    (BindsMean.next_bind
    (BindMeans.bind_val unrolled_means ValueModule.value)
    (BindsMean.no_binds (Collected.next refl (Collected.next refl (Collected.next refl Collected.none))))
    (Seq.both_pure (AlikeSig.val (its-form (option-normal N-normal))) NormalForms.none triple-instance))
    (Seq.both_pure (AlikeSig.val (its-form N-normal)) NormalForms.none last-instance))
    (Seq.both_pure (AlikeSig.typ (its-form N-normal)) NormalForms.none (bound-instance N-normal zero-instance last-instance)))
    (Packed.pure Packs.none)

-- the program with a recursive type means the module stated, and its term is typed
pub data_program : DataProgram
data_program = (numbers_means, whole_is_typed numbers Pure numbers_sig [] _ _ numbers_means)
