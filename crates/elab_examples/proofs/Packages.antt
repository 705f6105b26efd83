-- The derivation of a program with a package.
-- Main results: packages_program, t_first_norm.
use Rattle.std.specs.Prelude.{ℕ, pos, List, [], ◌∷◌}
use Rattle.std.proofs.Math.Path.{refl}
use Rattle.omega_kinds.specs.Kind.{Kind}
use Rattle.omega_kinds.specs.declared.label.Label.{Label}
use Rattle.omega_kinds.specs.declared.effect.Effect.TheVariants.{Pure, Impure}
use Rattle.omega_types.specs.Ty.{Ty}
use Rattle.omega_types.specs.Kinding.{here, there}
use Rattle.omega_types.specs.Kinding.HasKind.{k_int, k_bool}
use Rattle.omega_types.specs.Normality.{Normal}
use Rattle.omega_types.specs.Normality.Normal.{n_int, n_bool, n_ex, n_fields, n_neutral}
use Rattle.omega_types.specs.Normality.Normals.{n_end, n_more}
use Rattle.omega_types.specs.Normality.Neutral.{n_var, n_apply}
use Rattle.omega_types.specs.Binders.{NormalForms, OfKinds}
use Rattle.omega_terms.specs.Term.{Term}
use Rattle.omega_terms.specs.Shorthands.{Packs}
use Rattle.omega_terms.specs.PartTerms.{value_term, type_term}
use Rattle.omega_terms.specs.Instance.{TyInstance, Instance, Instances}
use Rattle.sig_definitions.specs.Signatures.Sig.{Sig, Abs, HasField, made}
use Rattle.sig_definitions.specs.Signatures.Alike.{AlikeSig}
use Rattle.sig_definitions.specs.Signatures.Encoding.{enc_abs, one_part}
use Rattle.sig_definitions.specs.Env.{Env, Entry}
use Rattle.sig_definitions.specs.Matching.Subtyping.{Sub, SubFields, Match}
use Rattle.sig_definitions.specs.QuantifierOrder.{Norm, NormSig, NormRow}
use Rattle.sig_definitions.specs.Packing.{Packed}
use Rattle.fing_syntax.specs.Phrase.{MoreBinds, NoBinds}
use Rattle.module_judgments.specs.PathUse.{TypeOfPath, ValueOfPath}
use Rattle.module_judgments.specs.Projection.{Projected}
use Rattle.module_judgments.specs.Sequence.{Seq, Collected}
use Rattle.sig_judgments.specs.SigRules.{ValueGives, AbstractGives, DeclarationsGive}
use Rattle.module_judgments.specs.ModRules.{ValueGives as ValueModule, TypeGives as TypeModule, NamedGives}
use Rattle.package_judgments.specs.Package.{UnpackGives, PackGives}
use Rattle.core_judgments.specs.TypeRules.{BaseGives}
use Rattle.core_judgments.specs.ExpRules.{LiteralGives}
use Rattle.elab_judgments.specs.Judgments.Meaning.{TyMeans, ExpMeans, SigMeans, DeclMeans, DeclsMean, ModMeans, BindMeans, BindsMean}
use Rattle.elab_judgments.specs.Judgments.Program.{ProgramMeans}
use Rattle.elab_laws.proofs.TypedClaims.{whole_is_typed}
use Rattle.elab_examples.specs.Rows.{h1}
use Rattle.elab_examples.specs.PackageRow.{p, A, two, t_first, u_first, hiding, showing, given, package_, packages, packages_sig, package_type, PackagesProgram, three_vars, given_term, coercion, packed_term, package_term, whole_type, record_term, repacked_term, unpacked_term, packages_term, unpacked_bind}
use Rattle.elab_examples.proofs.PackageOrder.{fields_of, order-t-u, order-u-t}
use Rattle.omega_types.proofs.BinderPuts.{its-form}
use Rattle.omega_terms.proofs.InstanceLaws.{type-self}
use Rattle.elab_examples.proofs.Parts.{differ, labels-differ, own-path, var0, var1, shown-normal, value-normal, three-form, three, pair-instance, triple-instance, part-instance}

-- the signature that declares t first means the one that hides t first
pub t_first_means : (g : Env) → SigMeans g t_first (Abs.Ex two (Sig.Str (fields_of 1 0)))
t_first_means g =
    SigMeans.sig_decls
    (DeclsMean.next_decl (DeclMeans.decl_of AbstractGives.abstract) (tt, tt)
    (DeclsMean.next_decl (DeclMeans.decl_of AbstractGives.abstract) ((differ refl, tt), tt)
    (DeclsMean.next_decl
    (DeclMeans.decl_val (TyMeans.ty_path (ModMeans.mod_name (NamedGives.named refl)) (TypeOfPath.type_of (own-path var1))) ValueGives.value)
    ((differ refl, (differ refl, tt)), tt)
    DeclsMean.no_decls DeclarationsGive.declarations) DeclarationsGive.declarations) DeclarationsGive.declarations)

pub u_first_means : (g : Env) → SigMeans g u_first (Abs.Ex two (Sig.Str (fields_of 0 1)))
u_first_means g =
    SigMeans.sig_decls
    (DeclsMean.next_decl (DeclMeans.decl_of AbstractGives.abstract) (tt, tt)
    (DeclsMean.next_decl (DeclMeans.decl_of AbstractGives.abstract) ((differ refl, tt), tt)
    (DeclsMean.next_decl
    (DeclMeans.decl_val (TyMeans.ty_path (ModMeans.mod_name (NamedGives.named refl)) (TypeOfPath.type_of (own-path var0))) ValueGives.value)
    ((differ refl, (differ refl, tt)), tt)
    DeclsMean.no_decls DeclarationsGive.declarations) DeclarationsGive.declarations) DeclarationsGive.declarations)

norm-row : {ctx : List Kind} {a b : ℕ} → NormSig ctx (Sig.Str (fields_of a b)) (Sig.Str (fields_of a b))
norm-row = NormSig.str (NormRow.more NormSig.typ (NormRow.more NormSig.typ (NormRow.more NormSig.val NormRow.end)))

-- its norm is the signature itself
pub t_first_norm : (ctx : List Kind) → Norm ctx (Abs.Ex two (Sig.Str (fields_of 1 0))) (Abs.Ex two hiding)
t_first_norm ctx = Norm.ex norm-row (order-t-u ctx)

pub u_first_norm : (ctx : List Kind) → Norm ctx (Abs.Ex two (Sig.Str (fields_of 0 1))) (Abs.Ex two hiding)
u_first_norm ctx = Norm.ex norm-row (order-u-t ctx)

-- the package type of the example is normal
pub package_type-normal : {ctx : List Kind} → Normal ctx package_type Kind.Star
package_type-normal = n_ex (n_ex (three var1 var0 var1))

pub matches : Match [] showing (Abs.Ex two hiding) (Ty.Int ∷ Ty.Bool ∷ []) coercion
matches =
    Match.at
    (OfKinds.next k_int (OfKinds.next k_bool OfKinds.none))
    (NormalForms.next (its-form n_int) (NormalForms.next (its-form n_bool) NormalForms.none))
    (three-form n_int n_bool n_int)
    (Sub.str
    (SubFields.more HasField.here Sub.typ
    (SubFields.more (HasField.there (differ refl) HasField.here) Sub.typ
    (SubFields.more (HasField.there (differ refl) (HasField.there (differ refl) HasField.here)) Sub.val SubFields.end))))

pub given_means : ModMeans [] given (made Pure (Abs.Ex [] showing) [] given_term)
given_means =
    ModMeans.mod_struct
    (BindsMean.next_bind
    (BindMeans.bind_ty (TyMeans.ty_int BaseGives.int) TypeModule.type)
    (BindsMean.next_bind
    (BindMeans.bind_ty (TyMeans.ty_bool BaseGives.bool) TypeModule.type)
    (BindsMean.next_bind
    (BindMeans.bind_val (ExpMeans.exp_int LiteralGives.int) ValueModule.value)
    (BindsMean.no_binds (Collected.next refl (Collected.next refl (Collected.next refl Collected.none))))
    (Seq.both_pure (AlikeSig.val (its-form n_int)) NormalForms.none triple-instance))
    (Seq.both_pure (AlikeSig.typ (its-form n_bool)) NormalForms.none after-bool))
    (Seq.both_pure (AlikeSig.typ (its-form n_int)) NormalForms.none
    (Instance.call (Instance.lam (type-self (shown-normal n_bool)) after-bool) bool-instance)))
  where
    after-bool : Instance [] [] Ty.Var (Term.Call (Term.Lam (one_part Label.Val Ty.Int) (three_vars 2 1 0)) (value_term (Term.Int (pos 1)))) (Term.Call (Term.Lam (one_part Label.Val Ty.Int) (three_vars 2 1 0)) (value_term (Term.Int (pos 1))))
    after-bool = Instance.call (Instance.lam (type-self (value-normal n_int)) triple-instance) (Instance.fields (Instances.more Instance.int Instances.end))

    bool-applied : Normal (Kind.Arrow Kind.Star Kind.Star ∷ []) (Ty.Apply (Ty.Var 0) Ty.Bool) Kind.Star
    bool-applied = n_neutral (n_apply (n_var here) n_bool)

    bool-instance : Instance [] [] Ty.Var (type_term Ty.Bool Kind.Star) (type_term Ty.Bool Kind.Star)
    bool-instance = Instance.fields (Instances.more (Instance.ty_lam (Instance.lam (TyInstance.made bool-applied (its-form bool-applied)) Instance.var)) Instances.end)

-- pack %1 : S, under A and %1
pub packing : Packs [] (Ty.Int ∷ Ty.Bool ∷ []) (Term.Call coercion (Term.Var 0)) package_type packed_term
packing = Packs.next (its-form (n_ex (three n_int var0 n_int))) (Packs.next (its-form (three n_int n_bool n_int)) Packs.none)

coercion-instance : Instance [] [] Ty.Var coercion coercion
coercion-instance =
    Instance.lam (type-self (three n_int n_bool n_int))
    (Instance.fields (Instances.more (part-instance (shown-normal n_int)) (Instances.more (part-instance (shown-normal n_bool)) (Instances.more (part-instance (value-normal n_int)) Instances.end))))

packed-instance : Instance [] [] Ty.Var packed_term packed_term
packed-instance =
    Instance.pack (type-self n_int)
    (Instance.pack (type-self n_bool) (Instance.call coercion-instance Instance.var) (type-self (n_ex (three n_int var0 n_int))))
    (type-self package_type-normal)

pub package_means : ExpMeans (Entry.Named A showing ∷ []) package_ package_type package_term
package_means =
    ExpMeans.exp_path
    (ModMeans.mod_project
    (ModMeans.mod_struct
    (BindsMean.next_bind
    (BindMeans.bind_module (ModMeans.mod_name (NamedGives.named refl)))
    (BindsMean.next_bind
    (BindMeans.bind_val (ExpMeans.exp_pack refl (t_first_means (Entry.Named h1 showing ∷ Entry.Named A showing ∷ [])) (t_first_norm []) matches (PackGives.pack packing)) ValueModule.value)
    (BindsMean.no_binds (Collected.next refl (Collected.next refl Collected.none)))
    (Seq.both_pure (AlikeSig.val (its-form package_type-normal)) NormalForms.none pair-instance))
    (Seq.both_pure (three-form n_int n_bool n_int) NormalForms.none
    (Instance.call (Instance.lam (type-self (value-normal package_type-normal)) pair-instance) (Instance.fields (Instances.more packed-instance Instances.end))))))
    (Projected.pure HasField.here))
    (ValueOfPath.value_at (own-path package_type-normal))

-- the whole structure's type, a and b standing for the hidden types
all-normal : {ctx : List Kind} {a b : Ty} → Normal ctx a Kind.Star → Normal ctx b Kind.Star → Normal ctx (whole_type a b) Kind.Star
all-normal ha hb =
    n_fields (n_more (labels-differ refl, (labels-differ refl, tt)) (three n_int n_bool n_int)
    (n_more (labels-differ refl, tt) (three ha hb ha) (n_more tt (value-normal package_type-normal) n_end)))

repacking : Packs two (Ty.Var 1 ∷ Ty.Var 0 ∷ []) record_term (enc_abs packages_sig) repacked_term
repacking = Packs.next (its-form (n_ex (all-normal (n_neutral (n_var (there (there here)))) var0))) (Packs.next (its-form (all-normal var1 var0)) Packs.none)

unpacked_means : BindsMean (Entry.Named p (Sig.Val package_type) ∷ Entry.Named A showing ∷ []) (A ∷ p ∷ []) (MoreBinds unpacked_bind NoBinds) (made Impure packages_sig [] unpacked_term)
unpacked_means =
    BindsMean.next_bind
    (BindMeans.bind_module
    (ModMeans.mod_unpack
    (ExpMeans.exp_path (ModMeans.mod_name (NamedGives.named refl)) (ValueOfPath.value_at (own-path package_type-normal)))
    (u_first_means (Entry.Named p (Sig.Val package_type) ∷ Entry.Named A showing ∷ []))
    (u_first_norm [])
    UnpackGives.unpack))
    (BindsMean.no_binds (Collected.next refl (Collected.next refl (Collected.next refl Collected.none))))
    (Seq.some_impure refl Packed.impure (Packed.pure Packs.none) repacking)

packages_means : ProgramMeans packages (made Impure packages_sig [] packages_term) packages_term
packages_means =
    ProgramMeans.program
    (BindsMean.next_bind
    (BindMeans.bind_module given_means)
    (BindsMean.next_bind
    (BindMeans.bind_val package_means ValueModule.value)
    unpacked_means
    (Seq.some_impure refl (Packed.pure Packs.none) Packed.impure Packs.none))
    (Seq.some_impure refl (Packed.pure Packs.none) Packed.impure Packs.none))
    Packed.impure

-- the program with a package means the impure module stated, whose term has the signature's encoding as its type
pub packages_program : PackagesProgram
packages_program = (packages_means, whole_is_typed packages Impure packages_sig [] packages_term packages_term packages_means)
