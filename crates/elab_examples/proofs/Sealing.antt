-- The derivation of a structure that is sealed by a signature with a hidden type.
-- Main results: sealing_program.
use Rattle.std.specs.Prelude.{List, [], ◌∷◌}
use Rattle.std.proofs.Math.Path.{refl}
use Rattle.omega_kinds.specs.Kind.{Kind}
use Rattle.omega_kinds.specs.declared.effect.Effect.TheVariants.{Pure}
use Rattle.omega_types.specs.Ty.{Ty}
use Rattle.omega_types.specs.Kinding.HasKind.{k_int}
use Rattle.omega_types.specs.Normality.{Normal}
use Rattle.omega_types.specs.Normality.Normal.{n_int, n_fields}
use Rattle.omega_types.specs.Normality.Normals.{n_end, n_more}
use Rattle.omega_types.specs.Binders.{NormalForms, OfKinds}
use Rattle.omega_terms.specs.Term.{Term}
use Rattle.omega_terms.specs.Shorthands.{Packs}
use Rattle.omega_terms.specs.Instance.{Instance, Instances}
use Rattle.sig_definitions.specs.Signatures.Sig.{Sig, Abs, SigRow, HasField, made}
use Rattle.sig_definitions.specs.Signatures.Alike.{AlikeSig}
use Rattle.sig_definitions.specs.Env.{Env, Entry}
use Rattle.sig_definitions.specs.Matching.Subtyping.{Sub, SubFields, Match}
use Rattle.sig_definitions.specs.Packing.{Packed}
use Rattle.module_judgments.specs.PathUse.{TypeOfPath}
use Rattle.module_judgments.specs.Projection.{Projected}
use Rattle.module_judgments.specs.Sequence.{Seq, Collected}
use Rattle.sig_judgments.specs.SigRules.{ValueGives, AbstractGives, DeclarationsGive}
use Rattle.module_judgments.specs.ModRules.{SealGives, ValueGives as ValueModule, TypeGives as TypeModule, NamedGives}
use Rattle.core_judgments.specs.TypeRules.{BaseGives}
use Rattle.core_judgments.specs.ExpRules.{LiteralGives}
use Rattle.elab_judgments.specs.Judgments.Meaning.{TyMeans, ExpMeans, SigMeans, DeclMeans, DeclsMean, ModMeans, BindMeans, BindsMean}
use Rattle.elab_judgments.specs.Judgments.Program.{ProgramMeans}
use Rattle.elab_laws.proofs.TypedClaims.{whole_is_typed}
use Rattle.elab_examples.specs.Rows.{structure, signature, sealed, structure_term, coercion, sealed_term, sealing, sealing_term, M, W, hidden_sig, two_terms, SealingProgram, x, t, h0, h1, R}
use Rattle.omega_types.proofs.BinderPuts.{its-form}
use Rattle.omega_terms.proofs.InstanceLaws.{type-self}
use Rattle.elab_examples.proofs.Parts.{differ, labels-differ, own-path, var0, shown-normal, value-normal, pair-form, one-instance, pair-instance, part-instance}

-- (str (t (type int *)) (x (val int)))
abbrev pub shown_sig : Sig
shown_sig = Sig.Str (SigRow.More t (Sig.Typ Ty.Int Kind.Star) (SigRow.More x (Sig.Val Ty.Int) SigRow.End))

pub structure_means : ModMeans [] structure (made Pure (Abs.Ex [] shown_sig) [] structure_term)
structure_means =
    ModMeans.mod_struct
    (BindsMean.next_bind
    (BindMeans.bind_ty (TyMeans.ty_int BaseGives.int) TypeModule.type)
    (BindsMean.next_bind
    (BindMeans.bind_val (ExpMeans.exp_int LiteralGives.int) ValueModule.value)
    (BindsMean.no_binds (Collected.next refl (Collected.next refl Collected.none)))
    (Seq.both_pure (AlikeSig.val (its-form n_int)) NormalForms.none pair-instance))
    (Seq.both_pure (AlikeSig.typ (its-form n_int)) NormalForms.none (Instance.call (Instance.lam (type-self (value-normal n_int)) pair-instance) (Instance.fields (Instances.more Instance.int Instances.end)))))

abbrev pub env_one : Env
env_one = Entry.Named h1 shown_sig ∷ []

pub signature_means : SigMeans env_one signature (Abs.Ex (Kind.Star ∷ []) hidden_sig)
signature_means =
    SigMeans.sig_decls
    (DeclsMean.next_decl (DeclMeans.decl_of AbstractGives.abstract) (tt, tt)
    (DeclsMean.next_decl
    (DeclMeans.decl_val (TyMeans.ty_path (ModMeans.mod_name (NamedGives.named refl)) (TypeOfPath.type_of (own-path var0))) ValueGives.value)
    ((differ refl, tt), tt)
    DeclsMean.no_decls DeclarationsGive.declarations) DeclarationsGive.declarations)

pub matches : Match [] shown_sig (Abs.Ex (Kind.Star ∷ []) hidden_sig) (Ty.Int ∷ []) coercion
matches =
    Match.at
    (OfKinds.next k_int OfKinds.none)
    (NormalForms.next (its-form n_int) NormalForms.none)
    (pair-form n_int)
    (Sub.str (SubFields.more HasField.here Sub.typ (SubFields.more (HasField.there (differ refl) HasField.here) Sub.val SubFields.end)))

R-normal : {ctx : List Kind} → Normal ctx R Kind.Star
R-normal = n_fields (n_more (labels-differ refl, tt) (shown-normal n_int) (n_more tt (value-normal n_int) n_end))

coercion-instance : Instance [] [] Ty.Var coercion coercion
coercion-instance = Instance.lam (type-self R-normal) (Instance.fields (Instances.more (part-instance (shown-normal n_int)) (Instances.more (part-instance (value-normal n_int)) Instances.end)))

rest-instance : let e = Term.Call (Term.Lam R (two_terms h0 (Term.Var 0) h1 (Term.Var 1))) (Term.Call coercion (Term.Var 0)) in Instance [] [] Ty.Var e e
rest-instance = Instance.call (Instance.lam (type-self R-normal) pair-instance) (Instance.call coercion-instance Instance.var)

-- the sealed structure hides its type, for which it keeps Int
pub sealed_means : ModMeans [] sealed (made Pure (Abs.Ex (Kind.Star ∷ []) hidden_sig) (Ty.Int ∷ []) sealed_term)
sealed_means =
    ModMeans.mod_project
    (ModMeans.mod_struct
    (BindsMean.next_bind
    (BindMeans.bind_module structure_means)
    (BindsMean.next_bind
    (BindMeans.bind_module (ModMeans.mod_seal refl signature_means matches SealGives.seal))
    (BindsMean.no_binds (Collected.next refl (Collected.next refl Collected.none)))
    (Seq.both_pure (pair-form n_int) NormalForms.none pair-instance))
    (Seq.both_pure (pair-form n_int) (NormalForms.next (its-form n_int) NormalForms.none) rest-instance)))
    (Projected.pure HasField.here)

sealing_means : ProgramMeans sealing (made Pure (Abs.Ex (Kind.Star ∷ []) (Sig.Str (SigRow.More M hidden_sig SigRow.End))) (Ty.Int ∷ []) sealing_term) (Term.Pack Ty.Int sealing_term W)
sealing_means =
    ProgramMeans.program
    (BindsMean.next_bind
    (BindMeans.bind_module sealed_means)
    (BindsMean.no_binds (Collected.next refl Collected.none))
    (Seq.both_pure (pair-form n_int) NormalForms.none one-instance))
    (Packed.pure (Packs.next (its-form (n_fields (n_more tt R-normal n_end))) Packs.none))

-- the program that seals a structure means what is stated of it
pub sealing_program : SealingProgram
sealing_program = (sealing_means, whole_is_typed sealing Pure _ _ _ _ sealing_means)
