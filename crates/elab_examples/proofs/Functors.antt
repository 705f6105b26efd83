-- The derivation of a program with an applicative functor.
-- Main results: functor_means, application_means, generative_means.
use Rattle.std.specs.Prelude.{List, [], ◌∷◌}
use Rattle.std.proofs.Math.Path.{refl}
use Rattle.omega_kinds.specs.Kind.{Kind}
use Rattle.omega_kinds.specs.declared.label.Label.{Label}
use Rattle.omega_kinds.specs.declared.effect.Effect.TheVariants.{Pure}
use Rattle.omega_kinds.specs.Name.{Name}
use Rattle.omega_types.specs.Ty.{Ty}
use Rattle.omega_types.specs.Kinding.{here, there}
use Rattle.omega_types.specs.Normality.{Normal}
use Rattle.omega_types.specs.Normality.Normal.{n_int, n_neutral, n_fields, n_all, n_arrow}
use Rattle.omega_types.specs.Normality.Normals.{n_end, n_more}
use Rattle.omega_types.specs.Normality.Neutral.{n_var, n_apply}
use Rattle.omega_types.specs.Binders.{NormalForms, OfKinds}
use Rattle.omega_types.proofs.Preservation.{normal-kind}
use Rattle.omega_terms.specs.Term.{Term}
use Rattle.omega_terms.specs.Shorthands.{let_in, Packs}
use Rattle.omega_terms.specs.Instance.{Instance, Instances}
use Rattle.sig_definitions.specs.Signatures.Sig.{Abs, HasField, made}
use Rattle.sig_definitions.specs.Signatures.Alike.{AlikeSig, AlikeAbs, AlikeRow, NormalSigForm}
use Rattle.sig_definitions.specs.Signatures.Encoding.{enc, enc_abs}
use Rattle.sig_definitions.specs.Env.{Env, Entry}
use Rattle.sig_definitions.specs.Matching.Subtyping.{Sub, SubFields, Match}
use Rattle.omega_terms.specs.PartTerms.{one_field}
use Rattle.sig_definitions.specs.Packing.{Packed}
use Rattle.sig_definitions.specs.Lifting.{Lift}
use Rattle.module_judgments.specs.PathUse.{TypeOfPath}
use Rattle.module_judgments.specs.Projection.{Projected}
use Rattle.module_judgments.specs.Sequence.{Seq, Collected}
use Rattle.sig_judgments.specs.SigRules.{AbstractGives, DeclarationsGive}
use Rattle.module_judgments.specs.ModRules.{SealGives, TypeGives as TypeModule, NamedGives, GenerativeGives, PartsGive, ApplyGives}
use Rattle.core_judgments.specs.TypeRules.{BaseGives}
use Rattle.functor_judgments.specs.PureFunctor.{PureFunctorGives}
use Rattle.elab_judgments.specs.Judgments.Meaning.{TyMeans, SigMeans, DeclMeans, DeclsMean, ModMeans, BindMeans, BindsMean}
use Rattle.omega_types.specs.Kinding.HasKind.{k_int}
use Rattle.sig_definitions.specs.Explicit.WellFormed.{WellFormed, WellFormedRow}
use Rattle.elab_laws.proofs.TypedClaims.{module_is_typed}
use Rattle.elab_examples.specs.Rows.{t, h1}
use Rattle.elab_examples.specs.PackageRow.{u, A}
use Rattle.elab_examples.specs.FunctorRow.{GenerativeMeans, generative_functor, generative_sig, X, F, param, target, inner, body, functor, application, int_struct, one_type, functor_sig, operator, one_type_term, coercion, triple, sealing_rest, body_term, functor_term, apply_term, application_term, identity}
use Rattle.elab_examples.proofs.Parts.{own-path, var0, shown-normal, one-instance, pair-instance, triple-instance, part-instance}
use Rattle.omega_terms.proofs.InstanceLaws.{type-self}
use Rattle.omega_types.proofs.BinderPuts.{its-form}

-- a context of one type
abbrev pub star : List Kind
star = Kind.Star ∷ []

-- a context of one type constructor
abbrev pub operators : List Kind
operators = operator ∷ []

-- a structure of one normal type is its own normal form
pub type-form : {ctx : List Kind} {a : Ty} → (l : Name) → Normal ctx a Kind.Star → NormalSigForm ctx (one_type l a) (one_type l a)
type-form l h = AlikeSig.str (AlikeRow.more (AlikeSig.typ (its-form h)) AlikeRow.end)

-- normal types
-- the encoding of a structure of one normal type is normal
pub one-normal : {ctx : List Kind} {a : Ty} → (l : Name) → Normal ctx a Kind.Star → Normal ctx (enc (one_type l a)) Kind.Star
one-normal l h = n_fields (n_more tt (shown-normal h) n_end)

pub lifted-normal : {ctx : List Kind} {a : Ty} → Normal (operator ∷ ctx) a Kind.Star → Normal (operator ∷ ctx) (Ty.Apply (Ty.Var 0) a) Kind.Star
lifted-normal h = n_neutral (n_apply (n_var here) h)

-- a structure of one type is its own match at that type
matches : {ctx : List Kind} {a : Ty} → (l : Name) → Normal ctx a Kind.Star → Match ctx (one_type l a) (Abs.Ex star (one_type l (Ty.Var 0))) (a ∷ []) (coercion l a)
matches {ctx} {a} l h =
    Match.at
    (OfKinds.next (normal-kind h) OfKinds.none)
    (NormalForms.next (its-form h) NormalForms.none)
    (type-form l h)
    (Sub.str (SubFields.more HasField.here Sub.typ SubFields.end))

param_means : (g : Env) → SigMeans g param (Abs.Ex star (one_type u (Ty.Var 0)))
param_means g = SigMeans.sig_decls (DeclsMean.next_decl (DeclMeans.decl_of AbstractGives.abstract) (tt, tt) DeclsMean.no_decls DeclarationsGive.declarations)

target_means : (g : Env) → SigMeans g target (Abs.Ex star (one_type t (Ty.Var 0)))
target_means g = SigMeans.sig_decls (DeclsMean.next_decl (DeclMeans.decl_of AbstractGives.abstract) (tt, tt) DeclsMean.no_decls DeclarationsGive.declarations)

-- the structure that has u as Int means the pure module of this type
pub int_struct_means : ModMeans [] int_struct (made Pure (Abs.Ex [] (one_type u Ty.Int)) [] (one_type_term u Ty.Int))
int_struct_means =
    ModMeans.mod_struct
    (BindsMean.next_bind
    (BindMeans.bind_ty (TyMeans.ty_int BaseGives.int) TypeModule.type)
    (BindsMean.no_binds (Collected.next refl Collected.none))
    (Seq.both_pure (AlikeSig.typ (its-form n_int)) NormalForms.none one-instance))

-- under the parameter
abbrev in_functor : Env
in_functor = Entry.Named X (one_type u (Ty.Var 0)) ∷ Entry.TypeVar Kind.Star ∷ Entry.Named A (one_type u Ty.Int) ∷ []

inner_means : ModMeans in_functor inner (made Pure (Abs.Ex [] (one_type t (Ty.Var 0))) [] (one_type_term t (Ty.Var 0)))
inner_means =
    ModMeans.mod_struct
    (BindsMean.next_bind
    (BindMeans.bind_ty (TyMeans.ty_path (ModMeans.mod_project (ModMeans.mod_name (NamedGives.named refl)) (Projected.pure HasField.here)) (TypeOfPath.type_of (own-path var0))) TypeModule.type)
    (BindsMean.no_binds (Collected.next refl Collected.none))
    (Seq.both_pure (AlikeSig.typ (its-form var0)) NormalForms.none one-instance))

pub coercion-instance : {ctx : List Kind} {a : Ty} (l : Name) → Normal ctx a Kind.Star → Instance ctx ctx Ty.Var (coercion l a) (coercion l a)
coercion-instance l h = Instance.lam (type-self (one-normal l h)) (Instance.fields (Instances.more (part-instance (shown-normal h)) Instances.end))

-- the rest after the sealed structure is its own instance at the identity
pub sealing-instance : Instance star star Ty.Var sealing_rest sealing_rest
sealing-instance = Instance.call (Instance.lam (type-self (one-normal t var0)) pair-instance) (Instance.call (coercion-instance t var0) Instance.var)

body_means : ModMeans in_functor body (made Pure (Abs.Ex star (one_type t (Ty.Var 0))) (Ty.Var 0 ∷ []) body_term)
body_means =
    ModMeans.mod_project
    (ModMeans.mod_struct
    (BindsMean.next_bind
    (BindMeans.bind_module inner_means)
    (BindsMean.next_bind
    (BindMeans.bind_module (ModMeans.mod_seal refl (target_means (Entry.Named h1 (one_type t (Ty.Var 0)) ∷ in_functor)) (matches t var0) SealGives.seal))
    (BindsMean.no_binds (Collected.next refl (Collected.next refl Collected.none)))
    (Seq.both_pure (type-form t var0) NormalForms.none pair-instance))
    (Seq.both_pure (type-form t var0) (NormalForms.next (its-form var0) NormalForms.none) sealing-instance)))
    (Projected.pure HasField.here)

lift-form : Lift [] star (one_type u (Ty.Var 0)) (Abs.Ex star (one_type t (Ty.Var 0))) (Abs.Ex operators functor_sig)
lift-form = Lift.lift (AlikeAbs.ex (AlikeSig.fun (type-form u var0) (AlikeAbs.ex (type-form t (n_neutral (n_apply (n_var (there here)) var0))))))

-- the applicative functor means a module that hides one type constructor, whose type is the identity
pub functor_means : ModMeans (Entry.Named A (one_type u Ty.Int) ∷ []) functor (made Pure (Abs.Ex operators functor_sig) (identity ∷ []) functor_term)
functor_means = ModMeans.mod_applicative (param_means (Entry.Named A (one_type u Ty.Int) ∷ [])) body_means (PureFunctorGives.pure_functor lift-form)

-- the application, under A and F
abbrev pub after_functor : Env
after_functor = Entry.Named F functor_sig ∷ Entry.TypeVar operator ∷ Entry.Named A (one_type u Ty.Int) ∷ []

-- the hidden type constructor at Int is normal
pub at_int : Normal operators (Ty.Apply (Ty.Var 0) Ty.Int) Kind.Star
at_int = lifted-normal n_int

under_param : Normal (Kind.Star ∷ operators) (Ty.Apply (Ty.Var 1) (Ty.Var 0)) Kind.Star
under_param = n_neutral (n_apply (n_var (there here)) var0)

functor-form : NormalSigForm operators functor_sig functor_sig
functor-form = AlikeSig.fun (type-form u var0) (AlikeAbs.ex (type-form t under_param))

-- the encoding of the functor's signature is normal
pub functor-normal : Normal operators (enc functor_sig) Kind.Star
functor-normal = n_all (n_arrow (one-normal u var0) (n_fields (n_more tt (one-normal t under_param) n_end)))

-- the term of the application is its own instance at the identity
pub apply-instance : {ctx : List Kind} → Instance ctx ctx Ty.Var apply_term apply_term
apply-instance = Instance.get (Instance.call (Instance.inst Instance.var (type-self n_int)) (Instance.call (coercion-instance u n_int) Instance.var))

after-arg : Instance operators operators Ty.Var (let_in (enc (one_type t (Ty.Apply (Ty.Var 0) Ty.Int))) apply_term triple) (let_in (enc (one_type t (Ty.Apply (Ty.Var 0) Ty.Int))) apply_term triple)
after-arg = Instance.call (Instance.lam (type-self (one-normal t at_int)) triple-instance) apply-instance

-- the application of the functor means the structure whose t is the hidden type constructor at Int
pub application_means : ModMeans after_functor application (made Pure (Abs.Ex [] (one_type t (Ty.Apply (Ty.Var 0) Ty.Int))) [] (application_term functor_sig (Ty.Apply (Ty.Var 0) Ty.Int)))
application_means =
    ModMeans.mod_project
    (ModMeans.mod_struct
    (BindsMean.next_bind
    (BindMeans.bind_module (ModMeans.mod_name (NamedGives.named refl)))
    (BindsMean.next_bind
    (BindMeans.bind_module (ModMeans.mod_name (NamedGives.named refl)))
    (BindsMean.next_bind
    (BindMeans.bind_module (ModMeans.mod_apply refl PartsGive.parts refl (matches u n_int) (ApplyGives.apply (AlikeAbs.ex (type-form t at_int)))))
    (BindsMean.no_binds (Collected.next refl (Collected.next refl (Collected.next refl Collected.none))))
    (Seq.both_pure (type-form t at_int) NormalForms.none triple-instance))
    (Seq.both_pure (type-form u n_int) NormalForms.none after-arg))
    (Seq.both_pure functor-form NormalForms.none
    (Instance.call (Instance.lam (type-self (one-normal u n_int)) after-arg) Instance.var))))
    (Projected.pure HasField.here)

-- the generative functor packs its hidden type anew at each application
pub generative_means : GenerativeMeans
generative_means = (_, means, module_is_typed (Entry.Named A (one_type u Ty.Int) ∷ []) generative_functor Pure (Abs.Ex [] generative_sig) [] _ _ ((WellFormed.str (tt, tt) (WellFormedRow.more (WellFormed.typ k_int) WellFormedRow.end)), tt) ((n_int, tt), tt) means (Packed.pure Packs.none))
  where
    means : ModMeans (Entry.Named A (one_type u Ty.Int) ∷ []) generative_functor (made Pure (Abs.Ex [] generative_sig) [] (Term.TyLam Kind.Star (Term.Lam (enc (one_type u (Ty.Var 0))) (one_field Label.Gen (Term.Pack (Ty.Var 0) body_term (enc_abs (Abs.Ex star (one_type t (Ty.Var 0)))))))))
    means = ModMeans.mod_generative (param_means (Entry.Named A (one_type u Ty.Int) ∷ [])) body_means refl (GenerativeGives.generative (Packed.pure (Packs.next (its-form (one-normal t var0)) Packs.none)))
