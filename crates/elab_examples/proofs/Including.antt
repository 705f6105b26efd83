-- The derivations of an include and of two refinements.
-- Main results: include_means, fixing_t, fixing_u.
use Rattle.std.specs.Prelude.{ℕ, List, [], ◌∷◌}
use Rattle.std.proofs.Math.Path.{refl}
use Rattle.omega_kinds.specs.Kind.{Kind}
use Rattle.omega_kinds.specs.declared.label.Label.{Label}
use Rattle.omega_types.specs.Ty.{Ty}
use Rattle.omega_types.specs.Kinding.{here, there}
use Rattle.omega_types.specs.Normality.{Normal}
use Rattle.omega_types.specs.Normality.Normal.{n_int, n_ex, n_fields, n_neutral}
use Rattle.omega_types.specs.Normality.Normals.{n_end, n_more}
use Rattle.omega_types.specs.Normality.Neutral.{n_var}
use Rattle.omega_types.specs.Binders.{NormalForms, vars, raise}
use Rattle.omega_types.proofs.Preservation.{normal-kind}
use Rattle.omega_terms.specs.Term.{Term, TermRow}
use Rattle.omega_terms.specs.Shorthands.{let_in, opens, Packs}
use Rattle.omega_terms.specs.PartTerms.{type_term}
use Rattle.omega_terms.specs.Instance.{Instance, Instances}
use Rattle.sig_definitions.specs.Signatures.Sig.{Sig, Abs, SigRow, HasField, made}
use Rattle.sig_definitions.specs.Signatures.Alike.{AlikeSig}
use Rattle.sig_definitions.specs.Signatures.Encoding.{enc, enc_abs}
use Rattle.sig_definitions.specs.Explicit.SigPath.{PartAt}
use Rattle.sig_definitions.specs.Packing.{Packed}
use Rattle.module_judgments.specs.PathUse.{TypeOfPath, ValueOfPath}
use Rattle.module_judgments.specs.Projection.{Projected}
use Rattle.module_judgments.specs.Sequence.{Seq, Collected, field_lets, past_opens}
use Rattle.module_judgments.specs.ModRules.{TypeGives as TypeModule, NamedGives, IncludeGives as IncludeModule}
use Rattle.package_judgments.specs.Package.{UnpackGives}
use Rattle.elab_judgments.specs.Judgments.Meaning.{TyMeans, ExpMeans, ModMeans, BindMeans, BindsMean}
use Rattle.sig_judgments.specs.Refinement.{Refined}
use Rattle.omega_kinds.specs.declared.effect.Effect.TheVariants.{Impure}
use Rattle.omega_terms.specs.Typing.{HasType}
use Rattle.sig_definitions.specs.Explicit.WellFormed.{WellFormed}
use Rattle.fing_syntax.specs.Phrase.{Mod, ModAt, ModUnpack, ExpAt, PathExp}
use Rattle.elab_laws.proofs.TypedClaims.{module_is_typed}
use Rattle.elab_examples.specs.Rows.{t, x}
use Rattle.elab_examples.specs.PackageRow.{u, p, A, o, named, two, t_first, hiding, package_type}
use Rattle.elab_examples.specs.IncludeRow.{with_p, including, x_of_p, including_sig, IncludeMeans, FixingT, FixingU, ProjectMeans}
use Rattle.elab_examples.proofs.Packages.{t_first_means, t_first_norm, package_type-normal}
use Rattle.elab_examples.proofs.Parts.{differ, labels-differ, own-path, var0, var1, shown-normal, value-normal, three-form}
use Rattle.elab_examples.proofs.PackageOrder.{fields_of}
use Rattle.omega_types.proofs.BinderPuts.{its-form}

-- A, t, u and x after the lets of the included fields
abbrev record_term : Term
record_term = let_in (enc (Sig.Typ (Ty.Var 1) Kind.Star)) (type_term (Ty.Var 1) Kind.Star) (Term.Fields (TermRow.More (Label.Name A) (Term.Var 0) (TermRow.More (Label.Name t) (Term.Var 3) (TermRow.More (Label.Name u) (Term.Var 2) (TermRow.More (Label.Name x) (Term.Var 1) TermRow.End)))))

abbrev lets_term : Term
lets_term = field_lets 0 (fields_of 1 0) record_term

abbrev whole_sig : Ty → Ty → Sig
whole_sig a b = Sig.Str (SigRow.More A (Sig.Typ a Kind.Star) (SigRow.More t (Sig.Typ a Kind.Star) (SigRow.More u (Sig.Typ b Kind.Star) (SigRow.More x (Sig.Val a) SigRow.End))))

whole-normal : {ctx : List Kind} {a b : Ty} → Normal ctx a Kind.Star → Normal ctx b Kind.Star → Normal ctx (enc (whole_sig a b)) Kind.Star
whole-normal ha hb =
    n_fields (n_more (labels-differ refl, (labels-differ refl, (labels-differ refl, tt))) (shown-normal ha)
    (n_more (labels-differ refl, (labels-differ refl, tt)) (shown-normal ha) (n_more (labels-differ refl, tt) (shown-normal hb) (n_more tt (value-normal ha) n_end))))

abbrev packed_term : Term
packed_term = Term.Pack (Ty.Var 1) (Term.Pack (Ty.Var 0) (past_opens two lets_term) (Ty.Ex Kind.Star (enc (whole_sig (Ty.Var 2) (Ty.Var 0))))) (raise two (enc_abs including_sig))

packing : Packs two (vars two) (past_opens two lets_term) (raise two (enc_abs including_sig)) packed_term
packing = Packs.next (its-form (n_ex (whole-normal (n_neutral (n_var (there (there here)))) var0))) (Packs.next (its-form (whole-normal var1 var0)) Packs.none)

record-instance : {from to : List Kind} {s : ℕ → Ty} → Instance from to s (Term.Fields (TermRow.More (Label.Name A) (Term.Var 0) (TermRow.More (Label.Name t) (Term.Var 3) (TermRow.More (Label.Name u) (Term.Var 2) (TermRow.More (Label.Name x) (Term.Var 1) TermRow.End))))) (Term.Fields (TermRow.More (Label.Name A) (Term.Var 0) (TermRow.More (Label.Name t) (Term.Var 3) (TermRow.More (Label.Name u) (Term.Var 2) (TermRow.More (Label.Name x) (Term.Var 1) TermRow.End)))))
record-instance = Instance.fields (Instances.more Instance.var (Instances.more Instance.var (Instances.more Instance.var (Instances.more Instance.var Instances.end))))

typed_here : {m : Mod} {x : Abs} {e : Term} → ModMeans with_p m (made Impure x [] e) → HasType [] (enc (Sig.Val package_type) ∷ []) e (enc_abs x)
typed_here {m} {x} {e} p = module_is_typed with_p m Impure x [] e e (WellFormed.val (normal-kind package_type-normal), tt) (package_type-normal, tt) p Packed.impure

unpacked_means : ModMeans with_p (ModAt o (ModUnpack (ExpAt o (PathExp (named p))) t_first)) (made Impure (Abs.Ex two hiding) [] (Term.Get (Term.Var 0) Label.Val))
unpacked_means = ModMeans.mod_unpack (ExpMeans.exp_path (ModMeans.mod_name (NamedGives.named refl)) (ValueOfPath.value_at (own-path package_type-normal))) (t_first_means with_p) (t_first_norm []) UnpackGives.unpack

include_derived : ModMeans with_p including (made Impure including_sig [] (opens two (Term.Get (Term.Var 0) Label.Val) (enc_abs (Abs.Ex two hiding)) packed_term))
include_derived =
    ModMeans.mod_struct
    (BindsMean.next_include unpacked_means
    (BindsMean.next_bind
    (BindMeans.bind_ty (TyMeans.ty_path (ModMeans.mod_name (NamedGives.named refl)) (TypeOfPath.type_of (own-path var1))) TypeModule.type)
    (BindsMean.no_binds (Collected.next refl (Collected.next refl (Collected.next refl (Collected.next refl Collected.none)))))
    (Seq.both_pure (AlikeSig.typ (its-form var1)) NormalForms.none record-instance))
    (IncludeModule.include (Seq.some_impure refl Packed.impure (Packed.pure Packs.none) packing)))

-- the structure that includes an unpacked module means the impure module stated
pub include_means : IncludeMeans
include_means = (_, include_derived, typed_here include_derived)

-- the signature with t fixed to Int hides only u
pub fixing_t : FixingT
fixing_t = Refined.refined [] (Kind.Star ∷ []) refl (PartAt.field HasField.here PartAt.end) (three-form n_int var0 n_int)

-- the signature with u fixed to a type variable from outside hides only t
pub fixing_u : FixingU
fixing_u = Refined.refined (Kind.Star ∷ []) [] refl (PartAt.field (HasField.there (differ refl) HasField.here) PartAt.end) (three-form var0 var1 var0)

abbrev projected_term : Term
projected_term = Term.Pack (Ty.Var 1) (Term.Pack (Ty.Var 0) (Term.Get (Term.Var 0) (Label.Name x)) (Ty.Ex Kind.Star (enc (Sig.Val (Ty.Var 2))))) (raise two (enc_abs (Abs.Ex two (Sig.Val (Ty.Var 1)))))

project_derived : ModMeans with_p x_of_p (made Impure (Abs.Ex two (Sig.Val (Ty.Var 1))) [] (opens two (Term.Get (Term.Var 0) Label.Val) (enc_abs (Abs.Ex two hiding)) projected_term))
project_derived =
    ModMeans.mod_project unpacked_means
    (Projected.impure (HasField.there (differ refl) (HasField.there (differ refl) HasField.here)) (Packs.next (its-form (n_ex (value-normal (n_neutral (n_var (there (there here))))))) (Packs.next (its-form (value-normal var1)) Packs.none)))

-- the projection of x from an impure module with two hidden types
pub project_means : ProjectMeans
project_means = (_, project_derived, typed_here project_derived)
