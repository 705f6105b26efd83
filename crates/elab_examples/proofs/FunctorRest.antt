-- The identity is put in for the lifted type, and the whole program.
-- Main results: functor_program.
use Rattle.std.specs.Prelude.{ℕ, List, [], ◌∷◌}
use Rattle.std.proofs.Math.Path.{refl, sym, subst}
use Rattle.omega_kinds.specs.Kind.{Kind}
use Rattle.omega_kinds.specs.declared.label.Label.{Label}
use Rattle.omega_kinds.specs.declared.effect.Effect.TheVariants.{Pure}
use Rattle.omega_types.specs.Ty.{Ty}
use Rattle.omega_types.specs.Substitution.{substitute, single}
use Rattle.omega_types.specs.Kinding.{Lookup, HasKind, here, there}
use Rattle.omega_types.specs.Kinding.HasKind.{k_var}
use Rattle.omega_types.specs.Conversion.Conv.{c_beta}
use Rattle.omega_types.specs.Normality.{Normal}
use Rattle.omega_types.specs.Normality.Normal.{n_int, n_lam, n_all, n_arrow, n_fields, n_neutral}
use Rattle.omega_types.specs.Normality.Neutral.{n_var, n_apply}
use Rattle.omega_types.specs.Normality.Normals.{n_end, n_more}
use Rattle.omega_types.specs.Normaliser.{normal}
use Rattle.omega_types.specs.Binders.{NormalForms, puts}
use Rattle.omega_types.proofs.Preservation.{normal-kind, kind-substitute, single-substitutes}
use Rattle.omega_types.proofs.Hereditary.{normal-gives}
use Rattle.omega_terms.specs.Term.{Term}
use Rattle.omega_terms.specs.Shorthands.{let_in, Packs}
use Rattle.omega_terms.specs.Instance.{TyInstance, Instance, Instances}
use Rattle.omega_terms.specs.PartTerms.{one_field}
use Rattle.sig_definitions.specs.Signatures.Sig.{Sig, SigRow, made}
use Rattle.sig_definitions.specs.Signatures.Alike.{AlikeSig, AlikeAbs, AlikeRow, NormalSigForm}
use Rattle.sig_definitions.specs.Signatures.SigSubst.{sig_at}
use Rattle.sig_definitions.specs.Signatures.Encoding.{enc, enc_abs}
use Rattle.sig_definitions.specs.Packing.{Packed}
use Rattle.module_judgments.specs.Sequence.{Seq, Collected}
use Rattle.elab_judgments.specs.Judgments.Meaning.{BindMeans, BindsMean}
use Rattle.elab_judgments.specs.Judgments.Program.{ProgramMeans}
use Rattle.elab_laws.proofs.TypedClaims.{whole_is_typed}
use Rattle.elab_examples.specs.Rows.{t}
use Rattle.elab_examples.specs.PackageRow.{u, A}
use Rattle.elab_examples.specs.FunctorRow.{F, P, applicative, one_type, functor_sig, operator, applicative_sig, FunctorProgram, coercion, body_term, functor_term, apply_term, application_term, rest_term, shown_functor, identity, applicative_term, one_type_term}
use Rattle.elab_examples.proofs.Parts.{labels-differ, var0, shown-normal, one-instance, triple-instance}
use Rattle.elab_examples.proofs.Functors.{star, operators, type-form, one-normal, at_int, functor-normal, sealing-instance, apply-instance, int_struct_means, functor_means, application_means}
use Rattle.omega_terms.proofs.InstanceLaws.{type-self}
use Rattle.omega_types.proofs.BinderPuts.{its-form, unders-var}

identity-kind : {ctx : List Kind} → HasKind ctx identity operator
identity-kind = normal-kind (n_lam var0)

puts-kinds : (i : ℕ) (k : Kind) → Lookup operators i k → HasKind [] (puts (identity ∷ []) Ty.Var i) k
puts-kinds _ _ here = identity-kind
puts-kinds _ _ (there h) = elim h [ ]

-- a normal type with the identity put in, in normal form
put-in : {a : Ty} → Normal operators a Kind.Star → TyInstance operators [] (puts (identity ∷ []) Ty.Var) a Kind.Star (normal [] (substitute (puts (identity ∷ []) Ty.Var) a))
put-in h = TyInstance.made h (normal-gives (kind-substitute (puts (identity ∷ []) Ty.Var) puts-kinds (normal-kind h)))

abbrev inside : Term
inside = Term.Lam (enc (one_type u (Ty.Var 0))) (one_field Label.App body_term)

put-coercion : Instance operators [] (puts (identity ∷ []) Ty.Var) (coercion u Ty.Int) (coercion u Ty.Int)
put-coercion =
    Instance.lam (put-in (one-normal u n_int))
    (Instance.fields (Instances.more (Instance.call (Instance.lam (put-in (shown-normal n_int)) Instance.var) (Instance.get Instance.var)) Instances.end))

put-apply : Instance operators [] (puts (identity ∷ []) Ty.Var) apply_term apply_term
put-apply = Instance.get (Instance.call (Instance.inst Instance.var (put-in n_int)) (Instance.call put-coercion Instance.var))

put-application : Instance operators [] (puts (identity ∷ []) Ty.Var) (application_term functor_sig (Ty.Apply (Ty.Var 0) Ty.Int)) (application_term shown_functor Ty.Int)
put-application =
    Instance.get
    (Instance.call
    (Instance.lam (put-in functor-normal)
    (Instance.call
    (Instance.lam (put-in (one-normal u n_int))
    (Instance.call (Instance.lam (put-in (one-normal t at_int)) triple-instance) put-apply))
    Instance.var))
    Instance.var)

put-rest : Instance operators [] (puts (identity ∷ []) Ty.Var) (rest_term functor_sig (Ty.Apply (Ty.Var 0) Ty.Int)) (rest_term shown_functor Ty.Int)
put-rest = Instance.call (Instance.lam (put-in (one-normal t at_int)) triple-instance) put-application

shown-form : NormalSigForm [] (sig_at (identity ∷ []) functor_sig) shown_functor
shown-form =
    AlikeSig.fun (type-form u var0)
    (AlikeAbs.ex (AlikeSig.str (AlikeRow.more (AlikeSig.typ (var0, c_beta (k_var here) (k_var here))) AlikeRow.end)))

-- nothing is put in
shown-functor-normal : Normal [] (enc shown_functor) Kind.Star
shown-functor-normal = n_all (n_arrow (one-normal u var0) (n_fields (n_more tt (one-normal t var0) n_end)))

type-instance : Instance star star Ty.Var (one_type_term t (Ty.Var 0)) (one_type_term t (Ty.Var 0))
type-instance =
    Instance.call
    (Instance.lam (type-self (shown-normal var0)) one-instance)
    (Instance.fields (Instances.more (Instance.ty_lam (Instance.lam (TyInstance.made seen (its-form seen)) Instance.var)) Instances.end))
  where
    seen : Normal (operator ∷ star) (Ty.Apply (Ty.Var 0) (Ty.Var 1)) Kind.Star
    seen = n_neutral (n_apply (n_var here) (n_neutral (n_var (there here))))

body-instance : Instance star star Ty.Var body_term body_term
body-instance = Instance.get (Instance.call (Instance.lam (type-self (one-normal t var0)) sealing-instance) type-instance)

functor-instance : Instance [] [] Ty.Var functor_term functor_term
functor-instance = Instance.ty_lam (subst (λ s. Instance star star s inside inside) (sym (unders-var star)) (Instance.lam (type-self (one-normal u var0)) (Instance.fields (Instances.more body-instance Instances.end))))

application-instance : Instance [] [] Ty.Var (application_term shown_functor Ty.Int) (application_term shown_functor Ty.Int)
application-instance =
    Instance.get
    (Instance.call
    (Instance.lam (type-self shown-functor-normal)
    (Instance.call
    (Instance.lam (type-self (one-normal u n_int))
    (Instance.call (Instance.lam (type-self (one-normal t n_int)) triple-instance) apply-instance))
    Instance.var))
    Instance.var)

rest-instance : Instance [] [] Ty.Var (let_in (enc shown_functor) functor_term (rest_term shown_functor Ty.Int)) (let_in (enc shown_functor) functor_term (rest_term shown_functor Ty.Int))
rest-instance =
    Instance.call
    (Instance.lam (type-self shown-functor-normal) (Instance.call (Instance.lam (type-self (one-normal t n_int)) triple-instance) application-instance))
    functor-instance

program-means : BindsMean [] [] applicative (made Pure applicative_sig (identity ∷ []) applicative_term)
program-means =
    BindsMean.next_bind
    (BindMeans.bind_module int_struct_means)
    (BindsMean.next_bind
    (BindMeans.bind_module functor_means)
    (BindsMean.next_bind
    (BindMeans.bind_module application_means)
    (BindsMean.no_binds (Collected.next refl (Collected.next refl (Collected.next refl Collected.none))))
    (Seq.both_pure (type-form t at_int) NormalForms.none triple-instance))
    (Seq.both_pure shown-form NormalForms.none put-rest))
    (Seq.both_pure (type-form u n_int) (NormalForms.next (its-form (n_lam var0)) NormalForms.none) rest-instance)

whole-normal : Normal operators (enc (Sig.Str (SigRow.More A (one_type u Ty.Int) (SigRow.More F functor_sig (SigRow.More P (one_type t (Ty.Apply (Ty.Var 0) Ty.Int)) SigRow.End))))) Kind.Star
whole-normal = n_fields (n_more (labels-differ refl, (labels-differ refl, tt)) (one-normal u n_int) (n_more (labels-differ refl, tt) functor-normal (n_more tt (one-normal t at_int) n_end)))

program-means-whole : ProgramMeans applicative (made Pure applicative_sig (identity ∷ []) applicative_term) (Term.Pack identity applicative_term (enc_abs applicative_sig))
program-means-whole = ProgramMeans.program program-means (Packed.pure (Packs.next (normal-gives (kind-substitute (single identity) (single-substitutes identity-kind) (normal-kind whole-normal))) Packs.none))

-- the program with an applicative functor means the module stated, with the identity for the lifted type
pub functor_program : FunctorProgram
functor_program = (_, program-means-whole, whole_is_typed applicative Pure applicative_sig _ _ _ program-means-whole)
