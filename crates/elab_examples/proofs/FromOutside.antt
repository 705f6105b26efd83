-- The derivations of a projection and a sequence under a type variable from outside.
-- Main results: outside_project, outside_seq.
use Rattle.std.specs.Prelude.{List, [], ◌∷◌}
use Rattle.std.proofs.Math.Path.{refl}
use Rattle.omega_kinds.specs.Kind.{Kind}
use Rattle.omega_kinds.specs.declared.label.Label.{Label}
use Rattle.omega_types.specs.Ty.{Ty}
use Rattle.omega_types.specs.Normality.Normal.{n_arrow, n_ex, n_fields}
use Rattle.omega_types.specs.Normality.Normals.{n_end, n_more}
use Rattle.omega_types.specs.Binders.{raise}
use Rattle.omega_terms.specs.Term.{Term, TermRow}
use Rattle.omega_terms.specs.Shorthands.{Packs, opens}
use Rattle.sig_definitions.specs.Signatures.Sig.{Sig, Abs, SigRow, HasField, made}
use Rattle.sig_definitions.specs.Signatures.Encoding.{enc_abs}
use Rattle.sig_definitions.specs.Packing.{Packed}
use Rattle.module_judgments.specs.Projection.{Projected}
use Rattle.module_judgments.specs.Sequence.{Seq}
use Rattle.omega_kinds.specs.declared.effect.Effect.TheVariants.{Pure, Impure}
use Rattle.omega_terms.specs.Typing.{HasType, At}
use Rattle.omega_terms.specs.NormalTyping.{Typed, TypedFields}
use Rattle.omega_terms.proofs.NormalTyping.{typed-sound}
use Rattle.sig_laws.proofs.Encoded.EncodingTyping.{Good}
use Rattle.elab_laws.proofs.ModuleTyping.{GoodModule, plain-module, packed-typed, seq-typed, project-typed}
use Rattle.elab_examples.specs.Rows.{x}
use Rattle.elab_examples.specs.OutsideRow.{hiding_value, hiding_field, OutsideProject, OutsideSeq}
use Rattle.elab_examples.proofs.Parts.{var0, var1, value-normal}
use Rattle.omega_types.proofs.BinderPuts.{its-form}

-- a body with its first hidden type put back in, packed
abbrev again : Abs → Term → Term
again y e = Term.Pack (Ty.Var 0) e (raise (Kind.Star ∷ []) (enc_abs y))

project_derived : Projected (Kind.Star ∷ []) (made Impure hiding_field [] (Term.Var 0)) x (made Impure hiding_value [] (opens (Kind.Star ∷ []) (Term.Var 0) (enc_abs hiding_field) (again hiding_value (Term.Get (Term.Var 0) (Label.Name x)))))
project_derived = Projected.impure HasField.here (Packs.next (its-form (value-normal (n_arrow var0 var1))) Packs.none)

-- a module variable whose signature hides one type
hiding_typed : {s : Sig} → Good (Kind.Star ∷ Kind.Star ∷ []) s → GoodModule (Kind.Star ∷ []) (enc_abs (Abs.Ex (Kind.Star ∷ []) s) ∷ []) (made Impure (Abs.Ex (Kind.Star ∷ []) s) [] (Term.Var 0))
hiding_typed g = GoodModule.impure g (Typed.var At.here)

field_good : Good (Kind.Star ∷ Kind.Star ∷ []) (Sig.Str (SigRow.More x (Sig.Val (Ty.Arrow (Ty.Var 0) (Ty.Var 1))) SigRow.End))
field_good = record { normal = (n_arrow var0 var1, tt); shape = (tt, tt, tt) }

value_good : Good (Kind.Star ∷ Kind.Star ∷ []) (Sig.Val (Ty.Arrow (Ty.Var 0) (Ty.Var 1)))
value_good = record { normal = n_arrow var0 var1; shape = tt }

typed_whole : {s : Sig} {vs : List Ty} {e : Term} → GoodModule (Kind.Star ∷ []) vs (made Impure (Abs.Ex (Kind.Star ∷ []) s) [] e) → HasType (Kind.Star ∷ []) vs e (enc_abs (Abs.Ex (Kind.Star ∷ []) s))
typed_whole g = typed-sound (packed-typed g Packed.impure)

-- the field of an impure module under a type variable from outside
pub outside_project : OutsideProject
outside_project = (_, project_derived, typed_whole (project-typed (hiding_typed field_good) project_derived))

seq_derived : Seq (Kind.Star ∷ []) (made Impure hiding_value [] (Term.Var 0)) (made Pure (Abs.Ex [] (Sig.Str (SigRow.More x (Sig.Val (Ty.Arrow (Ty.Var 0) (Ty.Var 1))) SigRow.End))) [] (Term.Fields (TermRow.More (Label.Name x) (Term.Var 0) TermRow.End))) (made Impure hiding_field [] (opens (Kind.Star ∷ []) (Term.Var 0) (enc_abs hiding_value) (again hiding_field (Term.Fields (TermRow.More (Label.Name x) (Term.Var 0) TermRow.End)))))
seq_derived = Seq.some_impure refl Packed.impure (Packed.pure Packs.none) (Packs.next (its-form (n_fields (n_more tt (value-normal (n_arrow var0 var1)) n_end))) Packs.none)

-- a structure of one impure value under a type variable from outside
pub outside_seq : OutsideSeq
outside_seq = (_, seq_derived, typed_whole (seq-typed (n_ex (value-normal (n_arrow var0 var1)), tt) (hiding_typed value_good) (plain-module field_good (Typed.fields (TypedFields.more (Typed.var At.here) tt TypedFields.end))) seq_derived))
