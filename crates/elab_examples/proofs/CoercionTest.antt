-- The derivation of a subtyping of functors.
-- Main results: functor_coercion.
use Rattle.std.specs.Prelude.{[], ◌∷◌}
use Rattle.std.proofs.Math.Path.{refl}
use Rattle.omega_kinds.specs.Kind.{Kind}
use Rattle.omega_kinds.specs.declared.label.Label.{Label}
use Rattle.omega_kinds.specs.declared.effect.Effect.TheVariants.{Impure}
use Rattle.omega_types.specs.Ty.{Ty}
use Rattle.omega_types.specs.Kinding.{here, there}
use Rattle.omega_types.specs.Normality.{Normal}
use Rattle.omega_types.specs.Normality.Normal.{n_neutral}
use Rattle.omega_types.specs.Normality.Neutral.{n_var}
use Rattle.omega_types.specs.Binders.{NormalForms, OfKinds, raise}
use Rattle.omega_types.proofs.Preservation.{normal-kind}
use Rattle.omega_terms.specs.Term.{Term, TermRow}
use Rattle.omega_terms.specs.Shorthands.{Packs, opens}
use Rattle.omega_terms.specs.Coercions.{same_part, fields_part, functor_part, AbsPart}
use Rattle.sig_definitions.specs.Signatures.Sig.{Sig, Abs, SigRow, HasField}
use Rattle.sig_definitions.specs.Signatures.Alike.{AlikeSig, AlikeAbs, AlikeRow}
use Rattle.sig_definitions.specs.Signatures.Encoding.{enc, enc_abs}
use Rattle.sig_definitions.specs.Matching.Subtyping.{Sub, SubFields, SubResult, SubAbs, Match}
use Rattle.omega_terms.proofs.NormalTyping.{typed-sound}
use Rattle.sig_laws.proofs.Encoded.EncodingTyping.{Good, Shape}
use Rattle.sig_laws.proofs.Encoded.CoercionTyping.{sub-typed}
use Rattle.elab_examples.specs.Rows.{t, x}
use Rattle.elab_examples.specs.PackageRow.{u, two, hiding}
use Rattle.elab_examples.specs.CoercionRow.{result, smaller, larger, FunctorCoercion}
use Rattle.elab_examples.proofs.Parts.{differ, var0, var1, three-form, three}
use Rattle.omega_types.proofs.BinderPuts.{its-form}

-- the parameter's u, out of t, u and x
abbrev inner : Term
inner = fields_part (enc hiding) (TermRow.More (Label.Name u) (same_part (enc (Sig.Typ (Ty.Var 0) Kind.Star))) TermRow.End)

-- the result's parts, under its hidden type
abbrev parts : Term
parts = fields_part (enc (result (Ty.Var 0) (Ty.Var 1) (Ty.Var 3))) (TermRow.More (Label.Name t) (same_part (enc (Sig.Typ (Ty.Var 0) Kind.Star))) (TermRow.More (Label.Name u) (same_part (enc (Sig.Typ (Ty.Var 1) Kind.Star))) (TermRow.More (Label.Name x) (same_part (enc (Sig.Val (Ty.Var 3)))) TermRow.End)))

abbrev target : Abs
target = Abs.Ex (Kind.Star ∷ []) (result (Ty.Var 0) (Ty.Var 1) (Ty.Var 3))

abbrev outer : Term
outer = Term.Lam (enc_abs target) (opens (Kind.Star ∷ []) (Term.Var 0) (enc_abs target) (Term.Pack (Ty.Var 0) (Term.Call parts (Term.Var 0)) (raise (Kind.Star ∷ []) (enc_abs target))))

param-matches : Match (Kind.Star ∷ Kind.Star ∷ Kind.Star ∷ []) hiding (Abs.Ex (Kind.Star ∷ []) (Sig.Str (SigRow.More u (Sig.Typ (Ty.Var 0) Kind.Star) SigRow.End))) (Ty.Var 0 ∷ []) inner
param-matches =
    Match.at
    (OfKinds.next (normal-kind var0) OfKinds.none)
    (NormalForms.next (its-form var0) NormalForms.none)
    (AlikeSig.str (AlikeRow.more (AlikeSig.typ (its-form var0)) AlikeRow.end))
    (Sub.str (SubFields.more (HasField.there (differ refl) HasField.here) Sub.typ SubFields.end))

var3 : Normal (Kind.Star ∷ Kind.Star ∷ Kind.Star ∷ Kind.Star ∷ []) (Ty.Var 3) Kind.Star
var3 = n_neutral (n_var (there (there (there here))))

result-matches : Match (Kind.Star ∷ Kind.Star ∷ Kind.Star ∷ Kind.Star ∷ []) (result (Ty.Var 0) (Ty.Var 1) (Ty.Var 3)) (Abs.Ex (Kind.Star ∷ []) (result (Ty.Var 0) (Ty.Var 2) (Ty.Var 4))) (Ty.Var 0 ∷ []) parts
result-matches =
    Match.at
    (OfKinds.next (normal-kind var0) OfKinds.none)
    (NormalForms.next (its-form var0) NormalForms.none)
    (three-form var0 var1 var3)
    (Sub.str
    (SubFields.more HasField.here Sub.typ
    (SubFields.more (HasField.there (differ refl) HasField.here) Sub.typ
    (SubFields.more (HasField.there (differ refl) (HasField.there (differ refl) HasField.here)) Sub.val SubFields.end))))

derived : Sub (Kind.Star ∷ []) smaller larger (functor_part (enc smaller) Impure Impure two (enc hiding) (Ty.Var 0 ∷ []) inner outer)
derived =
    Sub.fun param-matches
    (AlikeAbs.ex (three-form var0 var1 var3))
    (SubResult.to_impure (SubAbs.hidden result-matches (AbsPart.made (Packs.next (its-form (three var0 var1 var3)) Packs.none))))

result-shape : (a b c : Ty) → Shape (result a b c)
result-shape a b c = ((differ refl, (differ refl, tt)), tt, ((differ refl, tt), tt, (tt, tt, tt)))

smaller-good : Good (Kind.Star ∷ []) smaller
smaller-good = record { normal = ((var0, tt), (var0, (var1, (n_neutral (n_var (there (there here))), tt)))); shape = ((tt, tt, tt), result-shape (Ty.Var 0) (Ty.Var 1) (Ty.Var 2), tt) }

larger-good : Good (Kind.Star ∷ []) larger
larger-good = record { normal = ((var1, (var0, (var1, tt))), (var0, (var1, (var3, tt)))); shape = (((differ refl, (differ refl, tt)), tt, ((differ refl, tt), tt, (tt, tt, tt))), result-shape (Ty.Var 0) (Ty.Var 1) (Ty.Var 3), tt) }

-- a generative functor is a subtype of one with a larger parameter, and its coercion is typed
pub functor_coercion : FunctorCoercion
functor_coercion = (_, derived, typed-sound (sub-typed smaller-good larger-good derived))
