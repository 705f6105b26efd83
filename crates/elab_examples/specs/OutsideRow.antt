-- Opening and packing again under a type variable from outside.
use Rattle.std.specs.Prelude.{[], ◌∷◌}
use Rattle.omega_kinds.specs.Kind.{Kind}
use Rattle.omega_kinds.specs.declared.label.Label.{Label}
use Rattle.omega_kinds.specs.declared.effect.Effect.TheVariants.{Pure, Impure}
use Rattle.omega_types.specs.Ty.{Ty}
use Rattle.omega_terms.specs.Term.{Term, TermRow}
use Rattle.omega_terms.specs.Typing.{HasType}
use Rattle.sig_definitions.specs.Signatures.Sig.{Sig, Abs, SigRow, made}
use Rattle.sig_definitions.specs.Signatures.Encoding.{enc_abs}
use Rattle.module_judgments.specs.Projection.{Projected}
use Rattle.module_judgments.specs.Sequence.{Seq}
use Rattle.elab_examples.specs.Rows.{x}

-- (ex (*) (val (-> a1 a0))), a0 being from outside
abbrev pub hiding_value : Abs
hiding_value = Abs.Ex (Kind.Star ∷ []) (Sig.Val (Ty.Arrow (Ty.Var 0) (Ty.Var 1)))

-- (ex (*) (str (x (val (-> a1 a0)))))
abbrev pub hiding_field : Abs
hiding_field = Abs.Ex (Kind.Star ∷ []) (Sig.Str (SigRow.More x (Sig.Val (Ty.Arrow (Ty.Var 0) (Ty.Var 1))) SigRow.End))

-- the field of an impure module
abbrev pub OutsideProject : Type 0
OutsideProject = (e : Term) × Projected (Kind.Star ∷ []) (made Impure hiding_field [] (Term.Var 0)) x (made Impure hiding_value [] e) × HasType (Kind.Star ∷ []) (enc_abs hiding_field ∷ []) e (enc_abs hiding_value)

-- a structure of one impure value
abbrev pub OutsideSeq : Type 0
OutsideSeq = (e : Term) × Seq (Kind.Star ∷ []) (made Impure hiding_value [] (Term.Var 0)) (made Pure (Abs.Ex [] (Sig.Str (SigRow.More x (Sig.Val (Ty.Arrow (Ty.Var 0) (Ty.Var 1))) SigRow.End))) [] (Term.Fields (TermRow.More (Label.Name x) (Term.Var 0) TermRow.End))) (made Impure hiding_field [] e) × HasType (Kind.Star ∷ []) (enc_abs hiding_value ∷ []) e (enc_abs hiding_field)
