-- A generative functor is a subtype of one with a larger parameter, and its coercion has the type that it should have.
use Rattle.std.specs.Prelude.{[], ◌∷◌}
use Rattle.omega_kinds.specs.Kind.{Kind}
use Rattle.omega_kinds.specs.declared.effect.Effect.TheVariants.{Impure}
use Rattle.omega_types.specs.Ty.{Ty}
use Rattle.omega_terms.specs.Term.{Term}
use Rattle.omega_terms.specs.Typing.{HasType}
use Rattle.sig_definitions.specs.Signatures.Sig.{Sig, Abs, SigRow}
use Rattle.sig_definitions.specs.Signatures.Encoding.{enc}
use Rattle.sig_definitions.specs.Matching.Subtyping.{Sub}
use Rattle.elab_examples.specs.Rows.{t, x}
use Rattle.elab_examples.specs.PackageRow.{u, two, hiding}
use Rattle.elab_examples.specs.FunctorRow.{one_type}

-- the result: a hidden type t, the type u, and a value of a type from outside
abbrev pub result : (a b c : Ty) → Sig
result a b c = Sig.Str (SigRow.More t (Sig.Typ a Kind.Star) (SigRow.More u (Sig.Typ b Kind.Star) (SigRow.More x (Sig.Val c) SigRow.End)))

-- (fun gen (*) (str (u (type a1 *))) (ex (*) (str (t (type a2 *)) (u (type a1 *)) (x (val a0))))), a0 from outside
abbrev pub smaller : Sig
smaller = Sig.Fun Impure (Kind.Star ∷ []) (one_type u (Ty.Var 0)) (Abs.Ex (Kind.Star ∷ []) (result (Ty.Var 0) (Ty.Var 1) (Ty.Var 2)))

-- (fun gen (* *) (str (t (type a1 *)) (u (type a2 *)) (x (val a1))) (ex (*) (str (t (type a3 *)) (u (type a2 *)) (x (val a0)))))
abbrev pub larger : Sig
larger = Sig.Fun Impure two hiding (Abs.Ex (Kind.Star ∷ []) (result (Ty.Var 0) (Ty.Var 1) (Ty.Var 3)))

abbrev pub FunctorCoercion : Type 0
FunctorCoercion = (f : Term) × Sub (Kind.Star ∷ []) smaller larger f × HasType (Kind.Star ∷ []) [] f (Ty.Arrow (enc smaller) (enc larger))
