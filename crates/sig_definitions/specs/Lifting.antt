-- Lifting the hidden types of a functor's result over its parameter, which makes applications to equal types share
-- their types (applicative functors in Rossberg, Russo, Dreyer, F-ing modules, section 7).
use Rattle.std.specs.Prelude.{ℕ, zero, List, [], ◌∷◌, map}
use Rattle.omega_kinds.specs.Kind.{Kind}
use Rattle.omega_kinds.specs.declared.effect.Effect.TheVariants.{Pure}
use Rattle.omega_types.specs.Ty.{Ty}
use Rattle.omega_types.specs.Binders.{past, lifts, arrow_over, lam_over, applied, puts}
use Rattle.sig_definitions.specs.Signatures.Sig.{Sig, Abs}
use Rattle.sig_definitions.specs.Signatures.SigSubst.{rename_sig, substitute_sig}
use Rattle.sig_definitions.specs.Signatures.Alike.{NormalAbsForm}

-- the kinds over the parameter's
abbrev pub lifted_kinds : List Kind → List Kind → List Kind
lifted_kinds ks bs = map (arrow_over ks) bs

-- the binders' variables under all of them
abbrev pub own_vars : List Kind → List Ty
own_vars [] = []
own_vars (b ∷ bs) = Ty.Var (past bs zero) ∷ own_vars bs

-- From under ks and then bs to under the lifted bs and then ks: the lifted variables, applied to those of ks, are put in for
-- the variables of bs, and each other variable stays.
abbrev pub lifting : List Kind → List Kind → ℕ → Ty
lifting ks bs = puts (map (applied ks) (own_vars bs)) (λ i. Ty.Var (lifts ks (past bs) i))

-- the functor signature, before its types are in normal form
abbrev pub lifted : List Kind → Sig → Abs → Abs
lifted ks s (Abs.Ex bs r) = Abs.Ex (lifted_kinds ks bs) (Sig.Fun Pure ks (rename_sig (lifts ks (past bs)) s) (Abs.Ex [] (substitute_sig (lifting ks bs) r)))

-- Lift ctx ks s x y: y is the signature of a pure functor over ks with parameter s and result x
pub data Lift (ctx ks : List Kind) (s : Sig) (x y : Abs) : Type 0 where
  lift : NormalAbsForm ctx (lifted ks s x) y → Lift ctx ks s x y

-- each type that the result hides, as an operator over the parameter's types
abbrev pub lifted_types : List Kind → List Ty → List Ty
lifted_types ks ts = map (lam_over ks) ts
