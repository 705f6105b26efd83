-- The lifted variables, applied to the variables of a functor's parameter, in normal form.
use Rattle.std.specs.Prelude.{List, [], ◌∷◌, length}
use Rattle.omega_kinds.specs.Kind.{Kind}
use Rattle.omega_types.specs.Ty.{Ty}
use Rattle.omega_types.specs.Index.{shift}
use Rattle.omega_types.specs.Normaliser.{normal}
use Rattle.omega_types.specs.Binders.{extend, applied, arrow_over, NormalForms}
use Rattle.sig_definitions.specs.Signatures.Sig.{Sig, Abs}
use Rattle.sig_definitions.specs.Signatures.Alike.{NormalAbs, IsSigAt}
use Rattle.semantic_sigs.specs.Inner.View.{kinds_of, body_of}

-- one variable, just outside of those of the parameter
abbrev pub lifted_var : List Kind → Kind → Ty
lifted_var ks b = normal (extend (arrow_over ks b ∷ []) ks) (applied ks (Ty.Var 0))

-- each one, with those after it in between
abbrev pub lifted_vars : List Kind → List Kind → List Ty
lifted_vars ks [] = []
lifted_vars ks (b ∷ bs) = shift (length bs) (length ks) (lifted_var ks b) ∷ lifted_vars ks bs

-- types put in for what a signature hides
abbrev pub Put : (x : Abs) (types : List Ty) (target : Sig) → Type 0
Put x types target = (ctx : List Kind) → NormalAbs ctx x → NormalForms ctx types (kinds_of x) types → IsSigAt ctx (body_of x) types target
