-- Packs and opens as they are built.
use Rattle.std.specs.Prelude.{ℕ, zero, suc, List, [], ◌∷◌, ◌≡◌}
use Rattle.omega_kinds.specs.Kind.{Kind}
use Rattle.omega_types.specs.Ty.{Ty}
use Rattle.omega_types.specs.Normality.{Normal}
use Rattle.omega_types.specs.Normaliser.{hsubst}
use Rattle.omega_types.specs.Binders.{ex_over, NormalForms}
use Rattle.omega_terms.specs.Term.{Term}
use Rattle.omega_terms.specs.Shorthands.{let_in}

abbrev pub pack_up : List Ty → Term → Ty → Term
pack_up [] e u = e
pack_up (t ∷ ts) e (Ty.Ex k body) = Term.Pack t (pack_up ts e (hsubst k zero t body)) (Ty.Ex k body)
pack_up (t ∷ ts) e u = e

-- so many opens, each of the variable of the one before
abbrev pub opened_times : ℕ → Term → Term
opened_times zero body = body
opened_times (suc n) body = Term.Unpack (Term.Var zero) (opened_times n body)

-- so many opens, the first one of a term of this type
abbrev pub opened : ℕ → Term → Ty → Term → Term
opened zero e from body = let_in from e body
opened (suc n) e from body = Term.Unpack e (opened_times n body)

-- types for the quantifiers in front of a type, all of them normal
abbrev pub Fills : List Kind → List Ty → Ty → Type 0
Fills ctx ts to = (ks : List Kind) × (t : Ty) × (to ≡ ex_over ks t) × Normal ctx to Kind.Star × NormalForms ctx ts ks ts
