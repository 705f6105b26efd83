-- The kinds of types (Pierce, "Types and Programming Languages", chapter 29). A context is a list of kinds, that of index 0 first.
use Rattle.std.specs.Prelude.{ℕ, zero, suc, List, ◌∷◌, ◌≢◌}
use Rattle.omega_kinds.specs.Kind.{Kind}
use Rattle.omega_kinds.specs.declared.label.Label.{Label}
use Rattle.omega_types.specs.Ty.{Ty, Row}

-- the variable at an index has a kind
pub data Lookup : List Kind → ℕ → Kind → Type 0 where
  here : {k : Kind} {ctx : List Kind} → Lookup (k ∷ ctx) zero k
  there : {k l : Kind} {ctx : List Kind} {i : ℕ} → Lookup ctx i k → Lookup (l ∷ ctx) (suc i) k

-- a label is none of a row's
abbrev pub Fresh : Label → Row → Type 0
Fresh l Row.End = Unit {0}
Fresh l (Row.More m t rest) = (l ≢ m) × Fresh l rest

mutual
  pub data HasKind : List Kind → Ty → Kind → Type 0 where
    k_var : {ctx : List Kind} {i : ℕ} {k : Kind} → Lookup ctx i k → HasKind ctx (Ty.Var i) k
    k_int : {ctx : List Kind} → HasKind ctx Ty.Int Kind.Star
    k_bool : {ctx : List Kind} → HasKind ctx Ty.Bool Kind.Star
    k_text : {ctx : List Kind} → HasKind ctx Ty.Text Kind.Star
    k_arrow : {ctx : List Kind} {a b : Ty} → HasKind ctx a Kind.Star → HasKind ctx b Kind.Star → HasKind ctx (Ty.Arrow a b) Kind.Star
    k_fields : {ctx : List Kind} {row : Row} → HasKinds ctx row → HasKind ctx (Ty.Fields row) Kind.Star
    k_sum : {ctx : List Kind} {row : Row} → HasKinds ctx row → HasKind ctx (Ty.Sum row) Kind.Star
    k_all : {ctx : List Kind} {k : Kind} {b : Ty} → HasKind (k ∷ ctx) b Kind.Star → HasKind ctx (Ty.All k b) Kind.Star
    k_ex : {ctx : List Kind} {k : Kind} {b : Ty} → HasKind (k ∷ ctx) b Kind.Star → HasKind ctx (Ty.Ex k b) Kind.Star
    k_mu : {ctx : List Kind} {b : Ty} → HasKind (Kind.Star ∷ ctx) b Kind.Star → HasKind ctx (Ty.Mu b) Kind.Star
    k_lam : {ctx : List Kind} {k l : Kind} {b : Ty} → HasKind (k ∷ ctx) b l → HasKind ctx (Ty.Lam k b) (Kind.Arrow k l)
    k_apply : {ctx : List Kind} {k l : Kind} {f a : Ty} → HasKind ctx f (Kind.Arrow k l) → HasKind ctx a k → HasKind ctx (Ty.Apply f a) l

  -- distinct labels, and parts of kind *
  pub data HasKinds : List Kind → Row → Type 0 where
    k_end : {ctx : List Kind} → HasKinds ctx Row.End
    k_more : {ctx : List Kind} {l : Label} {t : Ty} {rest : Row} → Fresh l rest → HasKind ctx t Kind.Star → HasKinds ctx rest → HasKinds ctx (Row.More l t rest)
