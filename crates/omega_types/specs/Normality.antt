-- Normal types: beta-normal and eta-long (Harper and Pfenning, "On equivalence and canonical forms in the LF type theory",
-- 2005).
use Rattle.std.specs.Prelude.{ℕ, List, ◌∷◌}
use Rattle.omega_kinds.specs.Kind.{Kind}
use Rattle.omega_kinds.specs.declared.label.Label.{Label}
use Rattle.omega_types.specs.Ty.{Ty, Row}
use Rattle.omega_types.specs.Kinding.{Lookup, Fresh}

mutual
  pub data Normal : List Kind → Ty → Kind → Type 0 where
    n_lam : {ctx : List Kind} {k l : Kind} {b : Ty} → Normal (k ∷ ctx) b l → Normal ctx (Ty.Lam k b) (Kind.Arrow k l)
    n_int : {ctx : List Kind} → Normal ctx Ty.Int Kind.Star
    n_bool : {ctx : List Kind} → Normal ctx Ty.Bool Kind.Star
    n_text : {ctx : List Kind} → Normal ctx Ty.Text Kind.Star
    n_arrow : {ctx : List Kind} {a b : Ty} → Normal ctx a Kind.Star → Normal ctx b Kind.Star → Normal ctx (Ty.Arrow a b) Kind.Star
    n_fields : {ctx : List Kind} {row : Row} → Normals ctx row → Normal ctx (Ty.Fields row) Kind.Star
    n_sum : {ctx : List Kind} {row : Row} → Normals ctx row → Normal ctx (Ty.Sum row) Kind.Star
    n_all : {ctx : List Kind} {k : Kind} {b : Ty} → Normal (k ∷ ctx) b Kind.Star → Normal ctx (Ty.All k b) Kind.Star
    n_ex : {ctx : List Kind} {k : Kind} {b : Ty} → Normal (k ∷ ctx) b Kind.Star → Normal ctx (Ty.Ex k b) Kind.Star
    n_mu : {ctx : List Kind} {b : Ty} → Normal (Kind.Star ∷ ctx) b Kind.Star → Normal ctx (Ty.Mu b) Kind.Star
    n_neutral : {ctx : List Kind} {t : Ty} → Neutral ctx t Kind.Star → Normal ctx t Kind.Star

  pub data Normals : List Kind → Row → Type 0 where
    n_end : {ctx : List Kind} → Normals ctx Row.End
    n_more : {ctx : List Kind} {l : Label} {t : Ty} {rest : Row} → Fresh l rest → Normal ctx t Kind.Star → Normals ctx rest → Normals ctx (Row.More l t rest)

  -- a variable applied to normal arguments
  pub data Neutral : List Kind → Ty → Kind → Type 0 where
    n_var : {ctx : List Kind} {i : ℕ} {k : Kind} → Lookup ctx i k → Neutral ctx (Ty.Var i) k
    n_apply : {ctx : List Kind} {k l : Kind} {f a : Ty} → Neutral ctx f (Kind.Arrow k l) → Normal ctx a k → Neutral ctx (Ty.Apply f a) l
