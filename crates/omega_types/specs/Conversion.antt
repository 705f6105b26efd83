-- Conversion: the least congruent equivalence on well-kinded types with beta (Pierce, "Types and Programming Languages", figure 30-1)
-- and eta (Harper and Pfenning, "On equivalence and canonical forms in the LF type theory", 2005).
use Rattle.std.specs.Prelude.{zero, suc, List, ◌∷◌}
use Rattle.omega_kinds.specs.Kind.{Kind}
use Rattle.omega_kinds.specs.declared.label.Label.{Label}
use Rattle.omega_types.specs.Ty.{Ty, Row}
use Rattle.omega_types.specs.Substitution.{rename, instantiate}
use Rattle.omega_types.specs.Kinding.{HasKind, Fresh}

mutual
  pub data Conv : List Kind → Ty → Ty → Kind → Type 0 where
    c_refl : {ctx : List Kind} {t : Ty} {k : Kind} → HasKind ctx t k → Conv ctx t t k
    c_sym : {ctx : List Kind} {s t : Ty} {k : Kind} → Conv ctx s t k → Conv ctx t s k
    c_trans : {ctx : List Kind} {s t u : Ty} {k : Kind} → Conv ctx s t k → Conv ctx t u k → Conv ctx s u k
    c_beta : {ctx : List Kind} {k l : Kind} {b a : Ty} → HasKind (k ∷ ctx) b l → HasKind ctx a k → Conv ctx (Ty.Apply (Ty.Lam k b) a) (instantiate b a) l
    c_eta : {ctx : List Kind} {k l : Kind} {t : Ty} → HasKind ctx t (Kind.Arrow k l) → Conv ctx (Ty.Lam k (Ty.Apply (rename suc t) (Ty.Var zero))) t (Kind.Arrow k l)
    c_arrow : {ctx : List Kind} {a b c d : Ty} → Conv ctx a c Kind.Star → Conv ctx b d Kind.Star → Conv ctx (Ty.Arrow a b) (Ty.Arrow c d) Kind.Star
    c_fields : {ctx : List Kind} {row other : Row} → Convs ctx row other → Conv ctx (Ty.Fields row) (Ty.Fields other) Kind.Star
    c_sum : {ctx : List Kind} {row other : Row} → Convs ctx row other → Conv ctx (Ty.Sum row) (Ty.Sum other) Kind.Star
    c_all : {ctx : List Kind} {k : Kind} {b c : Ty} → Conv (k ∷ ctx) b c Kind.Star → Conv ctx (Ty.All k b) (Ty.All k c) Kind.Star
    c_ex : {ctx : List Kind} {k : Kind} {b c : Ty} → Conv (k ∷ ctx) b c Kind.Star → Conv ctx (Ty.Ex k b) (Ty.Ex k c) Kind.Star
    c_mu : {ctx : List Kind} {b c : Ty} → Conv (Kind.Star ∷ ctx) b c Kind.Star → Conv ctx (Ty.Mu b) (Ty.Mu c) Kind.Star
    c_lam : {ctx : List Kind} {k l : Kind} {b c : Ty} → Conv (k ∷ ctx) b c l → Conv ctx (Ty.Lam k b) (Ty.Lam k c) (Kind.Arrow k l)
    c_apply : {ctx : List Kind} {k l : Kind} {f g a b : Ty} → Conv ctx f g (Kind.Arrow k l) → Conv ctx a b k → Conv ctx (Ty.Apply f a) (Ty.Apply g b) l

  -- the same labels, distinct, at convertible parts
  pub data Convs : List Kind → Row → Row → Type 0 where
    c_end : {ctx : List Kind} → Convs ctx Row.End Row.End
    c_more : {ctx : List Kind} {l : Label} {s t : Ty} {rest other : Row} → Fresh l rest → Fresh l other → Conv ctx s t Kind.Star → Convs ctx rest other → Convs ctx (Row.More l s rest) (Row.More l t other)
