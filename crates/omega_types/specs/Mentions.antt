-- Which free indexes a type mentions.
use Rattle.std.specs.Prelude.{ℕ, suc, ◌-◌, ◌<◌, List, ◌≡◌, ◌++◌, length}
use Rattle.omega_kinds.specs.Kind.{Kind}
use Rattle.omega_kinds.specs.declared.label.Label.{Label}
use Rattle.omega_types.specs.Ty.{Ty, Row}
use Rattle.omega_types.specs.Conversion.{Conv}
use Rattle.omega_types.specs.Substitution.{rename}
use Rattle.omega_types.specs.Index.{shift}
use Rattle.omega_types.specs.Normality.{Normal}
use Rattle.omega_types.specs.Normalises.{NormalForm}

mutual
  pub data Mentions : ℕ → Ty → Type 0 where
    m_var : {i : ℕ} → Mentions i (Ty.Var i)
    m_from : {i : ℕ} {a b : Ty} → Mentions i a → Mentions i (Ty.Arrow a b)
    m_to : {i : ℕ} {a b : Ty} → Mentions i b → Mentions i (Ty.Arrow a b)
    m_fields : {i : ℕ} {row : Row} → Mentions_row i row → Mentions i (Ty.Fields row)
    m_sum : {i : ℕ} {row : Row} → Mentions_row i row → Mentions i (Ty.Sum row)
    m_all : {i : ℕ} {k : Kind} {b : Ty} → Mentions (suc i) b → Mentions i (Ty.All k b)
    m_ex : {i : ℕ} {k : Kind} {b : Ty} → Mentions (suc i) b → Mentions i (Ty.Ex k b)
    m_mu : {i : ℕ} {b : Ty} → Mentions (suc i) b → Mentions i (Ty.Mu b)
    m_lam : {i : ℕ} {k : Kind} {b : Ty} → Mentions (suc i) b → Mentions i (Ty.Lam k b)
    m_operator : {i : ℕ} {f a : Ty} → Mentions i f → Mentions i (Ty.Apply f a)
    m_arg : {i : ℕ} {f a : Ty} → Mentions i a → Mentions i (Ty.Apply f a)

  pub data Mentions_row : ℕ → Row → Type 0 where
    m_part : {i : ℕ} {l : Label} {t : Ty} {rest : Row} → Mentions i t → Mentions_row i (Row.More l t rest)
    m_rest : {i : ℕ} {l : Label} {t : Ty} {rest : Row} → Mentions_row i rest → Mentions_row i (Row.More l t rest)

-- a type is convertible to one that does not mention a variable exactly where its normal form does not mention it
abbrev pub MentionsByNormalForm : Type 0
MentionsByNormalForm = (ctx : List Kind) (t : Ty) (k : Kind) (n : Ty) (i : ℕ) → NormalForm ctx t k n → (((s : Ty) × Conv ctx t s k × (Mentions i s → ⊥)) → Mentions i n → ⊥) × ((Mentions i n → ⊥) → (s : Ty) × Conv ctx t s k × (Mentions i s → ⊥))

-- each index less by as much
abbrev pub lower : (by : ℕ) → Ty → Ty
lower by t = rename (λ i. i - by) t

-- lowering a normal type that mentions none of the innermost variables gives the one normal type that is raised to it
abbrev pub LowerGives : Type 0
LowerGives = (inner ctx : List Kind) (t : Ty) (k : Kind) → Normal (inner ++ ctx) t k → ((i : ℕ) → i < length inner → Mentions i t → ⊥) → Normal ctx (lower (length inner) t) k × (shift (length inner) 0 (lower (length inner) t) ≡ t)
