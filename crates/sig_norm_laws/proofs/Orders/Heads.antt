-- At most one variable, applied to the variables of binders, is convertible to a type.
-- Main results: one-head.
use Rattle.std.specs.Prelude.{ℕ, suc, List, ◌≡◌}
use Rattle.std.proofs.Math.Decide.{ℕ_discrete}
use Rattle.std.proofs.Math.Path.{sym, subst}
use Rattle.omega_kinds.specs.Kind.{Kind}
use Rattle.omega_types.specs.Ty.{Ty, Row, lift}
use Rattle.omega_types.specs.Substitution.{rename, rename_row}
use Rattle.omega_types.specs.Kinding.{Lookup, HasKind}
use Rattle.omega_types.specs.Kinding.HasKind.{k_var}
use Rattle.omega_types.specs.Conversion.{Conv}
use Rattle.omega_types.specs.Conversion.Conv.{c_sym, c_trans}
use Rattle.omega_types.specs.EtaLong.{eta}
use Rattle.omega_types.specs.Normality.Neutral.{n_var}
use Rattle.omega_types.specs.Mentions.{Mentions, Mentions_row, m_var, m_from, m_to, m_fields, m_sum, m_all, m_ex, m_mu, m_lam, m_operator, m_arg, m_part, m_rest}
use Rattle.omega_types.specs.Binders.{extend, lam_over, arrow_over, applied}
use Rattle.omega_types.proofs.Preservation.{conv-kinds}
use Rattle.omega_types.proofs.Hereditary.{eta-normal}
use Rattle.omega_types.proofs.Inverse.{one_kind}
use Rattle.omega_types.proofs.Mention.{unmentioned}
use Rattle.sig_laws.proofs.Algebra.EtaLaws.{lam_over-conv, applied-kinded, eta_over}
use Rattle.sig_laws.specs.Decide.{in_var}

-- what a type mentions, a renamed one mentions renamed
mutual
  -- a renamed type mentions the renamed variables
  pub rename-mentions : (r : ℕ → ℕ) {i : ℕ} {t : Ty} → Mentions i t → Mentions (r i) (rename r t)
  rename-mentions r m_var = m_var
  rename-mentions r (m_from m) = m_from (rename-mentions r m)
  rename-mentions r (m_to m) = m_to (rename-mentions r m)
  rename-mentions r (m_fields m) = m_fields (rename_row-mentions r m)
  rename-mentions r (m_sum m) = m_sum (rename_row-mentions r m)
  rename-mentions r (m_all m) = m_all (rename-mentions (lift r) m)
  rename-mentions r (m_ex m) = m_ex (rename-mentions (lift r) m)
  rename-mentions r (m_mu m) = m_mu (rename-mentions (lift r) m)
  rename-mentions r (m_lam m) = m_lam (rename-mentions (lift r) m)
  rename-mentions r (m_operator m) = m_operator (rename-mentions r m)
  rename-mentions r (m_arg m) = m_arg (rename-mentions r m)

  pub rename_row-mentions : (r : ℕ → ℕ) {i : ℕ} {row : Row} → Mentions_row i row → Mentions_row (r i) (rename_row r row)
  rename_row-mentions r (m_part m) = m_part (rename-mentions r m)
  rename_row-mentions r (m_rest m) = m_rest (rename_row-mentions r m)

-- a type's eta-long form mentions what it mentions
pub mentions-eta : (k : Kind) {i : ℕ} {t : Ty} → Mentions i t → Mentions i (eta k t)
mentions-eta Kind.Star m = m
mentions-eta (Kind.Arrow k l) m = m_lam (mentions-eta l (m_operator (rename-mentions suc m)))

-- a type variable of a kind is one of the context
pub lookup-of : {ctx : List Kind} {i : ℕ} {k : Kind} → HasKind ctx (Ty.Var i) k → Lookup ctx i k
lookup-of (k_var x) = x

-- convertible variables are the same
pub one-variable : {ctx : List Kind} {k : Kind} {i j : ℕ} → Conv ctx (Ty.Var i) (Ty.Var j) k → i ≡ j
one-variable {ctx} {k} {i} {j} c = go (ℕ_discrete j i)
  where
    go : Dec (j ≡ i) → i ≡ j
    go (yes e) = sym e
    go (no h) =
        let n = eta-normal k (n_var (lookup-of (conv-kinds c).1)) in
        absurd (unmentioned n.0 (c_trans c n.1) (λ m. h (in_var m)) (mentions-eta k m_var))

-- at most one variable, applied to the variables of binders, is convertible to a type
pub one-head : (ks ctx : List Kind) {t : Ty} {k l : Kind} {i j : ℕ} → Conv (extend ctx ks) t (applied ks (Ty.Var i)) k → Conv (extend ctx ks) t (applied ks (Ty.Var j)) l → i ≡ j
one-head ks ctx {t} {k} {l} {i} {j} c d =
    let e : l ≡ k = one_kind (extend ctx ks) t l k (conv-kinds d).0 (conv-kinds c).0 in
    let f : Conv (extend ctx ks) t (applied ks (Ty.Var j)) k = subst (λ n. Conv (extend ctx ks) t (applied ks (Ty.Var j)) n) e d in
    let g : Conv ctx (lam_over ks (applied ks (Ty.Var i))) (lam_over ks (applied ks (Ty.Var j))) (arrow_over ks k) = lam_over-conv ks (c_trans (c_sym c) f) in
    one-variable (c_trans (c_sym (eta_over ks k (applied-kinded ks (Ty.Var i) (conv-kinds c).1))) (c_trans g (eta_over ks k (applied-kinded ks (Ty.Var j) (conv-kinds f).1))))
