-- The test for an index agrees with the relation.
-- Main results: mentioned-sound, mentioned-complete.
use Rattle.std.proofs.Common.{◌≡◌, ◌⊎◌, inl, inr, ℕ, suc, ◌==◌, Bool as Truth, true, false, ◌||◌, refl, subst, arith}
use Rattle.std.proofs.lemmas.Bool.Decides.{nat_tests}
use Rattle.omega_types.specs.Ty.{Ty, Row}
use Rattle.omega_types.specs.Mentions.{Mentions, Mentions_row, m_var, m_from, m_to, m_fields, m_sum, m_all, m_ex, m_mu, m_lam, m_operator, m_arg, m_part, m_rest}
use Rattle.type_normal.specs.Mentioned.{is_mentioned, is_mentioned_row}

or-cases : (a b : Truth) → (a || b) ≡ true → (a ≡ true) ⊎ (b ≡ true)
or-cases true b e = inl refl
or-cases false b e = inr e

or-left : (a b : Truth) → a ≡ true → (a || b) ≡ true
or-left true b e = refl
or-left false b e = cc

or-right : (a b : Truth) → b ≡ true → (a || b) ≡ true
or-right true b e = refl
or-right false b e = e

same_index : (n i : ℕ) → (n == i) ≡ true → i ≡ n
same_index n i e = grind (arith, nat_tests)

same_index_test : (i : ℕ) → (i == i) ≡ true
same_index_test i = grind (arith, nat_tests)

mutual
  -- an index that the test finds is mentioned
  pub mentioned-sound : (i : ℕ) (t : Ty) → is_mentioned i t ≡ true → Mentions i t
  mentioned-sound i (Ty.Var n) e = subst (λ m. Mentions i (Ty.Var m)) (same_index n i e) m_var
  mentioned-sound i Ty.Int e = absurd (cc)
  mentioned-sound i Ty.Bool e = absurd (cc)
  mentioned-sound i Ty.Text e = absurd (cc)
  mentioned-sound i (Ty.Arrow a b) e = elim (or-cases (is_mentioned i a) (is_mentioned i b) e) [ inl p ↦ m_from (mentioned-sound i a p) | inr p ↦ m_to (mentioned-sound i b p) ]
  mentioned-sound i (Ty.Fields row) e = m_fields (mentioned_row-sound i row e)
  mentioned-sound i (Ty.Sum row) e = m_sum (mentioned_row-sound i row e)
  mentioned-sound i (Ty.All k b) e = m_all (mentioned-sound (suc i) b e)
  mentioned-sound i (Ty.Ex k b) e = m_ex (mentioned-sound (suc i) b e)
  mentioned-sound i (Ty.Mu b) e = m_mu (mentioned-sound (suc i) b e)
  mentioned-sound i (Ty.Lam k b) e = m_lam (mentioned-sound (suc i) b e)
  mentioned-sound i (Ty.Apply f a) e = elim (or-cases (is_mentioned i f) (is_mentioned i a) e) [ inl p ↦ m_operator (mentioned-sound i f p) | inr p ↦ m_arg (mentioned-sound i a p) ]

  pub mentioned_row-sound : (i : ℕ) (row : Row) → is_mentioned_row i row ≡ true → Mentions_row i row
  mentioned_row-sound i Row.End e = absurd (cc)
  mentioned_row-sound i (Row.More l t rest) e = elim (or-cases (is_mentioned i t) (is_mentioned_row i rest) e) [ inl p ↦ m_part (mentioned-sound i t p) | inr p ↦ m_rest (mentioned_row-sound i rest p) ]

mutual
  -- a mentioned index is found by the test
  pub mentioned-complete : {i : ℕ} {t : Ty} → Mentions i t → is_mentioned i t ≡ true
  mentioned-complete (m_var {i = i}) = same_index_test i
  mentioned-complete (m_from {i = i} {a = a} {b = b} m) = or-left (is_mentioned i a) (is_mentioned i b) (mentioned-complete m)
  mentioned-complete (m_to {i = i} {a = a} {b = b} m) = or-right (is_mentioned i a) (is_mentioned i b) (mentioned-complete m)
  mentioned-complete (m_fields m) = mentioned_row-complete m
  mentioned-complete (m_sum m) = mentioned_row-complete m
  mentioned-complete (m_all m) = mentioned-complete m
  mentioned-complete (m_ex m) = mentioned-complete m
  mentioned-complete (m_mu m) = mentioned-complete m
  mentioned-complete (m_lam m) = mentioned-complete m
  mentioned-complete (m_operator {i = i} {f = f} {a = a} m) = or-left (is_mentioned i f) (is_mentioned i a) (mentioned-complete m)
  mentioned-complete (m_arg {i = i} {f = f} {a = a} m) = or-right (is_mentioned i f) (is_mentioned i a) (mentioned-complete m)

  pub mentioned_row-complete : {i : ℕ} {row : Row} → Mentions_row i row → is_mentioned_row i row ≡ true
  mentioned_row-complete (m_part {i = i} {t = t} {rest = rest} m) = or-left (is_mentioned i t) (is_mentioned_row i rest) (mentioned-complete m)
  mentioned_row-complete (m_rest {i = i} {t = t} {rest = rest} m) = or-right (is_mentioned i t) (is_mentioned_row i rest) (mentioned_row-complete m)
