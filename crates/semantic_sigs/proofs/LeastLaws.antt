-- The least free index at or above a number is found.
-- Main results: first-mentioned, least-sig, least-closed_sig.
use Rattle.std.specs.Prelude.{ℕ, zero, suc, ◌+◌, ◌-◌, ◌<◌, ◌≤◌, ◌≡◌, ◌⊎◌, ◌↔◌, IsTrue, min, length, List, Option, Some, None, nat_le, true, false, Bool as Truth}
use Rattle.std.proofs.Common.{arith}
use Rattle.std.proofs.lemmas.Bool.{false≢true}
use Rattle.std.proofs.lemmas.Bool.Decides.{nat_tests}
use Rattle.std.proofs.Math.Logic.{inl, inr}
use Rattle.std.proofs.Math.Path.{refl, sym, subst}
use Rattle.omega_kinds.specs.Kind.{Kind}
use Rattle.omega_types.specs.Ty.{Ty, Row}
use Rattle.omega_types.specs.Mentions.{Mentions, Mentions_row, m_var, m_from, m_to, m_fields, m_sum, m_all, m_ex, m_mu, m_lam, m_operator, m_arg, m_part, m_rest}
use Rattle.omega_types.specs.Binders.{past}
use Rattle.sig_definitions.specs.Signatures.Sig.{Sig, Abs, SigRow}
use Rattle.sig_definitions.specs.Signatures.SigMentions.{MentionsSig, MentionsAbs, MentionsRow}
use Rattle.sig_laws.proofs.Algebra.BinderLaws.{past-length}
use Rattle.sig_laws.specs.Decide.{in_var, in_arrow, in_fields, in_sum, in_all, in_ex, in_mu, in_lam, in_apply, in_row}
use Rattle.semantic_sigs.specs.Inner.Bound.{bound_sig, bound_abs}
use Rattle.semantic_sigs.proofs.MentionSteps.{sig_mention-below, abs_mention-below}
use Rattle.type_normal.specs.Inner.Least.{outside, lesser, is_first, least_ty, least_row}
use Rattle.semantic_sigs.specs.Inner.Least.{least_sig, least_abs, least_sig_row}

-- the least number of a property, if there is one
abbrev pub IsLeast : (ℕ → Type 0) → Option ℕ → Type 0
IsLeast P None = (x : ℕ) → P x → ⊥
IsLeast P (Some m) = P m × ((x : ℕ) → x < m → P x → ⊥)

pub least-by : (P Q : ℕ → Type 0) (o : Option ℕ) → ((x : ℕ) → P x → Q x) → ((x : ℕ) → Q x → P x) → IsLeast P o → IsLeast Q o
least-by P Q None f g h = λ x q. h x (g x q)
least-by P Q (Some m) f g h = (f m h.0, λ x lt q. h.1 x lt (g x q))

pub least-either : (P Q : ℕ → Type 0) (a b : Option ℕ) → IsLeast P a → IsLeast Q b → IsLeast (λ x. P x ⊎ Q x) (lesser a b)
least-either P Q None None h g = none
  where
    none : (x : ℕ) → P x ⊎ Q x → ⊥
    none x (inl p) = h x p
    none x (inr q) = g x q
least-either P Q None (Some j) h g = (inr g.0, below)
  where
    below : (x : ℕ) → x < j → P x ⊎ Q x → ⊥
    below x lt (inl p) = h x p
    below x lt (inr q) = g.1 x lt q
least-either P Q (Some i) None h g = (inl h.0, below)
  where
    below : (x : ℕ) → x < i → P x ⊎ Q x → ⊥
    below x lt (inl p) = h.1 x lt p
    below x lt (inr q) = g x q
least-either P Q (Some i) (Some j) h g = (either (cases i j), below)
  where
    cases : (i j : ℕ) → (i ≡ min i j) ⊎ (j ≡ min i j)
    cases i j = go (nat_le i j) refl
      where
        go : (b : Truth) → nat_le i j ≡ b → (i ≡ min i j) ⊎ (j ≡ min i j)
        go true e = inl (grind (arith, nat_tests))
        go false e = inr (grind (arith, nat_tests))

    either : (i ≡ min i j) ⊎ (j ≡ min i j) → P (min i j) ⊎ Q (min i j)
    either (inl e) = inl (subst P e h.0)
    either (inr e) = inr (subst Q e g.0)

    below : (x : ℕ) → x < min i j → P x ⊎ Q x → ⊥
    below x lt (inl p) = h.1 x (omega (arith, lt)) p
    below x lt (inr q) = g.1 x (omega (arith, lt)) q

least-var : (from i : ℕ) (b : Truth) → nat_le from i ≡ b → IsLeast (λ x. Mentions (from + x) (Ty.Var i)) (outside from i)
least-var from i true e =
    let le : from ≤ i = grind (arith, nat_tests) in
    let found : outside from i ≡ Some (i - from) = grind (arith, nat_tests) in
    subst (IsLeast (λ x. Mentions (from + x) (Ty.Var i))) (sym found) (subst (λ n. Mentions n (Ty.Var i)) (omega (arith, le)) m_var, λ x lt m. absurd (omega (arith, in_var m, lt)))
least-var from i false e =
    let lt : i < from = grind (arith, nat_tests) in
    let found : outside from i ≡ None = grind (arith, nat_tests) in
    subst (IsLeast (λ x. Mentions (from + x) (Ty.Var i))) (sym found) (λ x m. absurd (omega (arith, in_var m, lt)))

into : (from x : ℕ) (t : Ty) → Mentions (suc from + x) t → Mentions (suc (from + x)) t
into from x t m = subst (λ n. Mentions n t) (omega arith) m

out : (from x : ℕ) (t : Ty) → Mentions (suc (from + x)) t → Mentions (suc from + x) t
out from x t m = subst (λ n. Mentions n t) (omega arith) m

mutual
  pub least-ty : (from : ℕ) (t : Ty) → IsLeast (λ x. Mentions (from + x) t) (least_ty from t)
  least-ty from (Ty.Var i) = least-var from i (nat_le from i) refl
  least-ty from Ty.Int = λ x m. elim m [ ]
  least-ty from Ty.Bool = λ x m. elim m [ ]
  least-ty from Ty.Text = λ x m. elim m [ ]
  least-ty from (Ty.Arrow a b) = least-by (λ x. Mentions (from + x) a ⊎ Mentions (from + x) b) (λ x. Mentions (from + x) (Ty.Arrow a b)) (least_ty from (Ty.Arrow a b)) put (λ x m. in_arrow m) (least-either (λ x. Mentions (from + x) a) (λ x. Mentions (from + x) b) (least_ty from a) (least_ty from b) (least-ty from a) (least-ty from b))
    where
      put : (x : ℕ) → Mentions (from + x) a ⊎ Mentions (from + x) b → Mentions (from + x) (Ty.Arrow a b)
      put x (inl m) = m_from m
      put x (inr m) = m_to m
  least-ty from (Ty.Fields row) = least-by (λ x. Mentions_row (from + x) row) (λ x. Mentions (from + x) (Ty.Fields row)) (least_row from row) (λ x m. m_fields m) (λ x m. in_fields m) (least-row from row)
  least-ty from (Ty.Sum row) = least-by (λ x. Mentions_row (from + x) row) (λ x. Mentions (from + x) (Ty.Sum row)) (least_row from row) (λ x m. m_sum m) (λ x m. in_sum m) (least-row from row)
  least-ty from (Ty.All k b) = least-by (λ x. Mentions (suc from + x) b) (λ x. Mentions (from + x) (Ty.All k b)) (least_ty (suc from) b) (λ x m. m_all (into from x b m)) (λ x m. out from x b (in_all m)) (least-ty (suc from) b)
  least-ty from (Ty.Ex k b) = least-by (λ x. Mentions (suc from + x) b) (λ x. Mentions (from + x) (Ty.Ex k b)) (least_ty (suc from) b) (λ x m. m_ex (into from x b m)) (λ x m. out from x b (in_ex m)) (least-ty (suc from) b)
  least-ty from (Ty.Mu b) = least-by (λ x. Mentions (suc from + x) b) (λ x. Mentions (from + x) (Ty.Mu b)) (least_ty (suc from) b) (λ x m. m_mu (into from x b m)) (λ x m. out from x b (in_mu m)) (least-ty (suc from) b)
  least-ty from (Ty.Lam k b) = least-by (λ x. Mentions (suc from + x) b) (λ x. Mentions (from + x) (Ty.Lam k b)) (least_ty (suc from) b) (λ x m. m_lam (into from x b m)) (λ x m. out from x b (in_lam m)) (least-ty (suc from) b)
  least-ty from (Ty.Apply f a) = least-by (λ x. Mentions (from + x) f ⊎ Mentions (from + x) a) (λ x. Mentions (from + x) (Ty.Apply f a)) (least_ty from (Ty.Apply f a)) put (λ x m. in_apply m) (least-either (λ x. Mentions (from + x) f) (λ x. Mentions (from + x) a) (least_ty from f) (least_ty from a) (least-ty from f) (least-ty from a))
    where
      put : (x : ℕ) → Mentions (from + x) f ⊎ Mentions (from + x) a → Mentions (from + x) (Ty.Apply f a)
      put x (inl m) = m_operator m
      put x (inr m) = m_arg m

  pub least-row : (from : ℕ) (row : Row) → IsLeast (λ x. Mentions_row (from + x) row) (least_row from row)
  least-row from Row.End = λ x m. elim m [ ]
  least-row from (Row.More l t rest) = least-by (λ x. Mentions (from + x) t ⊎ Mentions_row (from + x) rest) (λ x. Mentions_row (from + x) (Row.More l t rest)) (least_row from (Row.More l t rest)) put (λ x m. in_row m) (least-either (λ x. Mentions (from + x) t) (λ x. Mentions_row (from + x) rest) (least_ty from t) (least_row from rest) (least-ty from t) (least-row from rest))
    where
      put : (x : ℕ) → Mentions (from + x) t ⊎ Mentions_row (from + x) rest → Mentions_row (from + x) (Row.More l t rest)
      put x (inl m) = m_part m
      put x (inr m) = m_rest m

-- an index past binders from a number on is the index from this number, past them
pub past-from : (ks : List Kind) (from x : ℕ) → length ks + from + x ≡ past ks (from + x)
past-from ks from x = let e = past-length ks (from + x) in omega (arith, e)

-- as it is written outside binders
pub least-past_sig : (from : ℕ) (ks : List Kind) (s : Sig) → IsLeast (λ x. MentionsSig (length ks + from + x) s) (least_sig (length ks + from) s) → IsLeast (λ x. MentionsSig (past ks (from + x)) s) (least_sig (length ks + from) s)
least-past_sig from ks s h = least-by (λ x. MentionsSig (length ks + from + x) s) (λ x. MentionsSig (past ks (from + x)) s) (least_sig (length ks + from) s) (λ x m. subst (λ n. MentionsSig n s) (past-from ks from x) m) (λ x m. subst (λ n. MentionsSig n s) (sym (past-from ks from x)) m) h

mutual
  -- the least index at or above a number that a signature mentions is found
  pub least-sig : (from : ℕ) (s : Sig) → IsLeast (λ x. MentionsSig (from + x) s) (least_sig from s)
  least-sig from (Sig.Val t) = least-ty from t
  least-sig from (Sig.Typ t k) = least-ty from t
  least-sig from (Sig.Meta x) = least-abs from x
  least-sig from (Sig.Str fs) = least-sig_row from fs
  least-sig from (Sig.Fun e ks s r) = least-either (λ x. MentionsSig (past ks (from + x)) s) (λ x. MentionsAbs (past ks (from + x)) r) (least_sig (length ks + from) s) (least_abs (length ks + from) r)
      (least-past_sig from ks s (least-sig (length ks + from) s))
      (least-by (λ x. MentionsAbs (length ks + from + x) r) (λ x. MentionsAbs (past ks (from + x)) r) (least_abs (length ks + from) r) (λ x m. subst (λ n. MentionsAbs n r) (past-from ks from x) m) (λ x m. subst (λ n. MentionsAbs n r) (sym (past-from ks from x)) m) (least-abs (length ks + from) r))

  pub least-abs : (from : ℕ) (x : Abs) → IsLeast (λ i. MentionsAbs (from + i) x) (least_abs from x)
  least-abs from (Abs.Ex ks s) = least-past_sig from ks s (least-sig (length ks + from) s)

  pub least-sig_row : (from : ℕ) (fs : SigRow) → IsLeast (λ x. MentionsRow (from + x) fs) (least_sig_row from fs)
  least-sig_row from SigRow.End = λ x m. m
  least-sig_row from (SigRow.More l s rest) = least-either (λ x. MentionsSig (from + x) s) (λ x. MentionsRow (from + x) rest) (least_sig from s) (least_sig_row from rest) (least-sig from s) (least-sig_row from rest)

-- nothing is mentioned from the bound on

-- a signature mentions nothing at or above its bound
pub least-closed_sig : (s : Sig) (from : ℕ) → bound_sig s ≤ from → None ≡ least_sig from s
least-closed_sig s from le = go (least_sig from s) (least-sig from s)
  where
    go : (o : Option ℕ) → IsLeast (λ x. MentionsSig (from + x) s) o → None ≡ o
    go None h = refl
    go (Some m) h = absurd (let lt = sig_mention-below (from + m) s h.0 in omega (arith, lt, le))

-- a signature that hides types mentions nothing at or above its bound
pub least-closed_abs : (x : Abs) (from : ℕ) → bound_abs x ≤ from → None ≡ least_abs from x
least-closed_abs x from le = go (least_abs from x) (least-abs from x)
  where
    go : (o : Option ℕ) → IsLeast (λ i. MentionsAbs (from + i) x) o → None ≡ o
    go None h = refl
    go (Some m) h = absurd (let lt = abs_mention-below (from + m) x h.0 in omega (arith, lt, le))

-- the least index from a number on is this number exactly where a signature mentions it
pub first-mentioned : (b : Truth) (i : ℕ) (s : Sig) → b ≡ is_first (least_sig i s) → (IsTrue b ↔ MentionsSig i s)
first-mentioned b i s e = subst (λ t. IsTrue t ↔ MentionsSig i s) (sym e) (go (least_sig i s) (least-sig i s))
  where
    plus : i + zero ≡ i
    plus = omega arith

    at : MentionsSig i s → MentionsSig (i + zero) s
    at m = subst (λ n. MentionsSig n s) (sym plus) m

    go : (o : Option ℕ) → IsLeast (λ x. MentionsSig (i + x) s) o → IsTrue (is_first o) ↔ MentionsSig i s
    go None h = (λ t. absurd (false≢true t), λ m. absurd (h zero (at m)))
    go (Some zero) h = (λ t. subst (λ n. MentionsSig n s) plus h.0, λ m. cc)
    go (Some (suc n)) h = (λ t. absurd (false≢true t), λ m. absurd (h.1 zero (omega arith) (at m)))
