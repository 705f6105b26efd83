-- Tests that looking up and matching make, each with its evidence.
use Rattle.std.specs.Prelude.{ℕ, zero, suc, ◌≡◌, ◌≤◌, ◌⊎◌, Bool, true, false}
use Rattle.std.proofs.Math.Logic.{inl, inr}
use Rattle.std.proofs.Common.{arith}
use Rattle.std.proofs.Math.Decide.{ℕ_discrete}
use Rattle.std.proofs.Math.Path.{refl, subst}
use Rattle.omega_kinds.specs.Kind.{Kind, Kind-discrete}
use Rattle.omega_kinds.proofs.NameLaws.{dec_label}
use Rattle.omega_types.specs.Ty.{Ty, Row, Ty-discrete}
use Rattle.omega_types.specs.Mentions.{Mentions, Mentions_row, m_var, m_from, m_to, m_fields, m_sum, m_all, m_ex, m_mu, m_lam, m_operator, m_arg, m_part, m_rest}
use Rattle.omega_types.specs.Binders.{past}
use Rattle.sig_definitions.specs.Signatures.Sig.{Sig, Abs, SigRow}
use Rattle.sig_definitions.specs.Signatures.SigMentions.{MentionsSig, MentionsAbs, MentionsRow}

abbrev pub decided : {A : Type 0} → Dec A → Bool
decided (yes a) = true
decided (no h) = false

pub dec_ty : (t u : Ty) → Dec (t ≡ u)
dec_ty = Ty-discrete ℕ_discrete Kind-discrete dec_label

pub dec_by : {A B : Type 0} → (A → B) → (B → A) → Dec A → Dec B
dec_by f g (yes a) = yes (f a)
dec_by f g (no h) = no (λ b. h (g b))

pub dec_either : {A B C : Type 0} → (A → C) → (B → C) → (C → A ⊎ B) → Dec A → Dec B → Dec C
dec_either f g h (yes a) q = yes (f a)
dec_either f g h (no n) (yes b) = yes (g b)
dec_either {A} {B} {C} f g h (no n) (no m) = no (λ c. neither (h c))
  where
    neither : A ⊎ B → ⊥
    neither (inl a) = n a
    neither (inr b) = m b

pub in_var : {i j : ℕ} → Mentions i (Ty.Var j) → i ≡ j
in_var m_var = refl

pub in_arrow : {i : ℕ} {a b : Ty} → Mentions i (Ty.Arrow a b) → Mentions i a ⊎ Mentions i b
in_arrow (m_from m) = inl m
in_arrow (m_to m) = inr m

pub in_fields : {i : ℕ} {row : Row} → Mentions i (Ty.Fields row) → Mentions_row i row
in_fields (m_fields m) = m

pub in_sum : {i : ℕ} {row : Row} → Mentions i (Ty.Sum row) → Mentions_row i row
in_sum (m_sum m) = m

pub in_all : {i : ℕ} {k : Kind} {b : Ty} → Mentions i (Ty.All k b) → Mentions (suc i) b
in_all (m_all m) = m

pub in_ex : {i : ℕ} {k : Kind} {b : Ty} → Mentions i (Ty.Ex k b) → Mentions (suc i) b
in_ex (m_ex m) = m

pub in_mu : {i : ℕ} {b : Ty} → Mentions i (Ty.Mu b) → Mentions (suc i) b
in_mu (m_mu m) = m

pub in_lam : {i : ℕ} {k : Kind} {b : Ty} → Mentions i (Ty.Lam k b) → Mentions (suc i) b
in_lam (m_lam m) = m

pub in_apply : {i : ℕ} {f a : Ty} → Mentions i (Ty.Apply f a) → Mentions i f ⊎ Mentions i a
in_apply (m_operator m) = inl m
in_apply (m_arg m) = inr m

pub in_row : {i : ℕ} {l : _} {t : Ty} {rest : Row} → Mentions_row i (Row.More l t rest) → Mentions i t ⊎ Mentions_row i rest
in_row (m_part m) = inl m
in_row (m_rest m) = inr m

mutual
  pub dec_mentions : (i : ℕ) (t : Ty) → Dec (Mentions i t)
  dec_mentions i (Ty.Var j) = dec_by (λ e. subst (λ n. Mentions i (Ty.Var n)) e m_var) in_var (ℕ_discrete i j)
  dec_mentions i Ty.Int = no (λ m. elim m [ ])
  dec_mentions i Ty.Bool = no (λ m. elim m [ ])
  dec_mentions i Ty.Text = no (λ m. elim m [ ])
  dec_mentions i (Ty.Arrow a b) = dec_either m_from m_to in_arrow (dec_mentions i a) (dec_mentions i b)
  dec_mentions i (Ty.Fields row) = dec_by m_fields in_fields (dec_mentions_row i row)
  dec_mentions i (Ty.Sum row) = dec_by m_sum in_sum (dec_mentions_row i row)
  dec_mentions i (Ty.All k b) = dec_by m_all in_all (dec_mentions (suc i) b)
  dec_mentions i (Ty.Ex k b) = dec_by m_ex in_ex (dec_mentions (suc i) b)
  dec_mentions i (Ty.Mu b) = dec_by m_mu in_mu (dec_mentions (suc i) b)
  dec_mentions i (Ty.Lam k b) = dec_by m_lam in_lam (dec_mentions (suc i) b)
  dec_mentions i (Ty.Apply f a) = dec_either m_operator m_arg in_apply (dec_mentions i f) (dec_mentions i a)

  pub dec_mentions_row : (i : ℕ) (row : Row) → Dec (Mentions_row i row)
  dec_mentions_row i Row.End = no (λ m. elim m [ ])
  dec_mentions_row i (Row.More l t rest) = dec_either m_part m_rest in_row (dec_mentions i t) (dec_mentions_row i rest)

pub dec_sum : {A B : Type 0} → Dec A → Dec B → Dec (A ⊎ B)
dec_sum (yes a) q = yes (inl a)
dec_sum (no n) (yes b) = yes (inr b)
dec_sum {A} {B} (no n) (no m) = no neither
  where
    neither : A ⊎ B → ⊥
    neither (inl a) = n a
    neither (inr b) = m b

mutual
  pub dec_mentions_sig : (i : ℕ) (s : Sig) → Dec (MentionsSig i s)
  dec_mentions_sig i (Sig.Val t) = dec_mentions i t
  dec_mentions_sig i (Sig.Typ t k) = dec_mentions i t
  dec_mentions_sig i (Sig.Meta x) = dec_mentions_abs i x
  dec_mentions_sig i (Sig.Str fs) = dec_mentions_fields i fs
  dec_mentions_sig i (Sig.Fun e ks s x) = dec_sum (dec_mentions_sig (past ks i) s) (dec_mentions_abs (past ks i) x)

  pub dec_mentions_abs : (i : ℕ) (x : Abs) → Dec (MentionsAbs i x)
  dec_mentions_abs i (Abs.Ex ks s) = dec_mentions_sig (past ks i) s

  pub dec_mentions_fields : (i : ℕ) (fs : SigRow) → Dec (MentionsRow i fs)
  dec_mentions_fields i SigRow.End = no (λ m. m)
  dec_mentions_fields i (SigRow.More l s rest) = dec_sum (dec_mentions_sig i s) (dec_mentions_fields i rest)

-- none of the numbers up to one has a property
abbrev pub NoneUpTo : ℕ → (ℕ → Type 0) → Type 0
NoneUpTo v P = (x : ℕ) → x ≤ v → P x → ⊥

pub dec_none : (v : ℕ) (P : ℕ → Type 0) → ((x : ℕ) → Dec (P x)) → Dec (NoneUpTo v P)
dec_none zero P d = first (d zero)
  where
    first : Dec (P zero) → Dec (NoneUpTo zero P)
    first (yes p) = no (λ h. h zero (omega arith) p)
    first (no n) = yes (λ x le p. n (subst P (omega arith) p))
dec_none (suc v) P d = both (d (suc v)) (dec_none v P d)
  where
    both : Dec (P (suc v)) → Dec (NoneUpTo v P) → Dec (NoneUpTo (suc v) P)
    both (yes p) q = no (λ h. h (suc v) (omega arith) p)
    both (no n) (no m) = no (λ h. m (λ x le p. h x (omega arith) p))
    both (no n) (yes m) = yes (λ x le p. each x le p (ℕ_discrete x (suc v)))
      where
        each : (x : ℕ) → x ≤ suc v → P x → Dec (x ≡ suc v) → ⊥
        each x le p (yes e) = n (subst P e p)
        each x le p (no ne) = m x (omega (arith, ne)) p
