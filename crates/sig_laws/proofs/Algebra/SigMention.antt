-- What renaming and substitution mention, and substitutions that agree on what is mentioned.
-- Main results: substitute_sig-agree, unders-agree, mentions-unders.
use Rattle.std.specs.Prelude.{ℕ, zero, suc, List, [], ◌∷◌, ◌≡◌}
use Rattle.std.proofs.Math.Logic.{inl, inr}
use Rattle.std.proofs.Common.{arith}
use Rattle.std.proofs.Math.Path.{refl, ap, ap₂, subst}
use Rattle.omega_kinds.specs.Kind.{Kind}
use Rattle.omega_types.specs.Ty.{Ty, Row, lift}
use Rattle.omega_types.specs.Substitution.{rename, rename_row, substitute, substitute_row, under}
use Rattle.omega_types.specs.Mentions.{Mentions, Mentions_row, m_var, m_from, m_to, m_fields, m_sum, m_all, m_ex, m_mu, m_lam, m_operator, m_arg, m_part, m_rest}
use Rattle.omega_types.specs.Binders.{past, unders}
use Rattle.omega_types.proofs.Mention.{unmentioned}
use Rattle.sig_definitions.specs.Signatures.Sig.{Sig, Abs, SigRow}
use Rattle.sig_definitions.specs.Signatures.SigSubst.{substitute_sig, substitute_abs, substitute_sig_row}
use Rattle.sig_definitions.specs.Signatures.SigMentions.{MentionsSig, MentionsAbs, MentionsRow}
use Rattle.sig_definitions.specs.Signatures.Alike.{AlikeRow, val, typ, meta, str, fun, ex, end, more, ConvBetween, ConvSig, ConvAbs, NormalSig, NormalAbs, NormalSigRow}

-- substitutions that agree on what a type mentions

under-agree : (P : ℕ → Type 0) (f g : ℕ → Ty) → ((i : ℕ) → P (suc i) → f i ≡ g i) → (i : ℕ) → P i → under f i ≡ under g i
under-agree P f g h zero m = refl
under-agree P f g h (suc i) m = ap (rename suc) (h i m)

mutual
  pub substitute-agree : (f g : ℕ → Ty) (t : Ty) → ((i : ℕ) → Mentions i t → f i ≡ g i) → substitute f t ≡ substitute g t
  substitute-agree f g (Ty.Var i) h = h i m_var
  substitute-agree f g Ty.Int h = refl
  substitute-agree f g Ty.Bool h = refl
  substitute-agree f g Ty.Text h = refl
  substitute-agree f g (Ty.Arrow a b) h = ap₂ Ty.Arrow (substitute-agree f g a (λ i m. h i (m_from m))) (substitute-agree f g b (λ i m. h i (m_to m)))
  substitute-agree f g (Ty.Fields row) h = ap Ty.Fields (substitute_row-agree f g row (λ i m. h i (m_fields m)))
  substitute-agree f g (Ty.Sum row) h = ap Ty.Sum (substitute_row-agree f g row (λ i m. h i (m_sum m)))
  substitute-agree f g (Ty.All k b) h = ap (Ty.All k) (substitute-agree (under f) (under g) b (under-agree (λ i. Mentions i b) f g (λ i m. h i (m_all m))))
  substitute-agree f g (Ty.Ex k b) h = ap (Ty.Ex k) (substitute-agree (under f) (under g) b (under-agree (λ i. Mentions i b) f g (λ i m. h i (m_ex m))))
  substitute-agree f g (Ty.Mu b) h = ap Ty.Mu (substitute-agree (under f) (under g) b (under-agree (λ i. Mentions i b) f g (λ i m. h i (m_mu m))))
  substitute-agree f g (Ty.Lam k b) h = ap (Ty.Lam k) (substitute-agree (under f) (under g) b (under-agree (λ i. Mentions i b) f g (λ i m. h i (m_lam m))))
  substitute-agree f g (Ty.Apply o a) h = ap₂ Ty.Apply (substitute-agree f g o (λ i m. h i (m_operator m))) (substitute-agree f g a (λ i m. h i (m_arg m)))

  pub substitute_row-agree : (f g : ℕ → Ty) (row : Row) → ((i : ℕ) → Mentions_row i row → f i ≡ g i) → substitute_row f row ≡ substitute_row g row
  substitute_row-agree f g Row.End h = refl
  substitute_row-agree f g (Row.More l t rest) h = ap₂ (Row.More l) (substitute-agree f g t (λ i m. h i (m_part m))) (substitute_row-agree f g rest (λ i m. h i (m_rest m)))

-- and in signatures

-- substitutions that agree on a set of variables from outside agree under binders on the set there
pub unders-agree : (ks : List Kind) (P : ℕ → Type 0) (f g : ℕ → Ty) → ((i : ℕ) → P (past ks i) → f i ≡ g i) → (i : ℕ) → P i → unders ks f i ≡ unders ks g i
unders-agree [] P f g h = h
unders-agree (k ∷ ks) P f g h = unders-agree ks P (under f) (under g) (under-agree (λ i. P (past ks i)) f g h)

mutual
  -- substitutions that agree on what a signature mentions do the same with it
  pub substitute_sig-agree : (f g : ℕ → Ty) (s : Sig) → ((i : ℕ) → MentionsSig i s → f i ≡ g i) → substitute_sig f s ≡ substitute_sig g s
  substitute_sig-agree f g (Sig.Val t) h = ap Sig.Val (substitute-agree f g t h)
  substitute_sig-agree f g (Sig.Typ t k) h = ap (λ u. Sig.Typ u k) (substitute-agree f g t h)
  substitute_sig-agree f g (Sig.Meta x) h = ap Sig.Meta (substitute_abs-agree f g x h)
  substitute_sig-agree f g (Sig.Str fs) h = ap Sig.Str (substitute_sig_row-agree f g fs h)
  substitute_sig-agree f g (Sig.Fun e ks s x) h = ap₂ (Sig.Fun e ks)
      (substitute_sig-agree (unders ks f) (unders ks g) s (unders-agree ks (λ i. MentionsSig i s) f g (λ i m. h i (inl m))))
      (substitute_abs-agree (unders ks f) (unders ks g) x (unders-agree ks (λ i. MentionsAbs i x) f g (λ i m. h i (inr m))))

  pub substitute_abs-agree : (f g : ℕ → Ty) (x : Abs) → ((i : ℕ) → MentionsAbs i x → f i ≡ g i) → substitute_abs f x ≡ substitute_abs g x
  substitute_abs-agree f g (Abs.Ex ks s) h = ap (Abs.Ex ks) (substitute_sig-agree (unders ks f) (unders ks g) s (unders-agree ks (λ i. MentionsSig i s) f g h))

  pub substitute_sig_row-agree : (f g : ℕ → Ty) (fs : SigRow) → ((i : ℕ) → MentionsRow i fs → f i ≡ g i) → substitute_sig_row f fs ≡ substitute_sig_row g fs
  substitute_sig_row-agree f g SigRow.End h = refl
  substitute_sig_row-agree f g (SigRow.More l s rest) h = ap₂ (SigRow.More l) (substitute_sig-agree f g s (λ i m. h i (inl m))) (substitute_sig_row-agree f g rest (λ i m. h i (inr m)))

-- what a renamed type mentions

abbrev From : (ℕ → ℕ) → (ℕ → Type 0) → ℕ → Type 0
From r P v = (j : ℕ) × P j × (r j ≡ v)

lift-from : (r : ℕ → ℕ) (P : ℕ → Type 0) (v : ℕ) → From (lift r) P (suc v) → From r (λ j. P (suc j)) v
lift-from r P v m = go m.0 m.1 m.2
  where
    go : (j : ℕ) → P j → lift r j ≡ suc v → From r (λ j. P (suc j)) v
    go zero p e = absurd (omega (arith, e))
    go (suc j) p e = (j, p, omega (arith, e))

mutual
  -- a variable that a renamed type mentions comes from one that the type mentions
  pub mentions-rename : (r : ℕ → ℕ) (t : Ty) (v : ℕ) → Mentions v (rename r t) → (j : ℕ) × Mentions j t × (r j ≡ v)
  mentions-rename r (Ty.Var i) _ m_var = (i, m_var, refl)
  mentions-rename r Ty.Int v m = elim m [ ]
  mentions-rename r Ty.Bool v m = elim m [ ]
  mentions-rename r Ty.Text v m = elim m [ ]
  mentions-rename r (Ty.Arrow a b) v (m_from m) = let q = mentions-rename r a v m in (q.0, m_from q.1, q.2)
  mentions-rename r (Ty.Arrow a b) v (m_to m) = let q = mentions-rename r b v m in (q.0, m_to q.1, q.2)
  mentions-rename r (Ty.Fields row) v (m_fields m) = let q = mentions_row-rename r row v m in (q.0, m_fields q.1, q.2)
  mentions-rename r (Ty.Sum row) v (m_sum m) = let q = mentions_row-rename r row v m in (q.0, m_sum q.1, q.2)
  mentions-rename r (Ty.All k b) v (m_all m) = let q = lift-from r (λ i. Mentions i b) v (mentions-rename (lift r) b (suc v) m) in (q.0, m_all q.1, q.2)
  mentions-rename r (Ty.Ex k b) v (m_ex m) = let q = lift-from r (λ i. Mentions i b) v (mentions-rename (lift r) b (suc v) m) in (q.0, m_ex q.1, q.2)
  mentions-rename r (Ty.Mu b) v (m_mu m) = let q = lift-from r (λ i. Mentions i b) v (mentions-rename (lift r) b (suc v) m) in (q.0, m_mu q.1, q.2)
  mentions-rename r (Ty.Lam k b) v (m_lam m) = let q = lift-from r (λ i. Mentions i b) v (mentions-rename (lift r) b (suc v) m) in (q.0, m_lam q.1, q.2)
  mentions-rename r (Ty.Apply a b) v (m_operator m) = let q = mentions-rename r a v m in (q.0, m_operator q.1, q.2)
  mentions-rename r (Ty.Apply a b) v (m_arg m) = let q = mentions-rename r b v m in (q.0, m_arg q.1, q.2)

  pub mentions_row-rename : (r : ℕ → ℕ) (row : Row) (v : ℕ) → Mentions_row v (rename_row r row) → (j : ℕ) × Mentions_row j row × (r j ≡ v)
  mentions_row-rename r Row.End v m = elim m [ ]
  mentions_row-rename r (Row.More l t rest) v (m_part m) = let q = mentions-rename r t v m in (q.0, m_part q.1, q.2)
  mentions_row-rename r (Row.More l t rest) v (m_rest m) = let q = mentions_row-rename r rest v m in (q.0, m_rest q.1, q.2)

-- what a type with a substitution mentions

-- a variable that is mentioned after a weakening was mentioned before it
pub mentions-raised : (t : Ty) (v : ℕ) → Mentions (suc v) (rename suc t) → Mentions v t
mentions-raised t v m = let q = mentions-rename suc t (suc v) m in subst (λ i. Mentions i t) (suc-same q.2) q.1
  where
    suc-same : {i j : ℕ} → suc i ≡ suc j → i ≡ j
    suc-same e = omega (arith, e)

pub mentions-under : (f : ℕ → Ty) (P : ℕ → Type 0) (v : ℕ) → (j : ℕ) × P j × Mentions (suc v) (under f j) → (j : ℕ) × P (suc j) × Mentions v (f j)
mentions-under f P v m = go m.0 m.1 m.2
  where
    go : (j : ℕ) → P j → Mentions (suc v) (under f j) → (j : ℕ) × P (suc j) × Mentions v (f j)
    go zero p m = elim m [ ]
    go (suc j) p m = (j, p, mentions-raised (f j) v m)

mutual
  pub mentions-substitute : (f : ℕ → Ty) (t : Ty) (v : ℕ) → Mentions v (substitute f t) → (j : ℕ) × Mentions j t × Mentions v (f j)
  mentions-substitute f (Ty.Var i) v m = (i, m_var, m)
  mentions-substitute f Ty.Int v m = elim m [ ]
  mentions-substitute f Ty.Bool v m = elim m [ ]
  mentions-substitute f Ty.Text v m = elim m [ ]
  mentions-substitute f (Ty.Arrow a b) v (m_from m) = let q = mentions-substitute f a v m in (q.0, m_from q.1, q.2)
  mentions-substitute f (Ty.Arrow a b) v (m_to m) = let q = mentions-substitute f b v m in (q.0, m_to q.1, q.2)
  mentions-substitute f (Ty.Fields row) v (m_fields m) = let q = mentions_row-substitute f row v m in (q.0, m_fields q.1, q.2)
  mentions-substitute f (Ty.Sum row) v (m_sum m) = let q = mentions_row-substitute f row v m in (q.0, m_sum q.1, q.2)
  mentions-substitute f (Ty.All k b) v (m_all m) = let q = mentions-under f (λ i. Mentions i b) v (mentions-substitute (under f) b (suc v) m) in (q.0, m_all q.1, q.2)
  mentions-substitute f (Ty.Ex k b) v (m_ex m) = let q = mentions-under f (λ i. Mentions i b) v (mentions-substitute (under f) b (suc v) m) in (q.0, m_ex q.1, q.2)
  mentions-substitute f (Ty.Mu b) v (m_mu m) = let q = mentions-under f (λ i. Mentions i b) v (mentions-substitute (under f) b (suc v) m) in (q.0, m_mu q.1, q.2)
  mentions-substitute f (Ty.Lam k b) v (m_lam m) = let q = mentions-under f (λ i. Mentions i b) v (mentions-substitute (under f) b (suc v) m) in (q.0, m_lam q.1, q.2)
  mentions-substitute f (Ty.Apply a b) v (m_operator m) = let q = mentions-substitute f a v m in (q.0, m_operator q.1, q.2)
  mentions-substitute f (Ty.Apply a b) v (m_arg m) = let q = mentions-substitute f b v m in (q.0, m_arg q.1, q.2)

  pub mentions_row-substitute : (f : ℕ → Ty) (row : Row) (v : ℕ) → Mentions_row v (substitute_row f row) → (j : ℕ) × Mentions_row j row × Mentions v (f j)
  mentions_row-substitute f Row.End v m = elim m [ ]
  mentions_row-substitute f (Row.More l t rest) v (m_part m) = let q = mentions-substitute f t v m in (q.0, m_part q.1, q.2)
  mentions_row-substitute f (Row.More l t rest) v (m_rest m) = let q = mentions_row-substitute f rest v m in (q.0, m_rest q.1, q.2)

-- where a substitution under binders mentions a variable from outside, the substitution outside mentions it
pub mentions-unders : (ks : List Kind) (f : ℕ → Ty) (P : ℕ → Type 0) (v : ℕ) → (j : ℕ) × P j × Mentions (past ks v) (unders ks f j) → (j : ℕ) × P (past ks j) × Mentions v (f j)
mentions-unders [] f P v m = m
mentions-unders (k ∷ ks) f P v m = mentions-under f (λ i. P (past ks i)) v (mentions-unders ks (under f) P (suc v) m)

mutual
  -- a variable that a substituted signature mentions comes from the type put in for one that the signature mentions
  pub mentions_sig-substitute : (f : ℕ → Ty) (s : Sig) (v : ℕ) → MentionsSig v (substitute_sig f s) → (j : ℕ) × MentionsSig j s × Mentions v (f j)
  mentions_sig-substitute f (Sig.Val t) v m = mentions-substitute f t v m
  mentions_sig-substitute f (Sig.Typ t k) v m = mentions-substitute f t v m
  mentions_sig-substitute f (Sig.Meta x) v m = mentions_abs-substitute f x v m
  mentions_sig-substitute f (Sig.Str fs) v m = mentions_sig_row-substitute f fs v m
  mentions_sig-substitute f (Sig.Fun e ks s x) v (inl m) = let q = mentions-unders ks f (λ i. MentionsSig i s) v (mentions_sig-substitute (unders ks f) s (past ks v) m) in (q.0, inl q.1, q.2)
  mentions_sig-substitute f (Sig.Fun e ks s x) v (inr m) = let q = mentions-unders ks f (λ i. MentionsAbs i x) v (mentions_abs-substitute (unders ks f) x (past ks v) m) in (q.0, inr q.1, q.2)

  -- a variable that a substituted signature that hides types mentions comes from the type put in for one
  pub mentions_abs-substitute : (f : ℕ → Ty) (x : Abs) (v : ℕ) → MentionsAbs v (substitute_abs f x) → (j : ℕ) × MentionsAbs j x × Mentions v (f j)
  mentions_abs-substitute f (Abs.Ex ks s) v m = mentions-unders ks f (λ i. MentionsSig i s) v (mentions_sig-substitute (unders ks f) s (past ks v) m)

  pub mentions_sig_row-substitute : (f : ℕ → Ty) (fs : SigRow) (v : ℕ) → MentionsRow v (substitute_sig_row f fs) → (j : ℕ) × MentionsRow j fs × Mentions v (f j)
  mentions_sig_row-substitute f SigRow.End v m = absurd m
  mentions_sig_row-substitute f (SigRow.More l s rest) v (inl m) = let q = mentions_sig-substitute f s v m in (q.0, inl q.1, q.2)
  mentions_sig_row-substitute f (SigRow.More l s rest) v (inr m) = let q = mentions_sig_row-substitute f rest v m in (q.0, inr q.1, q.2)

-- a normal signature mentions only what each convertible one does
mutual
  -- the normal form of a signature mentions no variable that the signature does not mention
  pub unmentioned_sig : {ctx : List Kind} {s n : Sig} (i : ℕ) → ConvSig ctx s n → NormalSig ctx n → (MentionsSig i s → ⊥) → MentionsSig i n → ⊥
  unmentioned_sig i (val c) n h m = unmentioned n c h m
  unmentioned_sig i (typ c) n h m = unmentioned n c h m
  unmentioned_sig i (meta x) n h m = unmentioned_abs i x n h m
  unmentioned_sig i (str fs) n h m = unmentioned_row i fs n h m
  unmentioned_sig i (fun {ks = ks} s x) n h (inl m) = unmentioned_sig (past ks i) s n.0 (λ q. h (inl q)) m
  unmentioned_sig i (fun {ks = ks} s x) n h (inr m) = unmentioned_abs (past ks i) x n.1 (λ q. h (inr q)) m

  -- the normal form of a signature that hides types mentions no variable that the signature does not mention
  pub unmentioned_abs : {ctx : List Kind} {s n : Abs} (i : ℕ) → ConvAbs ctx s n → NormalAbs ctx n → (MentionsAbs i s → ⊥) → MentionsAbs i n → ⊥
  unmentioned_abs i (ex {ks = ks} s) n h m = unmentioned_sig (past ks i) s n h m

  pub unmentioned_row : {ctx : List Kind} {s n : SigRow} (i : ℕ) → AlikeRow ConvBetween ctx s n → NormalSigRow ctx n → (MentionsRow i s → ⊥) → MentionsRow i n → ⊥
  unmentioned_row i end n h m = m
  unmentioned_row i (more s fs) n h (inl m) = unmentioned_sig i s n.0 (λ q. h (inl q)) m
  unmentioned_row i (more s fs) n h (inr m) = unmentioned_row i fs n.1 (λ q. h (inr q)) m
