-- Parallel renamings and substitutions in signatures compose.
-- Main results: substitute_sig-id, substitute-substitute_sig.
use Rattle.std.specs.Prelude.{ℕ, ◌≡◌}
use Rattle.std.proofs.Math.Path.{refl, ◌∙◌, ap, ap₂}
use Rattle.omega_types.specs.Ty.{Ty}
use Rattle.omega_types.specs.Substitution.{rename, substitute}
use Rattle.omega_types.specs.Binders.{lifts, unders}
use Rattle.omega_types.proofs.Algebra.{rename-rename, substitute-rename, rename-substitute, substitute-substitute, substitute-vars, rename-id}
use Rattle.sig_definitions.specs.Signatures.Sig.{Sig, Abs, SigRow}
use Rattle.sig_definitions.specs.Signatures.SigSubst.{rename_sig, rename_abs, rename_sig_row, substitute_sig, substitute_abs, substitute_sig_row}
use Rattle.sig_laws.proofs.Algebra.BinderLaws.{lifts-lifts, lifts-unders, unders-unders, unders-vars, lifts-id}
use Rattle.omega_types.proofs.BinderPuts.{unders-lifts}

-- renaming after renaming

mutual
  -- renamings of a signature compose
  pub rename-rename_sig : (r : ℕ → ℕ) (s : ℕ → ℕ) (x : Sig) → rename_sig r (rename_sig s x) ≡ rename_sig (λ i. r (s i)) x
  rename-rename_sig r s (Sig.Val t) = ap Sig.Val (rename-rename r s t)
  rename-rename_sig r s (Sig.Typ t k) = ap (λ u. Sig.Typ u k) (rename-rename r s t)
  rename-rename_sig r s (Sig.Meta x) = ap Sig.Meta (rename-rename_abs r s x)
  rename-rename_sig r s (Sig.Str fs) = ap Sig.Str (rename-rename_row r s fs)
  rename-rename_sig r s (Sig.Fun e ks p x) = ap₂ (Sig.Fun e ks) (rename-rename_sig (lifts ks r) (lifts ks s) p ∙ ap (λ f. rename_sig f p) (lifts-lifts ks r s)) (rename-rename_abs (lifts ks r) (lifts ks s) x ∙ ap (λ f. rename_abs f x) (lifts-lifts ks r s))

  -- renamings of a signature that hides types compose
  pub rename-rename_abs : (r : ℕ → ℕ) (s : ℕ → ℕ) (x : Abs) → rename_abs r (rename_abs s x) ≡ rename_abs (λ i. r (s i)) x
  rename-rename_abs r s (Abs.Ex ks p) = ap (Abs.Ex ks) (rename-rename_sig (lifts ks r) (lifts ks s) p ∙ ap (λ f. rename_sig f p) (lifts-lifts ks r s))

  pub rename-rename_row : (r : ℕ → ℕ) (s : ℕ → ℕ) (x : SigRow) → rename_sig_row r (rename_sig_row s x) ≡ rename_sig_row (λ i. r (s i)) x
  rename-rename_row r s SigRow.End = refl
  rename-rename_row r s (SigRow.More l p rest) = ap₂ (SigRow.More l) (rename-rename_sig r s p) (rename-rename_row r s rest)

-- substitution after renaming

mutual
  -- a renaming and then a substitution of a signature compose
  pub substitute-rename_sig : (s : ℕ → Ty) (r : ℕ → ℕ) (x : Sig) → substitute_sig s (rename_sig r x) ≡ substitute_sig (λ i. s (r i)) x
  substitute-rename_sig s r (Sig.Val t) = ap Sig.Val (substitute-rename s r t)
  substitute-rename_sig s r (Sig.Typ t k) = ap (λ u. Sig.Typ u k) (substitute-rename s r t)
  substitute-rename_sig s r (Sig.Meta x) = ap Sig.Meta (substitute-rename_abs s r x)
  substitute-rename_sig s r (Sig.Str fs) = ap Sig.Str (substitute-rename_row s r fs)
  substitute-rename_sig s r (Sig.Fun e ks p x) = ap₂ (Sig.Fun e ks) (substitute-rename_sig (unders ks s) (lifts ks r) p ∙ ap (λ f. substitute_sig f p) (unders-lifts ks s r)) (substitute-rename_abs (unders ks s) (lifts ks r) x ∙ ap (λ f. substitute_abs f x) (unders-lifts ks s r))

  -- a renaming and then a substitution of a signature that hides types compose
  pub substitute-rename_abs : (s : ℕ → Ty) (r : ℕ → ℕ) (x : Abs) → substitute_abs s (rename_abs r x) ≡ substitute_abs (λ i. s (r i)) x
  substitute-rename_abs s r (Abs.Ex ks p) = ap (Abs.Ex ks) (substitute-rename_sig (unders ks s) (lifts ks r) p ∙ ap (λ f. substitute_sig f p) (unders-lifts ks s r))

  pub substitute-rename_row : (s : ℕ → Ty) (r : ℕ → ℕ) (x : SigRow) → substitute_sig_row s (rename_sig_row r x) ≡ substitute_sig_row (λ i. s (r i)) x
  substitute-rename_row s r SigRow.End = refl
  substitute-rename_row s r (SigRow.More l p rest) = ap₂ (SigRow.More l) (substitute-rename_sig s r p) (substitute-rename_row s r rest)

-- renaming after substitution

mutual
  pub rename-substitute_sig : (r : ℕ → ℕ) (s : ℕ → Ty) (x : Sig) → rename_sig r (substitute_sig s x) ≡ substitute_sig (λ i. rename r (s i)) x
  rename-substitute_sig r s (Sig.Val t) = ap Sig.Val (rename-substitute r s t)
  rename-substitute_sig r s (Sig.Typ t k) = ap (λ u. Sig.Typ u k) (rename-substitute r s t)
  rename-substitute_sig r s (Sig.Meta x) = ap Sig.Meta (rename-substitute_abs r s x)
  rename-substitute_sig r s (Sig.Str fs) = ap Sig.Str (rename-substitute_row r s fs)
  rename-substitute_sig r s (Sig.Fun e ks p x) = ap₂ (Sig.Fun e ks) (rename-substitute_sig (lifts ks r) (unders ks s) p ∙ ap (λ f. substitute_sig f p) (lifts-unders ks r s)) (rename-substitute_abs (lifts ks r) (unders ks s) x ∙ ap (λ f. substitute_abs f x) (lifts-unders ks r s))

  -- a substitution and then a renaming of a signature that hides types compose
  pub rename-substitute_abs : (r : ℕ → ℕ) (s : ℕ → Ty) (x : Abs) → rename_abs r (substitute_abs s x) ≡ substitute_abs (λ i. rename r (s i)) x
  rename-substitute_abs r s (Abs.Ex ks p) = ap (Abs.Ex ks) (rename-substitute_sig (lifts ks r) (unders ks s) p ∙ ap (λ f. substitute_sig f p) (lifts-unders ks r s))

  pub rename-substitute_row : (r : ℕ → ℕ) (s : ℕ → Ty) (x : SigRow) → rename_sig_row r (substitute_sig_row s x) ≡ substitute_sig_row (λ i. rename r (s i)) x
  rename-substitute_row r s SigRow.End = refl
  rename-substitute_row r s (SigRow.More l p rest) = ap₂ (SigRow.More l) (rename-substitute_sig r s p) (rename-substitute_row r s rest)

-- substitution after substitution

mutual
  -- substitutions in a signature compose
  pub substitute-substitute_sig : (s : ℕ → Ty) (q : ℕ → Ty) (x : Sig) → substitute_sig s (substitute_sig q x) ≡ substitute_sig (λ i. substitute s (q i)) x
  substitute-substitute_sig s q (Sig.Val t) = ap Sig.Val (substitute-substitute s q t)
  substitute-substitute_sig s q (Sig.Typ t k) = ap (λ u. Sig.Typ u k) (substitute-substitute s q t)
  substitute-substitute_sig s q (Sig.Meta x) = ap Sig.Meta (substitute-substitute_abs s q x)
  substitute-substitute_sig s q (Sig.Str fs) = ap Sig.Str (substitute-substitute_row s q fs)
  substitute-substitute_sig s q (Sig.Fun e ks p x) = ap₂ (Sig.Fun e ks) (substitute-substitute_sig (unders ks s) (unders ks q) p ∙ ap (λ f. substitute_sig f p) (unders-unders ks s q)) (substitute-substitute_abs (unders ks s) (unders ks q) x ∙ ap (λ f. substitute_abs f x) (unders-unders ks s q))

  -- substitutions in a signature that hides types compose
  pub substitute-substitute_abs : (s : ℕ → Ty) (q : ℕ → Ty) (x : Abs) → substitute_abs s (substitute_abs q x) ≡ substitute_abs (λ i. substitute s (q i)) x
  substitute-substitute_abs s q (Abs.Ex ks p) = ap (Abs.Ex ks) (substitute-substitute_sig (unders ks s) (unders ks q) p ∙ ap (λ f. substitute_sig f p) (unders-unders ks s q))

  pub substitute-substitute_row : (s : ℕ → Ty) (q : ℕ → Ty) (x : SigRow) → substitute_sig_row s (substitute_sig_row q x) ≡ substitute_sig_row (λ i. substitute s (q i)) x
  substitute-substitute_row s q SigRow.End = refl
  substitute-substitute_row s q (SigRow.More l p rest) = ap₂ (SigRow.More l) (substitute-substitute_sig s q p) (substitute-substitute_row s q rest)

-- a renaming is a substitution of variables

mutual
  -- a substitution by variables in a signature is the renaming
  pub substitute-vars_sig : (r : ℕ → ℕ) (x : Sig) → substitute_sig (λ i. Ty.Var (r i)) x ≡ rename_sig r x
  substitute-vars_sig r (Sig.Val t) = ap Sig.Val (substitute-vars r t)
  substitute-vars_sig r (Sig.Typ t k) = ap (λ u. Sig.Typ u k) (substitute-vars r t)
  substitute-vars_sig r (Sig.Meta x) = ap Sig.Meta (substitute-vars_abs r x)
  substitute-vars_sig r (Sig.Str fs) = ap Sig.Str (substitute-vars_row r fs)
  substitute-vars_sig r (Sig.Fun e ks s x) = ap₂ (Sig.Fun e ks) (ap (λ f. substitute_sig f s) (unders-vars ks r) ∙ substitute-vars_sig (lifts ks r) s) (ap (λ f. substitute_abs f x) (unders-vars ks r) ∙ substitute-vars_abs (lifts ks r) x)

  -- a substitution by variables in a signature that hides types is the renaming
  pub substitute-vars_abs : (r : ℕ → ℕ) (x : Abs) → substitute_abs (λ i. Ty.Var (r i)) x ≡ rename_abs r x
  substitute-vars_abs r (Abs.Ex ks s) = ap (Abs.Ex ks) (ap (λ f. substitute_sig f s) (unders-vars ks r) ∙ substitute-vars_sig (lifts ks r) s)

  -- a substitution by variables in the fields of a structure is the renaming
  pub substitute-vars_row : (r : ℕ → ℕ) (x : SigRow) → substitute_sig_row (λ i. Ty.Var (r i)) x ≡ rename_sig_row r x
  substitute-vars_row r SigRow.End = refl
  substitute-vars_row r (SigRow.More l s rest) = ap₂ (SigRow.More l) (substitute-vars_sig r s) (substitute-vars_row r rest)

-- the identity

mutual
  -- the identity renaming leaves a signature as it is
  pub rename_sig-id : (x : Sig) → rename_sig (λ i. i) x ≡ x
  rename_sig-id (Sig.Val t) = ap Sig.Val (rename-id t)
  rename_sig-id (Sig.Typ t k) = ap (λ u. Sig.Typ u k) (rename-id t)
  rename_sig-id (Sig.Meta x) = ap Sig.Meta (rename_abs-id x)
  rename_sig-id (Sig.Str fs) = ap Sig.Str (rename_row-id fs)
  rename_sig-id (Sig.Fun e ks s x) = ap₂ (Sig.Fun e ks) (ap (λ f. rename_sig f s) (lifts-id ks) ∙ rename_sig-id s) (ap (λ f. rename_abs f x) (lifts-id ks) ∙ rename_abs-id x)

  -- the identity renaming leaves a signature that hides types as it is
  pub rename_abs-id : (x : Abs) → rename_abs (λ i. i) x ≡ x
  rename_abs-id (Abs.Ex ks s) = ap (Abs.Ex ks) (ap (λ f. rename_sig f s) (lifts-id ks) ∙ rename_sig-id s)

  pub rename_row-id : (x : SigRow) → rename_sig_row (λ i. i) x ≡ x
  rename_row-id SigRow.End = refl
  rename_row-id (SigRow.More l s rest) = ap₂ (SigRow.More l) (rename_sig-id s) (rename_row-id rest)

-- the identity substitution leaves a signature as it is
pub substitute_sig-id : (x : Sig) → substitute_sig Ty.Var x ≡ x
substitute_sig-id x = substitute-vars_sig (λ i. i) x ∙ rename_sig-id x

-- the identity substitution leaves a signature that hides types as it is
pub substitute_abs-id : (x : Abs) → substitute_abs Ty.Var x ≡ x
substitute_abs-id x = substitute-vars_abs (λ i. i) x ∙ rename_abs-id x
