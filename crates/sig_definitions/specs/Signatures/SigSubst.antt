-- Renaming and substitution of type variables in signatures, in parallel.
use Rattle.std.specs.Prelude.{ℕ, List}
use Rattle.omega_kinds.specs.Kind.{Kind}
use Rattle.omega_types.specs.Ty.{Ty}
use Rattle.omega_types.specs.Substitution.{rename, substitute}
use Rattle.omega_types.specs.Binders.{past, lifts, unders, puts}
use Rattle.sig_definitions.specs.Signatures.Sig.{Sig, Abs, SigRow}

abbrev mutual
  pub rename_sig : (ℕ → ℕ) → Sig → Sig
  rename_sig r (Sig.Val t) = Sig.Val (rename r t)
  rename_sig r (Sig.Typ t k) = Sig.Typ (rename r t) k
  rename_sig r (Sig.Meta x) = Sig.Meta (rename_abs r x)
  rename_sig r (Sig.Str fs) = Sig.Str (rename_sig_row r fs)
  rename_sig r (Sig.Fun e ks s x) = Sig.Fun e ks (rename_sig (lifts ks r) s) (rename_abs (lifts ks r) x)

  pub rename_abs : (ℕ → ℕ) → Abs → Abs
  rename_abs r (Abs.Ex ks s) = Abs.Ex ks (rename_sig (lifts ks r) s)

  pub rename_sig_row : (ℕ → ℕ) → SigRow → SigRow
  rename_sig_row r SigRow.End = SigRow.End
  rename_sig_row r (SigRow.More l s rest) = SigRow.More l (rename_sig r s) (rename_sig_row r rest)

abbrev mutual
  pub substitute_sig : (ℕ → Ty) → Sig → Sig
  substitute_sig f (Sig.Val t) = Sig.Val (substitute f t)
  substitute_sig f (Sig.Typ t k) = Sig.Typ (substitute f t) k
  substitute_sig f (Sig.Meta x) = Sig.Meta (substitute_abs f x)
  substitute_sig f (Sig.Str fs) = Sig.Str (substitute_sig_row f fs)
  substitute_sig f (Sig.Fun e ks s x) = Sig.Fun e ks (substitute_sig (unders ks f) s) (substitute_abs (unders ks f) x)

  pub substitute_abs : (ℕ → Ty) → Abs → Abs
  substitute_abs f (Abs.Ex ks s) = Abs.Ex ks (substitute_sig (unders ks f) s)

  pub substitute_sig_row : (ℕ → Ty) → SigRow → SigRow
  substitute_sig_row f SigRow.End = SigRow.End
  substitute_sig_row f (SigRow.More l s rest) = SigRow.More l (substitute_sig f s) (substitute_sig_row f rest)

-- a signature from outside the binders, as it is written under them
abbrev pub raise_sig : List Kind → Sig → Sig
raise_sig ks s = rename_sig (past ks) s

abbrev pub raise_abs : List Kind → Abs → Abs
raise_abs ks x = rename_abs (past ks) x

abbrev pub raise_sig_row : List Kind → SigRow → SigRow
raise_sig_row ks fs = rename_sig_row (past ks) fs

-- what stands under binders, at types for their variables
abbrev pub sig_at : List Ty → Sig → Sig
sig_at ts s = substitute_sig (puts ts Ty.Var) s

abbrev pub abs_at : List Ty → Abs → Abs
abs_at ts x = substitute_abs (puts ts Ty.Var) x

-- the same where the types stand under further binders
abbrev pub sig_at_under : List Kind → List Ty → Sig → Sig
sig_at_under ks ts s = substitute_sig (puts ts (λ i. Ty.Var (past ks i))) s

abbrev pub abs_at_under : List Kind → List Ty → Abs → Abs
abs_at_under ks ts x = substitute_abs (puts ts (λ i. Ty.Var (past ks i))) x
