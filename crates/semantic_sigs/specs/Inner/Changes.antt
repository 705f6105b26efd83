-- Changes of the variables in signatures: types put in for them in parallel, with the normal form of the result at once, of
-- which raised, lowered and new indexes are special cases.
use Rattle.std.specs.Prelude.{ℕ, ◌+◌, ◌-◌, List, Option}
use Rattle.omega_types.specs.Ty.{Ty}
use Rattle.sig_definitions.specs.Signatures.Sig.{Sig, Abs, SigRow}
pub use Rattle.type_normal.specs.Inner.Heads.{Head, stands, came, tree, under_head, sunk, sinks, ty_in, putting}
use Rattle.type_normal.specs.Inner.Moved.{moved}

abbrev mutual
  pub sig_in : (ℕ → Head) → Sig → Sig
  sig_in h (Sig.Val t) = Sig.Val (ty_in h t)
  sig_in h (Sig.Typ t k) = Sig.Typ (ty_in h t) k
  sig_in h (Sig.Meta x) = Sig.Meta (abs_in h x)
  sig_in h (Sig.Str fs) = Sig.Str (sig_row_in h fs)
  sig_in h (Sig.Fun e ks s x) = Sig.Fun e ks (sig_in (sinks ks h) s) (abs_in (sinks ks h) x)

  pub abs_in : (ℕ → Head) → Abs → Abs
  abs_in h (Abs.Ex ks s) = Abs.Ex ks (sig_in (sinks ks h) s)

  pub sig_row_in : (ℕ → Head) → SigRow → SigRow
  sig_row_in h SigRow.End = SigRow.End
  sig_row_in h (SigRow.More l s rest) = SigRow.More l (sig_in h s) (sig_row_in h rest)

-- the changes of indexes
abbrev pub raising : ℕ → ℕ → Head
raising by i = stands (Ty.Var (by + i))

abbrev pub lowering : ℕ → ℕ → Head
lowering by i = stands (Ty.Var (i - by))

abbrev pub moving : List (Option ℕ) → ℕ → Head
moving places i = stands (Ty.Var (moved places i))
