-- How many binders stand one in another, at most, in a signature and its types.
use Rattle.std.specs.Prelude.{ℕ, ◌+◌, max, length}
use Rattle.omega_scopes.specs.Inner.Depth.{ty_depth}
use Rattle.sig_definitions.specs.Signatures.Sig.{Sig, Abs, SigRow}

abbrev mutual
  pub sig_depth : Sig → ℕ
  sig_depth (Sig.Val t) = ty_depth t
  sig_depth (Sig.Typ t k) = ty_depth t
  sig_depth (Sig.Meta x) = abs_depth x
  sig_depth (Sig.Str fs) = sig_row_depth fs
  sig_depth (Sig.Fun e ks s x) = length ks + max (sig_depth s) (abs_depth x)

  pub abs_depth : Abs → ℕ
  abs_depth (Abs.Ex ks s) = length ks + sig_depth s

  pub sig_row_depth : SigRow → ℕ
  sig_row_depth SigRow.End = 0
  sig_row_depth (SigRow.More l s rest) = max (sig_depth s) (sig_row_depth rest)
