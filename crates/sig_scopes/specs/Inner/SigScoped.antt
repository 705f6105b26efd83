-- Whether the variables of a signature are in scope, and below each list of binders the number in scope is one of 64 bits.
use Rattle.std.specs.Prelude.{ℕ, ◌+◌, Bool as Truth, true, ◌&&◌, length}
use Rattle.omega_scopes.specs.Inner.Scoped.{fits, ty_scoped}
use Rattle.sig_definitions.specs.Signatures.Sig.{Sig, Abs, SigRow}

abbrev mutual
  pub sig_scoped : ℕ → Sig → Truth
  sig_scoped n (Sig.Val t) = ty_scoped n t
  sig_scoped n (Sig.Typ t k) = ty_scoped n t
  sig_scoped n (Sig.Meta x) = abs_scoped n x
  sig_scoped n (Sig.Str fs) = sig_row_scoped n fs
  sig_scoped n (Sig.Fun e ks s x) = fits (n + length ks) && (sig_scoped (n + length ks) s && abs_scoped (n + length ks) x)

  pub abs_scoped : ℕ → Abs → Truth
  abs_scoped n (Abs.Ex ks s) = fits (n + length ks) && sig_scoped (n + length ks) s

  pub sig_row_scoped : ℕ → SigRow → Truth
  sig_row_scoped n SigRow.End = true
  sig_row_scoped n (SigRow.More l s rest) = sig_scoped n s && sig_row_scoped n rest
