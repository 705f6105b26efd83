-- How high a signature is: each of its forms counts six, for the stack that a walk over signatures takes, and each
-- form of its types one; kinds are left out.
use Rattle.std.specs.Prelude.{ℕ, ◌+◌, max}
use Rattle.omega_types.specs.Height.{height}
use Rattle.sig_definitions.specs.Signatures.Sig.{Sig, Abs, SigRow}
use Rattle.semantic_sigs.specs.Inner.Fields.{SigPairs, sig_row}

abbrev mutual
  pub sig_height : Sig → ℕ
  sig_height (Sig.Val t) = height t + 6
  sig_height (Sig.Typ t k) = height t + 6
  sig_height (Sig.Meta x) = abs_height x + 6
  sig_height (Sig.Str fs) = sig_row_height fs + 6
  sig_height (Sig.Fun e ks s x) = max (sig_height s) (abs_height x) + 6

  pub abs_height : Abs → ℕ
  abs_height (Abs.Ex ks s) = sig_height s + 6

  pub sig_row_height : SigRow → ℕ
  sig_row_height SigRow.End = 0
  sig_row_height (SigRow.More l s rest) = max (sig_height s) (sig_row_height rest)

abbrev pub sig_pairs_height : SigPairs → ℕ
sig_pairs_height xs = sig_row_height (sig_row xs)
