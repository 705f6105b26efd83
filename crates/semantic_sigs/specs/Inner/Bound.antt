-- The least number above all free indexes of a signature: 0 for a closed one.
use Rattle.std.specs.Prelude.{ℕ, ◌-◌, max, length}
use Rattle.omega_types.specs.Inner.Bound.{bound_of}
use Rattle.sig_definitions.specs.Signatures.Sig.{Sig, Abs, SigRow}
use Rattle.semantic_sigs.specs.Inner.Fields.{SigPairs, sig_row}

abbrev mutual
  pub bound_sig : Sig → ℕ
  bound_sig (Sig.Val t) = bound_of t
  bound_sig (Sig.Typ t k) = bound_of t
  bound_sig (Sig.Meta x) = bound_abs x
  bound_sig (Sig.Str fs) = bound_sig_row fs
  bound_sig (Sig.Fun e ks s x) = max (bound_sig s) (bound_abs x) - length ks

  pub bound_abs : Abs → ℕ
  bound_abs (Abs.Ex ks s) = bound_sig s - length ks

  pub bound_sig_row : SigRow → ℕ
  bound_sig_row SigRow.End = 0
  bound_sig_row (SigRow.More l s rest) = max (bound_sig s) (bound_sig_row rest)

abbrev pub bound_sig_pairs : SigPairs → ℕ
bound_sig_pairs xs = bound_sig_row (sig_row xs)
