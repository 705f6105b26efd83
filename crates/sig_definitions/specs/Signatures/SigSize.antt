-- The size of a signature, whatever its types are.
use Rattle.std.specs.Prelude.{ℕ, suc, ◌+◌}
use Rattle.sig_definitions.specs.Signatures.Sig.{Sig, Abs, SigRow}

abbrev mutual
  pub size : Sig → ℕ
  size (Sig.Val t) = 1
  size (Sig.Typ t k) = 1
  size (Sig.Meta x) = suc (size_abs x)
  size (Sig.Str fs) = suc (size_row fs)
  size (Sig.Fun e ks s x) = suc (size s + size_abs x)

  pub size_abs : Abs → ℕ
  size_abs (Abs.Ex ks s) = suc (size s)

  pub size_row : SigRow → ℕ
  size_row SigRow.End = 0
  size_row (SigRow.More l s rest) = size s + size_row rest
