-- How far above a number the least free index of a signature is that is at least this number.
use Rattle.std.specs.Prelude.{ℕ, ◌+◌, length, Option, None}
use Rattle.sig_definitions.specs.Signatures.Sig.{Sig, Abs, SigRow}
use Rattle.type_normal.specs.Inner.Least.{lesser, least_ty}

abbrev mutual
  pub least_sig : (from : ℕ) → Sig → Option ℕ
  least_sig from (Sig.Val t) = least_ty from t
  least_sig from (Sig.Typ t k) = least_ty from t
  least_sig from (Sig.Meta x) = least_abs from x
  least_sig from (Sig.Str fs) = least_sig_row from fs
  least_sig from (Sig.Fun e ks s x) = lesser (least_sig (length ks + from) s) (least_abs (length ks + from) x)

  pub least_abs : (from : ℕ) → Abs → Option ℕ
  least_abs from (Abs.Ex ks s) = least_sig (length ks + from) s

  pub least_sig_row : (from : ℕ) → SigRow → Option ℕ
  least_sig_row from SigRow.End = None
  least_sig_row from (SigRow.More l s rest) = lesser (least_sig from s) (least_sig_row from rest)
