-- The normal form of a signature, as a function.
use Rattle.std.specs.Prelude.{List}
use Rattle.omega_kinds.specs.Kind.{Kind}
use Rattle.omega_types.specs.Normaliser.{normal}
use Rattle.omega_types.specs.Binders.{extend}
use Rattle.sig_definitions.specs.Signatures.Sig.{Sig, Abs, SigRow}

abbrev mutual
  pub normal_sig : List Kind → Sig → Sig
  normal_sig ctx (Sig.Val t) = Sig.Val (normal ctx t)
  normal_sig ctx (Sig.Typ t k) = Sig.Typ (normal ctx t) k
  normal_sig ctx (Sig.Meta x) = Sig.Meta (normal_abs ctx x)
  normal_sig ctx (Sig.Str fs) = Sig.Str (normal_sig_row ctx fs)
  normal_sig ctx (Sig.Fun e ks s x) = Sig.Fun e ks (normal_sig (extend ctx ks) s) (normal_abs (extend ctx ks) x)

  pub normal_abs : List Kind → Abs → Abs
  normal_abs ctx (Abs.Ex ks s) = Abs.Ex ks (normal_sig (extend ctx ks) s)

  pub normal_sig_row : List Kind → SigRow → SigRow
  normal_sig_row ctx SigRow.End = SigRow.End
  normal_sig_row ctx (SigRow.More l s rest) = SigRow.More l (normal_sig ctx s) (normal_sig_row ctx rest)
