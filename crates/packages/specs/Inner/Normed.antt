-- Every quantifier of a signature in the order in which its variables are taken, except those of pure functors.
use Rattle.std.specs.Prelude.{List, [], length}
use Rattle.omega_kinds.specs.Kind.{Kind}
use Rattle.omega_kinds.specs.declared.effect.Effect.TheVariants.{Pure, Impure}
use Rattle.sig_definitions.specs.Signatures.Sig.{Sig, Abs, SigRow}
use Rattle.sig_definitions.specs.Signatures.SigSubst.{rename_sig, rename_abs}
use Rattle.packages.specs.Inner.First.{Places}
use Rattle.type_normal.specs.Inner.Moved.{moved}
use Rattle.packages.specs.Inner.Turns.{turns, untaken}

-- the order for a body
abbrev pub order : List Kind → Sig → List Kind × Places
order ks s = turns ks s (length ks) [] (untaken ks)

abbrev pub in_order : List Kind → Sig → Abs
in_order ks t = Abs.Ex (order ks t).0 (rename_sig (moved (order ks t).1) t)

abbrev pub functor_in_order : List Kind → Sig → Abs → Sig
functor_in_order ks t y = Sig.Fun Impure (order ks t).0 (rename_sig (moved (order ks t).1) t) (rename_abs (moved (order ks t).1) y)

abbrev mutual
  pub normed_sig : Sig → Sig
  normed_sig (Sig.Val t) = Sig.Val t
  normed_sig (Sig.Typ t k) = Sig.Typ t k
  normed_sig (Sig.Meta x) = Sig.Meta (normed_abs x)
  normed_sig (Sig.Str fs) = Sig.Str (normed_row fs)
  normed_sig (Sig.Fun Pure ks s (Abs.Ex js r)) = Sig.Fun Pure ks (normed_sig s) (Abs.Ex js (normed_sig r))
  normed_sig (Sig.Fun Impure ks s x) = functor_in_order ks (normed_sig s) (normed_abs x)

  pub normed_abs : Abs → Abs
  normed_abs (Abs.Ex ks s) = in_order ks (normed_sig s)

  pub normed_row : SigRow → SigRow
  normed_row SigRow.End = SigRow.End
  normed_row (SigRow.More l s rest) = SigRow.More l (normed_sig s) (normed_row rest)
