-- Norm gives one signature.
-- Main results: norm_unique, norm_abs_unique.
use Rattle.std.specs.Prelude.{ℕ, List, [], ◌≡◌}
use Rattle.std.proofs.Math.Path.{refl, sym, ap, subst}
use Rattle.omega_kinds.specs.Kind.{Kind}
use Rattle.omega_kinds.specs.declared.effect.Effect.TheVariants.{Pure, Impure}
use Rattle.omega_kinds.specs.Name.{Name}
use Rattle.sig_definitions.specs.Signatures.Sig.{Sig, Abs, SigRow}
use Rattle.sig_definitions.specs.Signatures.SigSubst.{rename_sig, rename_abs}
use Rattle.sig_definitions.specs.QuantifierOrder.{NewOrder, reordered, renumber, NormSig, Norm, NormRow}
use Rattle.sig_norm_laws.proofs.Orders.OrderUnique.{one-order}

same-order : {ctx ks : List Kind} {s t : Sig} {o w : List ℕ} → s ≡ t → NewOrder ctx ks s o → NewOrder ctx ks t w → o ≡ w
same-order {ctx} {ks} {w = w} e a b = one-order refl a (subst (λ z. NewOrder ctx ks z w) (sym e) b)

same-abs : (ks : List Kind) {s t : Sig} {o w : List ℕ} → o ≡ w → s ≡ t → Path Abs (Abs.Ex (reordered ks o) (rename_sig (renumber ks o) s)) (Abs.Ex (reordered ks w) (rename_sig (renumber ks w) t))
same-abs ks e f i = Abs.Ex (reordered ks (e i)) (rename_sig (renumber ks (e i)) (f i))

same-fun : (ks : List Kind) {s t : Sig} {x y : Abs} {o w : List ℕ} → o ≡ w → s ≡ t → x ≡ y → Path Sig (Sig.Fun Impure (reordered ks o) (rename_sig (renumber ks o) s) (rename_abs (renumber ks o) x)) (Sig.Fun Impure (reordered ks w) (rename_sig (renumber ks w) t) (rename_abs (renumber ks w) y))
same-fun ks e f g i = Sig.Fun Impure (reordered ks (e i)) (rename_sig (renumber ks (e i)) (f i)) (rename_abs (renumber ks (e i)) (g i))

same-more : {l : Name} {s t : Sig} {fs gs : SigRow} → s ≡ t → fs ≡ gs → Path SigRow (SigRow.More l s fs) (SigRow.More l t gs)
same-more {l} a b i = SigRow.More l (a i) (b i)

same-pure : {ks : List Kind} {s t r q : Sig} → s ≡ t → r ≡ q → Path Sig (Sig.Fun Pure ks s (Abs.Ex [] r)) (Sig.Fun Pure ks t (Abs.Ex [] q))
same-pure {ks} a b i = Sig.Fun Pure ks (a i) (Abs.Ex [] (b i))

mutual
  -- a signature has at most one norm
  pub norm_unique : {ctx : List Kind} {s t u : Sig} → NormSig ctx s t → NormSig ctx s u → t ≡ u
  norm_unique NormSig.val NormSig.val = refl
  norm_unique NormSig.typ NormSig.typ = refl
  norm_unique (NormSig.meta x) (NormSig.meta y) = ap Sig.Meta (norm_abs_unique x y)
  norm_unique (NormSig.str a) (NormSig.str b) = ap Sig.Str (norm_row_unique a b)
  norm_unique (NormSig.pure a b) (NormSig.pure c d) = same-pure (norm_unique a c) (norm_unique b d)
  norm_unique (NormSig.impure {ks = ks} a o x) (NormSig.impure b w y) = let e = norm_unique a b in same-fun ks (same-order e o w) e (norm_abs_unique x y)

  -- a signature that hides types has at most one norm
  pub norm_abs_unique : {ctx : List Kind} {x y z : Abs} → Norm ctx x y → Norm ctx x z → y ≡ z
  norm_abs_unique (Norm.ex {ks = ks} a o) (Norm.ex b w) = let e = norm_unique a b in same-abs ks (same-order e o w) e

  pub norm_row_unique : {ctx : List Kind} {fs gs hs : SigRow} → NormRow ctx fs gs → NormRow ctx fs hs → gs ≡ hs
  norm_row_unique NormRow.end NormRow.end = refl
  norm_row_unique (NormRow.more a rest) (NormRow.more c cs) = same-more (norm_unique a c) (norm_row_unique rest cs)
