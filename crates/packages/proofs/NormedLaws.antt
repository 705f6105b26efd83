-- What the code makes of a signature is its norm, and normal.
-- Main results: norm-value, norm-good.
use Rattle.std.specs.Prelude.{ℕ, List, [], ◌∷◌, ◌≡◌}
use Rattle.std.proofs.Math.Path.{sym, subst, fun_ext}
use Rattle.omega_kinds.specs.Kind.{Kind}
use Rattle.omega_kinds.specs.declared.effect.Effect.TheVariants.{Pure, Impure}
use Rattle.omega_types.specs.Binders.{extend}
use Rattle.sig_definitions.specs.Signatures.Sig.{Sig, Abs, SigRow}
use Rattle.sig_definitions.specs.Signatures.SigSubst.{rename_sig, rename_abs}
use Rattle.sig_definitions.specs.Signatures.Alike.{NormalSig, NormalAbs, NormalSigRow}
use Rattle.sig_definitions.specs.QuantifierOrder.{NewOrder, reordered, renumber, NormSig, Norm, NormRow}
use Rattle.sig_definitions.specs.Explicit.WellFormed.{EachRooted, WellFormed, WellFormedRow, ExplicitResults, ExplicitResultsRow, Explicit, explicit, in_str, in_pure, in_impure, in_more}
use Rattle.sig_laws.specs.Good.{OkRight}
use Rattle.sig_laws.proofs.Algebra.AlikeLaws.{normal_sig-rename, normal_abs-rename}
use Rattle.sig_norm_laws.proofs.Norm.NormKeeps.{norm-well_formed, norm_abs-explicit}
use Rattle.sig_norm_laws.proofs.Orders.OrderExists.{root-each}
use Rattle.type_normal.specs.Inner.Moved.{moved}
use Rattle.packages.specs.Inner.Normed.{order, in_order, functor_in_order, normed_sig, normed_abs, normed_row}
use Rattle.packages.proofs.TurnLaws.{in-new-order}
use Rattle.sig_laws.proofs.Formed.NormGood.{reorder-maps}

abbrev pub Good : List Kind → Sig → Sig → Type 0
Good ctx s t = NormSig ctx s t × NormalSig ctx t

abbrev pub GoodAbs : List Kind → Abs → Abs → Type 0
GoodAbs ctx x y = Norm ctx x y × NormalAbs ctx y

-- the renumbering of the code, and its kinds
abbrev pub Ordered : List Kind → List Kind → Sig → Type 0
Ordered ctx ks t = (o : List ℕ) × NewOrder ctx ks t o × ((order ks t).0 ≡ reordered ks o) × (moved (order ks t).1 ≡ renumber ks o)

ordered : (ctx ks : List Kind) (s t : Sig) → WellFormed (extend ctx ks) s → EachRooted ctx ks s → Good (extend ctx ks) s t → Ordered ctx ks t
ordered ctx ks s t w e g = let q = in-new-order ctx ks t (norm-well_formed g.0 w) g.1 (root-each g.0 e) in (q.0, q.1, q.2, fun_ext q.3)

abs-in-order : (ctx ks : List Kind) (s t : Sig) → Good (extend ctx ks) s t → Ordered ctx ks t → GoodAbs ctx (Abs.Ex ks s) (in_order ks t)
abs-in-order ctx ks s t g (o, n, ek, em) =
    subst (λ js. GoodAbs ctx (Abs.Ex ks s) (Abs.Ex js (rename_sig (moved (order ks t).1) t))) (sym ek)
    (subst (λ r. GoodAbs ctx (Abs.Ex ks s) (Abs.Ex (reordered ks o) (rename_sig r t))) (sym em)
    (Norm.ex g.0 n, normal_sig-rename (renumber ks o) (reorder-maps n ctx) t g.1))

functor-in-order : (ctx ks : List Kind) (s t : Sig) (x y : Abs) → Good (extend ctx ks) s t → Ordered ctx ks t → GoodAbs (extend ctx ks) x y → Good ctx (Sig.Fun Impure ks s x) (functor_in_order ks t y)
functor-in-order ctx ks s t x y g (o, n, ek, em) h =
    subst (λ js. Good ctx (Sig.Fun Impure ks s x) (Sig.Fun Impure js (rename_sig (moved (order ks t).1) t) (rename_abs (moved (order ks t).1) y))) (sym ek)
    (subst (λ r. Good ctx (Sig.Fun Impure ks s x) (Sig.Fun Impure (reordered ks o) (rename_sig r t) (rename_abs r y))) (sym em)
    (NormSig.impure g.0 n h.0, (normal_sig-rename (renumber ks o) (reorder-maps n ctx) t g.1, normal_abs-rename (renumber ks o) (reorder-maps n ctx) y h.1)))

mutual
  pub sig-normed : {ctx : List Kind} (s : Sig) → WellFormed ctx s → ExplicitResults ctx s → NormalSig ctx s → Good ctx s (normed_sig s)
  sig-normed (Sig.Val t) h r n = (NormSig.val, n)
  sig-normed (Sig.Typ t k) h r n = (NormSig.typ, n)
  sig-normed (Sig.Meta x) (WellFormed.meta h) r n = let q = abs-normed x h n in (NormSig.meta q.0, q.1)
  sig-normed (Sig.Str fs) (WellFormed.str a h) (in_str r) n = let q = row-normed fs h r n in (NormSig.str q.0, q.1)
  sig-normed (Sig.Fun Pure ks s (Abs.Ex [] r)) (WellFormed.pure (explicit w q e) v) (in_pure x) n =
      let g = sig-normed s w q n.0 in
      let h = sig-normed r v x n.1 in
      (NormSig.pure g.0 h.0, (g.1, h.1))
  sig-normed (Sig.Fun Pure ks s (Abs.Ex (j ∷ js) r)) h e n = elim h [ ]
  sig-normed {ctx} (Sig.Fun Impure ks s x) (WellFormed.impure (explicit w q e) v) (in_impure y) n =
      let g = sig-normed s w q n.0 in
      functor-in-order ctx ks s (normed_sig s) x (normed_abs x) g (ordered ctx ks s (normed_sig s) w e g) (abs-normed x y n.1)

  pub abs-normed : {ctx : List Kind} (x : Abs) → Explicit ctx x → NormalAbs ctx x → GoodAbs ctx x (normed_abs x)
  abs-normed {ctx} (Abs.Ex ks s) (explicit w q e) n = let g = sig-normed s w q n in abs-in-order ctx ks s (normed_sig s) g (ordered ctx ks s (normed_sig s) w e g)

  row-normed : {ctx : List Kind} (fs : SigRow) → WellFormedRow ctx fs → ExplicitResultsRow ctx fs → NormalSigRow ctx fs → NormRow ctx fs (normed_row fs) × NormalSigRow ctx (normed_row fs)
  row-normed SigRow.End h r n = (NormRow.end, tt)
  row-normed (SigRow.More l s rest) (WellFormedRow.more h hs) (in_more r rs) n =
      let g = sig-normed s h r n.0 in
      let k = row-normed rest hs rs n.1 in
      (NormRow.more g.0 k.0, (g.1, k.1))

-- what is given is good again

-- what the code makes of a signature that may stand on the right is its norm
pub norm-value : (x y : Abs) → y ≡ normed_abs x → (ctx : List Kind) → OkRight ctx x → Norm ctx x y
norm-value x y e ctx ok = subst (Norm ctx x) (sym e) (abs-normed x ok.0 ok.1).0

-- this norm may stand on the right
pub norm-good : (x y : Abs) → y ≡ normed_abs x → (ctx : List Kind) → OkRight ctx x → OkRight ctx y
norm-good x y e ctx ok = let q = abs-normed x ok.0 ok.1 in subst (OkRight ctx) (sym e) (norm_abs-explicit q.0 ok.0, q.1)
