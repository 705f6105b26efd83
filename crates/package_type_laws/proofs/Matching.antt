-- A signature and its norm match each other.
-- Main results: norm_abs-both.
use Rattle.std.specs.Prelude.{ℕ, List, [], ◌≡◌}
use Rattle.std.proofs.Common.{arith}
use Rattle.std.proofs.Math.Path.{refl, sym, ◌∙◌, ap, subst}
use Rattle.omega_kinds.specs.Kind.{Kind}
use Rattle.omega_kinds.specs.Name.{Name}
use Rattle.omega_kinds.specs.declared.effect.Effect.TheVariants.{Pure, Impure}
use Rattle.omega_types.specs.Conversion.Conv.{c_refl}
use Rattle.omega_types.specs.Binders.{extend, past}
use Rattle.sig_definitions.specs.Signatures.Sig.{Sig, Abs, SigRow, HasField}
use Rattle.sig_definitions.specs.Signatures.SigSubst.{rename_sig, rename_abs, raise_abs}
use Rattle.sig_definitions.specs.QuantifierOrder.{NewOrder, reordered, renumber, NormSig, Norm, NormRow}
use Rattle.sig_definitions.specs.Explicit.WellFormed.{WellFormed, WellFormedRow, WellFormedAbs, explicit, abs, Rising, BeforeAll}
use Rattle.sig_laws.proofs.Algebra.BinderLaws.{past-length}
use Rattle.sig_laws.proofs.Algebra.SigAlgebra.{rename_sig-id, rename_abs-id}
use Rattle.sig_laws.proofs.Formed.WellFormedShape.{after-differs}
use Rattle.sig_match_laws.specs.AnyTypes.{IsSub, AreSubs, IsSubResult, IsSubAbs, Matches}
use Rattle.sig_norm_laws.proofs.Norm.NormAgain.{unnumber, undone-renumber}
use Rattle.sig_norm_laws.proofs.Norm.NormRenamed.{Undone}
use Rattle.sig_norm_laws.proofs.Orders.Orders.{reordered-length, renumber-past}
use Rattle.package_type_laws.proofs.Renumbered.{Outside, renamed, abs-renamed, matches-renamed, sub-renamed, sub_abs-renamed, sig-undone, abs-undone, opened}

-- both ways
abbrev Both : List Kind → Sig → Sig → Type 0
Both ctx s t = IsSub ctx s t × IsSub ctx t s

abbrev BothAbs : List Kind → Abs → Abs → Type 0
BothAbs ctx x y = IsSubAbs ctx x y × IsSubAbs ctx y x

-- the fields of a row stand in a longer one
abbrev Within : SigRow → SigRow → Type 0
Within fs whole = (l : Name) (s : Sig) → HasField fs l s → HasField whole l s

within-rest : (m : Name) (t : Sig) (fs whole : SigRow) → BeforeAll m fs → Within (SigRow.More m t fs) whole → Within fs whole
within-rest m t fs whole b w l s h = w l s (HasField.there (after-differs m l b h) h)

-- renumbering leaves what is outside, and so does its undoing
renumber-outside : {ctx ks : List Kind} {s : Sig} {order : List ℕ} → NewOrder ctx ks s order → Outside ks (reordered ks order) (renumber ks order)
renumber-outside {ks = ks} {order = order} o j =
    let a = past-length ks j in
    let b = past-length (reordered ks order) j in
    let e = reordered-length o in
    renumber-past ks order j ∙ omega (arith, a, b, e)

undo-outside : (ks js : List Kind) (r q : ℕ → ℕ) → ((i : ℕ) → q (r i) ≡ i) → Outside ks js r → Outside js ks q
undo-outside ks js r q e h j = ap q (sym (h j)) ∙ e (past ks j)

-- functors that keep their variables
pure-below : (ctx ks : List Kind) (s t r q : Sig) → IsSub (extend ctx ks) t s → IsSub (extend ctx ks) r q → IsSub ctx (Sig.Fun Pure ks s (Abs.Ex [] r)) (Sig.Fun Pure ks t (Abs.Ex [] q))
pure-below ctx ks s t r q a b =
    let same : (i : ℕ) → past ks i ≡ past ks i = λ i. refl in
    IsSub.fun (matches-renamed ctx ks ks (λ i. i) (λ i k h. h) same t s (subst (IsSub (extend ctx ks) t) (sym (rename_sig-id s)) a))
    (subst (λ x. IsSubResult (extend ctx ks) Pure Pure x (Abs.Ex [] q)) (sym (abs-renamed ctx ks ks (λ i. i) (λ i k h. h) same (Abs.Ex [] r) ∙ rename_abs-id (Abs.Ex [] r))) (IsSubResult.both_pure b))

-- what is renumbered, where renumbering is undone
module _ (ctx ks js : List Kind) (r q : ℕ → ℕ) (u : Undone (extend ctx ks) (extend ctx js) r q) (out : Outside ks js r) where
  back : Outside js ks q
  back = undo-outside ks js r q u.back_there out

  there-matches : (s t : Sig) → IsSub (extend ctx ks) t s → Matches (extend ctx js) (rename_sig r t) (raise_abs js (Abs.Ex ks s)) (renamed ks r)
  there-matches s t a = matches-renamed ctx ks js r u.there out (rename_sig r t) s (sub-renamed r u.there a)

  back-matches : (s t : Sig) → IsSub (extend ctx ks) s t → Matches (extend ctx ks) s (raise_abs ks (Abs.Ex js (rename_sig r t))) (renamed js q)
  back-matches s t a = matches-renamed ctx js ks q u.back back s (rename_sig r t) (subst (IsSub (extend ctx ks) s) (sym (sig-undone r q u.back_there t)) a)

  ex-both : (s t : Sig) → Both (extend ctx ks) s t → BothAbs ctx (Abs.Ex ks s) (Abs.Ex js (rename_sig r t))
  ex-both s t a = (opened ctx ks (back-matches s t a.0), opened ctx js (there-matches s t a.1))

  impure-both : (s t : Sig) (x y : Abs) → Both (extend ctx ks) s t → BothAbs (extend ctx ks) x y → Both ctx (Sig.Fun Impure ks s x) (Sig.Fun Impure js (rename_sig r t) (rename_abs r y))
  impure-both s t x y a b = (
    IsSub.fun (there-matches s t a.1)
        (IsSubResult.to_impure (subst (λ z. IsSubAbs (extend ctx js) z (rename_abs r y)) (sym (abs-renamed ctx ks js r u.there out x)) (sub_abs-renamed r u.there b.0))),
    IsSub.fun (back-matches s t a.0)
        (IsSubResult.to_impure (subst (λ z. IsSubAbs (extend ctx ks) z x) (sym (abs-renamed ctx js ks q u.back back (rename_abs r y) ∙ abs-undone r q u.back_there y)) b.1)),
  )

mutual
  norm-both : {ctx : List Kind} {s t : Sig} → NormSig ctx s t → WellFormed ctx s → Both ctx s t
  norm-both NormSig.val (WellFormed.val k) = (IsSub.val (c_refl k), IsSub.val (c_refl k))
  norm-both NormSig.typ (WellFormed.typ k) = (IsSub.typ (c_refl k), IsSub.typ (c_refl k))
  norm-both (NormSig.meta n) (WellFormed.meta (explicit w r e)) = let a = norm_abs-both n (abs w) in (IsSub.meta a.0 a.1, IsSub.meta a.1 a.0)
  norm-both (NormSig.str {fs = fs} {gs = gs} n) (WellFormed.str rise w) =
      let a = norm_row-both n w rise fs gs (λ l s h. h) (λ l s h. h) in
      (IsSub.str a.0, IsSub.str a.1)
  norm-both {ctx} (NormSig.pure {ks = ks} {s = s} {t = t} {r = r} {q = q} m n) (WellFormed.pure (explicit w f e) v) =
      let a = norm-both m w in
      let b = norm-both n v in
      (pure-below ctx ks s t r q a.1 b.0, pure-below ctx ks t s q r a.0 b.1)
  norm-both {ctx} (NormSig.impure {ks = ks} {s = s} {t = t} {x = x} {y = y} {order = order} m o n) (WellFormed.impure (explicit w f e) v) =
      impure-both ctx ks (reordered ks order) (renumber ks order) (unnumber ks order) (undone-renumber o ctx) (renumber-outside o) s t x y (norm-both m w) (norm_abs-both n v)

  -- a signature and its norm match each other
  pub norm_abs-both : {ctx : List Kind} {x y : Abs} → Norm ctx x y → WellFormedAbs ctx x → BothAbs ctx x y
  norm_abs-both {ctx} (Norm.ex {ks = ks} {s = s} {t = t} {order = order} m o) (abs w) =
      ex-both ctx ks (reordered ks order) (renumber ks order) (unnumber ks order) (undone-renumber o ctx) (renumber-outside o) s t (norm-both m w)

  norm_row-both : {ctx : List Kind} {fs gs : SigRow} → NormRow ctx fs gs → WellFormedRow ctx fs → Rising fs → (left right : SigRow) → Within fs left → Within gs right → AreSubs ctx left gs × AreSubs ctx right fs
  norm_row-both NormRow.end WellFormedRow.end rise left right h g = (AreSubs.end, AreSubs.end)
  norm_row-both (NormRow.more {l = l} {s = s} {t = t} {fs = fs} {gs = gs} m n) (WellFormedRow.more w ws) rise left right h g =
      let a = norm-both m w in
      let b = norm_row-both n ws rise.1 left right (within-rest l s fs left rise.0 h) (within-rest l t gs right (before-norm l n rise.0) g) in
      (AreSubs.more (h l s HasField.here) a.0 b.0, AreSubs.more (g l t HasField.here) a.1 b.1)

  -- the names stay
  before-norm : {ctx : List Kind} {fs gs : SigRow} (l : Name) → NormRow ctx fs gs → BeforeAll l fs → BeforeAll l gs
  before-norm l NormRow.end b = tt
  before-norm l (NormRow.more m n) b = (b.0, before-norm l n b.1)
