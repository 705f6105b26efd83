-- Signatures whose hidden types are rooted at the same paths: the other way round, renamed, and their functors' parameters.
-- Main results: same-aligned.
use Rattle.std.specs.Prelude.{ℕ, zero, suc, ◌<◌, ◌≤◌, List, ◌≡◌, ◌≢◌, length}
use Rattle.std.proofs.Common.{arith}
use Rattle.std.proofs.Math.Path.{refl, sym, subst}
use Rattle.omega_kinds.specs.Kind.{Kind}
use Rattle.omega_kinds.specs.declared.effect.Effect.{Effect}
use Rattle.omega_kinds.specs.declared.effect.Effect.TheVariants.{Pure, Impure}
use Rattle.omega_kinds.specs.Name.{Name}
use Rattle.omega_types.specs.Binders.{extend, own, lifts}
use Rattle.sig_definitions.specs.Signatures.Sig.{Sig, Abs, SigRow, HasField, here, there}
use Rattle.sig_definitions.specs.Signatures.SigSubst.{rename_sig, rename_abs, rename_sig_row}
use Rattle.sig_definitions.specs.Explicit.SigPath.{SigPath}
use Rattle.sig_definitions.specs.Explicit.RootPath.{Rooted}
use Rattle.sig_definitions.specs.Explicit.WellFormed.{EachRooted, WellFormed, explicit}
use Rattle.sig_package_laws.specs.Conditions.{SameNumbers, EachAbs, EachSig, SameAbs, SameSig}
use Rattle.sig_explicit_laws.proofs.Positions.{own-below}
use Rattle.sig_explicit_laws.proofs.Liftings.{lifts-below}
use Rattle.sig_norm_laws.proofs.Norm.NormRenamed.{Undone, turned, undone-lifts, undone-sig}
use Rattle.sig_norm_laws.proofs.Orders.Aligned.{Joined, Aligned}
use Rattle.sig_laws.proofs.Formed.Conditions.{row-field}
use Rattle.sig_explicit_laws.proofs.Moves.{rooted-renamed}
use Rattle.sig_laws.proofs.Formed.RootNumbers.{rooted-of}

mutual
  -- signatures that are rooted alike are so the other way round
  pub same-flip : {ctx other : List Kind} {s t : Sig} → SameSig ctx other s t → SameSig other ctx t s
  same-flip EachSig.val = EachSig.val
  same-flip EachSig.typ = EachSig.typ
  same-flip (EachSig.meta x) = EachSig.meta (same_abs-flip x)
  same-flip (EachSig.str h) = EachSig.str (λ l s t f g. same-flip (h l t s g f))
  same-flip (EachSig.pure (n, m) a b) = EachSig.pure (m, n) (same-flip a) (same-flip b)
  same-flip (EachSig.impure a b) = EachSig.impure (same_abs-flip a) (same_abs-flip b)
  same-flip (EachSig.mixed h) = EachSig.mixed (λ e. h (sym e))

  -- signatures that hide types and are rooted alike are so the other way round
  pub same_abs-flip : {ctx other : List Kind} {x y : Abs} → SameAbs ctx other x y → SameAbs other ctx y x
  same_abs-flip (EachAbs.ex (f, g) a) = EachAbs.ex (g, f) (same-flip a)

-- own variables are rooted at the same paths in a renamed signature

-- a renaming from outside that can be undone keeps what is rooted at a path
pub own-renamed : (ctx other ks : List Kind) {s : Sig} (r q : ℕ → ℕ) → Undone ctx other r q → (i : ℕ) (p : SigPath) → i < length ks → Rooted (extend ctx ks) s (own ks i) p → Rooted (extend other ks) (rename_sig (lifts ks r) s) (own ks i) p
own-renamed ctx other ks {s} r q u i p lt x = subst (λ n. Rooted (extend other ks) (rename_sig (lifts ks r) s) n p) (lifts-below ks r (own ks i) (own-below ks i lt)) (rooted-renamed (lifts ks r) (undone-lifts ks u).there x)

pub own-renamed_back : (ctx other ks : List Kind) {s : Sig} (r q : ℕ → ℕ) → Undone ctx other r q → (i : ℕ) (p : SigPath) → i < length ks → Rooted (extend other ks) (rename_sig (lifts ks r) s) (own ks i) p → Rooted (extend ctx ks) s (own ks i) p
own-renamed_back ctx other ks {s} r q u i p lt x = subst (λ z. Rooted (extend ctx ks) z (own ks i) p) (undone-sig (undone-lifts ks u) s) (own-renamed other ctx ks q r (turned u) i p lt x)

-- a field found after a renaming comes from one before it
pub field-renamed : (r : ℕ → ℕ) (fs : SigRow) {l : Name} {t : Sig} → HasField (rename_sig_row r fs) l t → (s : Sig) × HasField fs l s × (t ≡ rename_sig r s)
field-renamed r SigRow.End h = elim h [ ]
field-renamed r (SigRow.More m s rest) here = (s, here, refl)
field-renamed r (SigRow.More m s rest) (there n h) = let q = field-renamed r rest h in (q.0, there n q.1, q.2)

mutual
  -- a renaming that can be undone keeps signatures rooted alike
  pub same-renamed : {ctx other third : List Kind} {s t : Sig} (r q : ℕ → ℕ) → Undone other third r q → SameSig ctx other s t → SameSig ctx third s (rename_sig r t)
  same-renamed r q u EachSig.val = EachSig.val
  same-renamed r q u EachSig.typ = EachSig.typ
  same-renamed r q u (EachSig.meta x) = EachSig.meta (same_abs-renamed r q u x)
  same-renamed {ctx} {third = third} r q u (EachSig.str {gs = gs} h) = EachSig.str (λ l s t f g. let w = field-renamed r gs g in subst (SameSig ctx third s) (sym w.2) (same-renamed r q u (h l s w.0 f w.1)))
  same-renamed {ctx} {other} {third} r q u (EachSig.pure {ks = ks} {js = js} (n, m) a b) = EachSig.pure
      (λ i p lt x. let w = n i p lt x in (w.0, own-renamed other third js r q u i p w.0 w.1), λ i p lt x. m i p lt (own-renamed_back other third js r q u i p lt x))
      (same-renamed (lifts js r) (lifts js q) (undone-lifts js u) a)
      (same-renamed (lifts js r) (lifts js q) (undone-lifts js u) b)
  same-renamed r q u (EachSig.impure {js = js} a b) = EachSig.impure (same_abs-renamed r q u a) (same_abs-renamed (lifts js r) (lifts js q) (undone-lifts js u) b)
  same-renamed r q u (EachSig.mixed h) = EachSig.mixed h

  -- a renaming that can be undone keeps signatures that hide types rooted alike
  pub same_abs-renamed : {ctx other third : List Kind} {x y : Abs} (r q : ℕ → ℕ) → Undone other third r q → SameAbs ctx other x y → SameAbs ctx third x (rename_abs r y)
  same_abs-renamed {ctx} {other} {third} r q u (EachAbs.ex {ks = ks} {js = js} (f, g) a) = EachAbs.ex
      (λ p x. let w = f p x in (w.0, w.1, own-renamed other third js r q u w.0 p w.1 w.2), λ p x. g p (x.0, x.1, own-renamed_back other third js r q u x.0 p x.1 x.2))
      (same-renamed (lifts js r) (lifts js q) (undone-lifts js u) a)

-- parameters with the same numbers are joined

pub below-all : (a b : ℕ) → ((i : ℕ) → i < a → i < b) → a ≤ b
below-all zero b h = omega arith
below-all (suc a) b h = let e = h a (omega arith) in omega (arith, e)

joined : (ctx ks : List Kind) (s : Sig) (other js : List Kind) (t : Sig) → EachRooted ctx ks s → EachRooted other js t → SameNumbers ctx ks s other js t → SameNumbers other js t ctx ks s → Joined ctx ks s other js t
joined ctx ks s other js t e f n m =
    let a = below-all (length ks) (length js) (λ i lt. let b = e i lt in (n i b.0 lt (rooted-of b.1)).0) in
    let b = below-all (length js) (length ks) (λ i lt. let b = f i lt in (m i b.0 lt (rooted-of b.1)).0) in
    (omega (arith, a, b), λ i lt. let b = e i lt in (b.0, rooted-of b.1, (n i b.0 lt (rooted-of b.1)).1))

mixed-aligned : {ctx other ks js : List Kind} {s t : Sig} {x y : Abs} (e d : Effect) → e ≢ d → Aligned ctx other (Sig.Fun e ks s x) (Sig.Fun d js t y)
mixed-aligned Pure Pure h = absurd (h refl)
mixed-aligned Pure Impure h = Aligned.a_right
mixed-aligned Impure d h = Aligned.a_left

-- well formed signatures that are rooted alike are aligned
pub same-aligned : {ctx other : List Kind} {s t : Sig} → SameSig ctx other s t → WellFormed ctx s → WellFormed other t → Aligned ctx other s t
same-aligned EachSig.val w v = Aligned.a_val
same-aligned EachSig.typ w v = Aligned.a_typ
same-aligned (EachSig.meta x) w v = Aligned.a_meta
same-aligned (EachSig.str h) (WellFormed.str r w) (WellFormed.str q v) = Aligned.a_str (λ l s t f g. same-aligned (h l s t f g) (row-field w f) (row-field v g))
same-aligned {ctx} {other} (EachSig.pure {ks = ks} {js = js} {s = s} {t = t} (n, m) a b) (WellFormed.pure (explicit w r e) w') (WellFormed.pure (explicit v q f) v') = Aligned.a_pure (joined ctx ks s other js t e f n m) (same-aligned a w v) (same-aligned b w' v')
same-aligned (EachSig.impure a b) w v = Aligned.a_left
same-aligned (EachSig.mixed {e = e} {d = d} h) w v = mixed-aligned e d h
