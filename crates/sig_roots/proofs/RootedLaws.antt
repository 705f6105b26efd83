-- A normal type is found to be a variable, applied to the variables of some binders, exactly where it is its eta-long form.
-- Main results: rooted-is, rooted-found.
use Rattle.std.specs.Prelude.{ℕ, zero, suc, ◌+◌, ◌-◌, ◌<◌, ◌≡◌, ◌∷◌, [], List, Option, Some, None}
use Rattle.std.proofs.Common.{arith}
use Rattle.std.proofs.lemmas.Bool.Decides.{nat_tests}
use Rattle.std.proofs.Math.Path.{refl, sym, ap, ap₂, ◌∙◌, subst}
use Rattle.omega_kinds.specs.Kind.{Kind}
use Rattle.omega_types.specs.Ty.{Ty, lift}
use Rattle.omega_types.specs.Substitution.{rename}
use Rattle.omega_types.specs.Kinding.{HasKind}
use Rattle.omega_types.specs.Kinding.HasKind.{k_var, k_lam, k_apply}
use Rattle.omega_types.specs.Conversion.{Conv}
use Rattle.omega_types.specs.Conversion.Conv.{c_refl, c_trans, c_eta, c_lam, c_apply}
use Rattle.omega_types.specs.Normality.{Normal, Neutral, n_var, n_apply}
use Rattle.omega_types.specs.EtaLong.{eta}
use Rattle.omega_types.specs.Normaliser.{normal}
use Rattle.omega_types.proofs.Preservation.{conv-kinds, normal-kind}
use Rattle.omega_types.proofs.Hereditary.{eta-normal}
use Rattle.omega_types.proofs.Inverse.{same-normal}
use Rattle.omega_types.proofs.LawProofs.{normal_of_normal}
use Rattle.omega_types.proofs.BinderLaws.{spread, spread-raised}
use Rattle.sig_laws.proofs.Algebra.EtaLaws.{applied-kinded}
use Rattle.sig_roots.specs.Inner.Rooted.{if_is, rooted, spine}
use Rattle.type_normal.specs.Inner.Least.{outside}

pub outside-past : (count own : ℕ) → outside count (count + own) ≡ Some own
outside-past count own = grind (arith, nat_tests)

pub outside-is : (count index own : ℕ) → outside count index ≡ Some own → index ≡ count + own
outside-is count index own e = grind (arith, nat_tests)

if_is-found : (wanted : ℕ) (found rest : Option ℕ) (own : ℕ) → if_is wanted found rest ≡ Some own → (found ≡ Some wanted) × (rest ≡ Some own)
if_is-found wanted None rest own e = absurd (cc)
if_is-found wanted (Some i) rest own e = (grind (arith, nat_tests), grind (arith, nat_tests))

if_is-here : (wanted : ℕ) (found rest : Option ℕ) → found ≡ Some wanted → if_is wanted found rest ≡ rest
if_is-here wanted None rest e = absurd (cc)
if_is-here wanted (Some i) rest e = grind (arith, nat_tests)

-- what is found is right

lam-conv : {c : List Kind} {k l : Kind} {b o : Ty} → Conv (k ∷ c) b (Ty.Apply (rename suc o) (Ty.Var zero)) l → Conv c (Ty.Lam k b) o (Kind.Arrow k l)
lam-conv {c} {k} {l} {b} {o} h = c_trans (c_lam h) (c_eta (applied-kinded (k ∷ []) o (conv-kinds h).1))

step-shape : (index other next last left : ℕ) → index ≡ other → last ≡ next → Ty.Apply (spread index (suc next) left) (Ty.Var last) ≡ spread other next (suc left)
step-shape index other next last left e g = ap₂ Ty.Apply (ap (λ n. spread n (suc next) left) e) (ap Ty.Var g)

lam-shape : (count own : ℕ) → spread (suc count + own) zero (suc count) ≡ Ty.Apply (rename suc (spread (count + own) zero count)) (Ty.Var zero)
lam-shape count own = ap (λ f. Ty.Apply f (Ty.Var zero)) (ap (λ i. spread i (suc zero) count) (omega arith) ∙ sym (spread-raised (count + own) zero count))

mutual
  -- a type that is found to be a variable applied to those of binders is convertible to it
  pub rooted-conv : {c : List Kind} {k : Kind} (count own : ℕ) (t : Ty) → rooted count t ≡ Some own → HasKind c t k → Conv c t (spread (count + own) zero count) k
  rooted-conv {c} count own (Ty.Lam k b) e (k_lam {l = l} h) =
      lam-conv (subst (λ (o : Ty). Conv (k ∷ c) b o l) (lam-shape count own) (rooted-conv (suc count) own b e h))
  rooted-conv {c} {k} zero own (Ty.Var i) e h = subst (λ (n : ℕ). Conv c (Ty.Var i) (Ty.Var n) k) (outside-is zero i own e) (c_refl h)
  rooted-conv {c} {k} (suc left) own (Ty.Apply f a) e (k_apply g h) =
      let p = if_is-found zero (rooted zero a) (spine (suc zero) left f) own e in
      subst (λ (o : Ty). Conv c (Ty.Apply f a) o k) (step-shape (suc zero + left + own) (suc left + own) zero (zero + zero) left (omega arith) refl)
      (c_apply (spine-conv (suc zero) left own f p.1 g) (rooted-conv zero zero a p.0 h))
  rooted-conv count own t e h = absurd (cc)

  pub spine-conv : {c : List Kind} {k : Kind} (next left own : ℕ) (t : Ty) → spine next left t ≡ Some own → HasKind c t k → Conv c t (spread (next + left + own) next left) k
  spine-conv {c} {k} next zero own (Ty.Var i) e h = subst (λ (n : ℕ). Conv c (Ty.Var i) (Ty.Var n) k) (outside-is next i own e ∙ omega arith) (c_refl h)
  spine-conv {c} {k} next (suc left) own (Ty.Apply f a) e (k_apply g h) =
      let p = if_is-found next (rooted zero a) (spine (suc next) left f) own e in
      subst (λ (o : Ty). Conv c (Ty.Apply f a) o k) (step-shape (suc next + left + own) (next + suc left + own) next (zero + next) left (omega arith) (omega arith))
      (c_apply (spine-conv (suc next) left own f p.1 g) (rooted-conv zero next a p.0 h))
  spine-conv next left own t e h = absurd (cc)

-- what is right is found

pub lift-fixes : (r : ℕ → ℕ) (count : ℕ) → ((x : ℕ) → x < count → r x ≡ x) → (x : ℕ) → x < suc count → lift r x ≡ x
lift-fixes r count h zero lt = refl
lift-fixes r count h (suc x) lt = ap suc (h x (omega arith))

lift-moves : (r : ℕ → ℕ) (count own moved : ℕ) → r (count + own) ≡ count + moved → lift r (suc count + own) ≡ suc count + moved
lift-moves r count own moved e =
    let f : suc count + own ≡ suc (count + own) = omega arith in
    let g : suc (count + moved) ≡ suc count + moved = omega arith in
    ap (lift r) f ∙ (ap suc e ∙ g)

var-moves : (r : ℕ → ℕ) (next after left own moved i : ℕ) → left ≡ zero → r (next + left + own) ≡ after + left + moved → outside next i ≡ Some own → outside after (r i) ≡ Some moved
var-moves r next after left own moved i z h e =
    let f : i ≡ next + left + own = omega (arith, outside-is next i own e) in
    let g : after + left + moved ≡ after + moved = omega arith in
    ap (outside after) (ap r f ∙ (h ∙ g)) ∙ outside-past after moved

mutual
  pub rooted-renamed : (r : ℕ → ℕ) (count own moved : ℕ) (t : Ty) → ((x : ℕ) → x < count → r x ≡ x) → r (count + own) ≡ count + moved → rooted count t ≡ Some own → rooted count (rename r t) ≡ Some moved
  rooted-renamed r count own moved (Ty.Lam k b) h g e = rooted-renamed (lift r) (suc count) own moved b (lift-fixes r count h) (lift-moves r count own moved g) e
  rooted-renamed r zero own moved (Ty.Var i) h g e = var-moves r zero zero zero own moved i refl g e
  rooted-renamed r (suc left) own moved (Ty.Apply f a) h g e =
      let p = if_is-found zero (rooted zero a) (spine (suc zero) left f) own e in
      let first : r zero ≡ zero = h zero (omega arith) in
      let last : r (suc zero + left + own) ≡ suc zero + left + moved = ap r (omega arith) ∙ (g ∙ omega arith) in
      if_is-here zero (rooted zero (rename r a)) (spine (suc zero) left (rename r f)) (rooted-renamed r zero zero zero a (λ x lt. absurd (omega (arith, lt))) first p.0)
      ∙ spine-renamed r (suc zero) (suc zero) left own moved f (λ x lt. h (suc zero + x) (omega (arith, lt))) last p.1
  rooted-renamed r count own moved t h g e = absurd (cc)

  pub spine-renamed : (r : ℕ → ℕ) (next after left own moved : ℕ) (t : Ty) → ((x : ℕ) → x < left → r (next + x) ≡ after + x) → r (next + left + own) ≡ after + left + moved → spine next left t ≡ Some own → spine after left (rename r t) ≡ Some moved
  spine-renamed r next after zero own moved (Ty.Var i) h g e = var-moves r next after zero own moved i refl g e
  spine-renamed r next after (suc left) own moved (Ty.Apply f a) h g e =
      let p = if_is-found next (rooted zero a) (spine (suc next) left f) own e in
      let first : r (zero + next) ≡ zero + after = ap r (omega arith) ∙ (h zero (omega arith) ∙ omega arith) in
      let last : r (suc next + left + own) ≡ suc after + left + moved = ap r (omega arith) ∙ (g ∙ omega arith) in
      if_is-here after (rooted zero (rename r a)) (spine (suc after) left (rename r f)) (rooted-renamed r zero next after a (λ x lt. absurd (omega (arith, lt))) first p.0)
      ∙ spine-renamed r (suc next) (suc after) left own moved f (λ x lt. later x lt) last p.1
    where
      later : (x : ℕ) → x < left → r (suc next + x) ≡ suc after + x
      later x lt = ap r (omega arith) ∙ (h (suc x) (omega (arith, lt)) ∙ omega arith)
  spine-renamed r next after left own moved t h g e = absurd (cc)

rooted-neutral : (count own : ℕ) (n : Ty) → spine zero count n ≡ Some own → rooted count n ≡ Some own
rooted-neutral zero own (Ty.Var i) e = e
rooted-neutral (suc left) own (Ty.Apply f a) e = e
rooted-neutral count own n e = absurd (cc)

rooted-eta : (k : Kind) (count own : ℕ) (n : Ty) → spine zero count n ≡ Some own → rooted count (eta k n) ≡ Some own
rooted-eta Kind.Star count own n e = rooted-neutral count own n e
rooted-eta (Kind.Arrow j l) count own n e =
    rooted-eta l (suc count) own (Ty.Apply (rename suc n) (eta j (Ty.Var zero)))
    (if_is-here zero (rooted zero (eta j (Ty.Var zero))) (spine (suc zero) count (rename suc n)) (rooted-eta j zero zero (Ty.Var zero) refl)
    ∙ spine-renamed suc zero (suc zero) count own own n (λ x lt. omega arith) (omega arith) e)

-- the neutral type with eta-long arguments
abbrev Long : List Kind → Ty → Kind → (next count own : ℕ) → Type 0
Long c t k next count own = (n : Ty) × Neutral c n k × Conv c t n k × (spine next count n ≡ Some own)

long : {c : List Kind} {k : Kind} (index own next count : ℕ) → index ≡ next + count + own → HasKind c (spread index next count) k → Long c (spread index next count) k next count own
long index own next zero e (k_var x) = (Ty.Var index, n_var x, c_refl (k_var x), ap (outside next) (omega arith) ∙ outside-past next own)
long {c} {k} index own next (suc left) e (k_apply {k = j} f (k_var x)) =
    let q = long index own (suc next) left (omega arith) f in
    let a = eta-normal j (n_var x) in
    (Ty.Apply q.0 (eta j (Ty.Var next)), n_apply q.1 a.0, c_apply q.2 a.1, if_is-here next (rooted zero (eta j (Ty.Var next))) (spine (suc next) left q.0) (rooted-eta j zero next (Ty.Var next) (outside-zero next)) ∙ q.3)
  where
    outside-zero : (n : ℕ) → outside zero n ≡ Some n
    outside-zero n = grind (arith, nat_tests)

rooted-long : {c : List Kind} {k : Kind} (count own : ℕ) → HasKind c (spread (count + own) zero count) k → rooted count (normal c (spread (count + own) zero count)) ≡ Some own
rooted-long {c} {k} count own h =
    let q = long (count + own) own zero count (omega arith) h in
    let n = eta-normal k q.1 in
    ap (rooted count) (same-normal (c_trans q.2 n.1) ∙ normal_of_normal c (eta k q.0) k n.0) ∙ rooted-eta k count own q.0 q.3

-- the two together

-- a normal type that is found to be a variable applied to those of binders is the eta-long form of it
pub rooted-is : {c : List Kind} {k : Kind} (count own : ℕ) (t : Ty) → Normal c t k → rooted count t ≡ Some own → t ≡ normal c (spread (count + own) zero count)
rooted-is {c} {k} count own t n e = sym (normal_of_normal c t k n) ∙ same-normal (rooted-conv count own t e (normal-kind n))

-- the eta-long form of a variable, applied to those of binders, is found to be it
pub rooted-found : {c : List Kind} {j : Kind} (count own : ℕ) (t : Ty) → HasKind c (spread (count + own) zero count) j → t ≡ normal c (spread (count + own) zero count) → rooted count t ≡ Some own
rooted-found count own t h e = ap (rooted count) e ∙ rooted-long count own h

-- the steps of the code

-- an operator is applied to one more variable where its body is looked at
pub lam-step : (t b : Ty) (k : Kind) (more count : ℕ) → t ≡ Ty.Lam k b → more ≡ count + 1 → rooted more b ≡ rooted count t
lam-step t b k more count e g = ap (λ n. rooted n b) (g ∙ omega arith) ∙ sym (ap (rooted count) e)

-- an application to the next variable is looked at in its operator
pub apply-step : (t f a : Ty) (next left index : ℕ) (found : Option ℕ) → t ≡ Ty.Apply f a → 0 < left → found ≡ rooted zero a → found ≡ Some index → index ≡ next → spine (next + 1) (left - 1) f ≡ spine next left t
apply-step t f a next zero index found e lt h g i = absurd (omega (arith, lt))
apply-step t f a next (suc left) index found e lt h g i =
    let is : rooted zero a ≡ Some next = sym h ∙ (g ∙ ap Some i) in
    ap₂ (λ n l. spine n l f) (omega arith) (omega arith) ∙ (sym (if_is-here next (rooted zero a) (spine (suc next) left f) is) ∙ sym (ap (spine next (suc left)) e))
