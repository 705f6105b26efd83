-- Which unit is foreign, by a walk; linking is exact, and looks at interfaces alone.
-- Main results: link-is-exact, link-is-good, interfaces-suffice.
use Rattle.std.specs.Prelude.{ℕ, zero, suc, List, [], ◌∷◌, ◌++◌, ◌≡◌, ◌≢◌, ◌<◌, ◌⊎◌, length, map}
use Rattle.std.proofs.Common.{inl, inr, arith, append_assoc, append-nil}
use Rattle.std.proofs.Math.Path.{refl, sym, subst, ap, ◌∙◌}
use mathlib.Core.List.{List-discrete}
use Rattle.omega_kinds.proofs.NameLaws.{dec_name}
use Rattle.sig_definitions.specs.Signatures.Sig.{Module}
use Rattle.sig_definitions.specs.Env.{kinds}
use Rattle.sig_definitions.specs.Verdict.{Verdict, holds, refuses}
use Rattle.sig_laws.specs.Good.{OkModule}
use Rattle.sig_laws.proofs.Formed.Forms.{abs_dec}
use Rattle.unit_judgments.specs.Interfaces.{Interface, sig_in, env_of}
use Rattle.unit_judgments.specs.Link.{LinkGives, UnitModule, UnitUnder, named, interface_of, under_of, Differs, Foreign, Links, links, OkUnits, Replaces}
use Rattle.unit_judgments.specs.Claims.{LinkIsExact, LinkIsGood, InterfacesSuffice}
use Rattle.unit_judgments.proofs.Scopes.{env-more}
use Rattle.unit_judgments.proofs.OneLink.{GoodNamed, OneLink, link-one}

-- units that stand under the interfaces of those before them, and under those before the list
abbrev pub Own : List Interface → List UnitModule → Type 0
Own before [] = Unit {0}
Own before (u ∷ us) = (under_of u ≡ before) × Own (before ++ interface_of u ∷ []) us

-- good units that stand under the interfaces of those before them are good modules to link
pub own-good : (us : List UnitModule) (before : List Interface) → OkUnits us → Own before us → GoodNamed (env_of before) (map named us)
own-good [] before w h = tt
own-good (UnitUnder under x M ∷ us) before w h =
    (subst (λ b. OkModule (kinds (env_of b)) M) h.0 w.0, subst (λ g. GoodNamed g (map named us)) (env-more before x (sig_in M)) (own-good us (before ++ (x, sig_in M) ∷ []) w.1 h.1))

-- where a unit differs, by a walk

-- the unit of a number stands under other interfaces than those before it
abbrev pub Walk : List Interface → List UnitModule → ℕ → Type 0
Walk before [] n = ⊥
Walk before (u ∷ us) zero = under_of u ≢ before
Walk before (u ∷ us) (suc n) = Walk (before ++ interface_of u ∷ []) us n

nil-cons : {A : Type 0} (x : A) (xs : List A) → [] ≡ x ∷ xs → ⊥
nil-cons x xs e = cc

first-same : {A : Type 0} {x y : A} {xs ys : List A} → x ∷ xs ≡ y ∷ ys → x ≡ y
first-same e = cc

rest-same : {A : Type 0} {x y : A} {xs ys : List A} → x ∷ xs ≡ y ∷ ys → xs ≡ ys
rest-same e = cc

walk-at : (us front back : List UnitModule) (u : UnitModule) (before : List Interface) → us ≡ front ++ u ∷ back → under_of u ≢ before ++ map interface_of front → Walk before us (length front)
walk-at [] [] back u before e d = nil-cons u back e
walk-at [] (w ∷ front) back u before e d = nil-cons w (front ++ u ∷ back) e
walk-at (w ∷ us) [] back u before e d = λ q. d (ap under_of (sym (first-same e)) ∙ (q ∙ sym (append-nil before)))
walk-at (w ∷ us) (x ∷ front) back u before e d =
    walk-at us front back u (before ++ interface_of w ∷ []) (rest-same e)
    (λ q. d (q ∙ (append_assoc before (interface_of w ∷ []) (map interface_of front) ∙ ap (λ y. before ++ interface_of y ∷ map interface_of front) (first-same e))))

walked : (us : List UnitModule) (before : List Interface) (n : ℕ) → Walk before us n → (front : List UnitModule) × (u : UnitModule) × (back : List UnitModule) × (us ≡ front ++ u ∷ back) × (length front ≡ n) × (under_of u ≢ before ++ map interface_of front)
walked [] before n h = absurd h
walked (w ∷ us) before zero h = ([], w, us, refl, refl, λ q. h (q ∙ append-nil before))
walked (w ∷ us) before (suc n) h =
    let r = walked us (before ++ interface_of w ∷ []) n h in
    (w ∷ r.0, r.1, r.2, ap (λ ys. w ∷ ys) r.3, ap suc r.4, λ q. r.5 (q ∙ sym (append_assoc before (interface_of w ∷ []) (map interface_of r.0))))

-- a unit that differs is found by the walk
pub walk-of : {us : List UnitModule} {n : ℕ} → Differs us n → Walk [] us n
walk-of {us} (Differs.differs front u back e l d) = subst (Walk [] us) l (walk-at us front back u [] e d)

-- what the walk finds is a unit that differs
pub differs-of : {us : List UnitModule} {n : ℕ} → Walk [] us n → Differs us n
differs-of {us} {n} h = let r = walked us [] n h in Differs.differs r.0 r.1 r.2 r.3 r.4 r.5

own-walk : (us : List UnitModule) (before : List Interface) (n : ℕ) → Own before us → Walk before us n → ⊥
own-walk [] before n h w = w
own-walk (u ∷ us) before zero h w = w h.0
own-walk (u ∷ us) before (suc n) h w = own-walk us (before ++ interface_of u ∷ []) n h.1 w

-- where each unit stands under the interfaces of those before it, none differs
pub own-same : (us : List UnitModule) → Own [] us → (n : ℕ) → Differs us n → ⊥
own-same us h n d = own-walk us [] n h (walk-of d)

-- what units link to is the link of their modules
pub links-gives : {us : List UnitModule} {m : Module} → Links us m → LinkGives [] [] (map named us) m
links-gives (links d l) = l

links-same : {us : List UnitModule} {m : Module} → Links us m → (n : ℕ) → Differs us n → ⊥
links-same (links d l) = d

-- the first unit that differs, or none

-- whether two lists of interfaces are the same is decided
pub interfaces_dec : (is js : List Interface) → Dec (is ≡ js)
interfaces_dec = List-discrete interface_dec
  where
    interface_dec : (i j : Interface) → Dec (i ≡ j)
    interface_dec i j = go (dec_name i.0 j.0) (abs_dec i.1 j.1)
      where
        go : Dec (i.0 ≡ j.0) → Dec (i.1 ≡ j.1) → Dec (i ≡ j)
        go (no n) d = no (λ e. n (ap (λ (k : Interface). k.0) e))
        go (yes a) (no n) = no (λ e. n (ap (λ (k : Interface). k.1) e))
        go (yes a) (yes b) = yes (λ t. (a t, b t))

-- all units stand under the interfaces of those before them, or there is a first one that does not
abbrev pub FirstWalk : List Interface → List UnitModule → Type 0
FirstWalk before us = Own before us ⊎ ((n : ℕ) × Walk before us n × ((m : ℕ) → m < n → Walk before us m → ⊥))

-- all units stand under the interfaces of those before them, or there is a first one that does not
pub first-walk : (us : List UnitModule) (before : List Interface) → FirstWalk before us
first-walk [] before = inl tt
first-walk (u ∷ us) before = go (interfaces_dec (under_of u) before) (first-walk us (before ++ interface_of u ∷ []))
  where
    go : Dec (under_of u ≡ before) → FirstWalk (before ++ interface_of u ∷ []) us → FirstWalk before (u ∷ us)
    go (no d) r = inr (zero, d, λ m lt w. absurd (omega (arith, lt)))
    go (yes e) (inl h) = inl (e, h)
    go (yes e) (inr w) = inr (suc w.0, w.1, earlier)
      where
        earlier : (m : ℕ) → m < suc w.0 → Walk before (u ∷ us) m → ⊥
        earlier zero lt v = v e
        earlier (suc m) lt v = w.2 m (omega (arith, lt)) v

-- linking is exact

first-equal : (n m : ℕ) → (n < m → ⊥) → (m < n → ⊥) → n ≡ m
first-equal n m f g = omega (arith, f, g)

-- good units have exactly one link, or one first foreign unit
pub link-is-exact : LinkIsExact
link-is-exact us w = go (first-walk us [])
  where
    go : FirstWalk [] us → Verdict (Links us) (Foreign us)
    go (inl h) = holds l.whole (links (own-same us h) l.gives) (λ m k. l.only m (links-gives k)) (λ n f. own-same us h n f.0)
      where
        l : OneLink [] [] (map named us)
        l = link-one (map named us) [] [] tt (tt, tt) (own-good us [] w h)
    go (inr r) = refuses r.0 (differs-of r.1, (λ m lt d. r.2 m lt (walk-of d))) same (λ m k. links-same k r.0 (differs-of r.1))
      where
        same : (n : ℕ) → Foreign us n → n ≡ r.0
        same n f = first-equal n r.0 (λ lt. r.2 n lt (walk-of f.0)) (λ lt. f.1 r.0 lt (differs-of r.1))

-- the link is good

-- what good units link to is good
pub link-is-good : LinkIsGood
link-is-good us m w k = go (first-walk us [])
  where
    go : FirstWalk [] us → OkModule [] m
    go (inr r) = absurd (links-same k r.0 (differs-of r.1))
    go (inl h) = subst (OkModule []) (sym (l.only m (links-gives k))) l.ok
      where
        l : OneLink [] [] (map named us)
        l = link-one (map named us) [] [] tt (tt, tt) (own-good us [] w h)

-- units that differ in another than their interface

walk-replaced : (front back : List UnitModule) (u v : UnitModule) (before : List Interface) (n : ℕ) → Replaces u v → Walk before (front ++ u ∷ back) n → Walk before (front ++ v ∷ back) n
walk-replaced [] back u v before zero r w = λ e. w (r.under ∙ e)
walk-replaced [] back u v before (suc n) r w = subst (λ i. Walk (before ++ i ∷ []) back n) r.shown w
walk-replaced (x ∷ front) back u v before zero r w = w
walk-replaced (x ∷ front) back u v before (suc n) r w = walk-replaced front back u v (before ++ interface_of x ∷ []) n r w

replaces-sym : {u v : UnitModule} → Replaces u v → Replaces v u
replaces-sym r = record { under = sym r.under; shown = sym r.shown }

foreign-replaced : (front back : List UnitModule) (u v : UnitModule) (n : ℕ) → Replaces u v → Foreign (front ++ u ∷ back) n → Foreign (front ++ v ∷ back) n
foreign-replaced front back u v n r f =
    (differs-of (walk-replaced front back u v [] n r (walk-of f.0)), λ m lt d. f.1 m lt (differs-of (walk-replaced front back v u [] m (replaces-sym r) (walk-of d))))

links-replaced : (front back : List UnitModule) (u v : UnitModule) → Replaces u v → OkUnits (front ++ v ∷ back) → (m : Module) → Links (front ++ u ∷ back) m → (n : Module) × Links (front ++ v ∷ back) n
links-replaced front back u v r w m k = go (link-is-exact (front ++ v ∷ back) w)
  where
    go : Verdict (Links (front ++ v ∷ back)) (Foreign (front ++ v ∷ back)) → (n : Module) × Links (front ++ v ∷ back) n
    go (holds n l only never) = (n, l)
    go (refuses n f only never) = absurd (links-same k n (foreign-replaced front back v u n (replaces-sym r) f).0)

-- in the place of a unit another one of its interface links with the same others
pub interfaces-suffice : InterfacesSuffice
interfaces-suffice front back u v r a b = record {
  there = links-replaced front back u v r b;
  back = links-replaced front back v u (replaces-sym r) a;
  foreign = λ n. foreign-replaced front back u v n r;
  foreign_back = λ n. foreign-replaced front back v u n (replaces-sym r);
}
