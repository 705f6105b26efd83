-- Units at their places in a list: the one at a place stands under the interfaces of those before it, or differs; and what
-- is good of units of which none differs.
-- Main results: own-at, ok-at, front-all.
use Rattle.std.specs.Prelude.{ℕ, zero, suc, List, [], ◌∷◌, ◌++◌, ◌≡◌, ◌≢◌, ◌<◌, length, map}
use Rattle.std.proofs.Common.{inl, inr, arith, append_assoc, append-nil}
use Rattle.std.proofs.Math.Path.{refl, sym, subst, ◌∙◌}
use Rattle.sig_laws.specs.Good.{OkEnv, Names}
use Rattle.unit_judgments.specs.Interfaces.{Interface, env_of}
use Rattle.unit_judgments.specs.Link.{UnitModule, interface_of, under_of, names_after, Differs, Foreign, OkUnit, OkUnits}
use Rattle.unit_judgments.proofs.Walks.{Own, Walk, FirstWalk, first-walk, walk-of, differs-of, interfaces_dec}
use Rattle.unit_judgments.proofs.Steps.{front-start, front-next, interfaces-more}

-- units of which none differs stand under the interfaces of those before them
pub own-of : (us : List UnitModule) → ((n : ℕ) → Differs us n → ⊥) → Own [] us
own-of us h = go (first-walk us [])
  where
    go : FirstWalk [] us → Own [] us
    go (inl o) = o
    go (inr w) = absurd (h w.0 (differs-of w.1))

-- where no unit differs, each stands under the interfaces of those before it
pub own-at : {us : List UnitModule} (front : List UnitModule) (u : UnitModule) (back : List UnitModule) → us ≡ front ++ u ∷ back → ((n : ℕ) → Differs us n → ⊥) → under_of u ≡ map interface_of front
own-at front u back e h = go (interfaces_dec (under_of u) (map interface_of front))
  where
    go : Dec (under_of u ≡ map interface_of front) → under_of u ≡ map interface_of front
    go (yes q) = q
    go (no d) = absurd (h (length front) (Differs.differs front u back e refl d))

ok-in : (front : List UnitModule) (u : UnitModule) (back : List UnitModule) → OkUnits (front ++ u ∷ back) → OkUnit u
ok-in [] u back w = w.0
ok-in (v ∷ front) u back w = ok-in front u back w.1

-- each of good units is good
pub ok-at : {us : List UnitModule} (front : List UnitModule) (u : UnitModule) (back : List UnitModule) → us ≡ front ++ u ∷ back → OkUnits us → OkUnit u
ok-at front u back e w = ok-in front u back (subst OkUnits e w)

-- a unit that stands under the interfaces of those before it does not differ
walk-not : (front back : List UnitModule) (u : UnitModule) (before : List Interface) → under_of u ≡ before ++ map interface_of front → Walk before (front ++ u ∷ back) (length front) → ⊥
walk-not [] back u before e w = w (e ∙ append-nil before)
walk-not (v ∷ front) back u before e w = walk-not front back u (before ++ interface_of v ∷ []) (e ∙ sym (append_assoc before (interface_of v ∷ []) (map interface_of front))) w

-- a unit that stands under the interfaces of those before it does not differ
pub differs-not : {us : List UnitModule} (front : List UnitModule) (u : UnitModule) (back : List UnitModule) → us ≡ front ++ u ∷ back → under_of u ≡ map interface_of front → Differs us (length front) → ⊥
differs-not front u back e q d = walk-not front back u [] q (subst (λ us. Walk [] us (length front)) e (walk-of d))

-- a unit that differs is one of the list
walk-below : (us : List UnitModule) (before : List Interface) (n : ℕ) → Walk before us n → n < length us
walk-below [] before n w = absurd w
walk-below (u ∷ us) before zero w = omega arith
walk-below (u ∷ us) before (suc n) w = let h = walk-below us (before ++ interface_of u ∷ []) n w in omega (arith, h)

-- a unit that differs is one of the list
pub differs-below : {us : List UnitModule} (n : ℕ) → Differs us n → n < length us
differs-below {us} n d = walk-below us [] n (walk-of d)

-- the first unit that differs
pub foreign-at : {us : List UnitModule} (front : List UnitModule) (u : UnitModule) (back : List UnitModule) → us ≡ front ++ u ∷ back → under_of u ≢ map interface_of front → ((m : ℕ) → m < length front → Differs us m → ⊥) → Foreign us (length front)
foreign-at front u back e d before = (Differs.differs front u back e refl d, before)

-- the environment and the names of units of which none differs are good
front-from : (us front : List UnitModule) → Own (map interface_of front) us → OkUnits us
    → OkEnv (env_of (map interface_of front)) × Names (env_of (map interface_of front)) (names_after [] front)
    → OkEnv (env_of (map interface_of (front ++ us))) × Names (env_of (map interface_of (front ++ us))) (names_after [] (front ++ us))
front-from [] front o w h = subst (λ f. OkEnv (env_of (map interface_of f)) × Names (env_of (map interface_of f)) (names_after [] f)) (sym (append-nil front)) h
front-from (u ∷ us) front o w h =
    subst (λ f. OkEnv (env_of (map interface_of f)) × Names (env_of (map interface_of f)) (names_after [] f)) (append_assoc front (u ∷ []) us)
    (front-from us (front ++ u ∷ []) (subst (λ is. Own is us) (sym (interfaces-more front u)) o.1) w.1 (front-next front u o.0 w.0 h))

-- the interfaces of good units, of which none differs, make a good environment, in which their names are found
pub front-all : (us : List UnitModule) → ((n : ℕ) → Differs us n → ⊥) → OkUnits us → OkEnv (env_of (map interface_of us)) × Names (env_of (map interface_of us)) (names_after [] us)
front-all us h w = front-from us [] (own-of us h) w front-start
