-- Units one after the other: one more that is derived, and the first that is refused.
-- Main results: so-far, one-more, first-stop.
use Rattle.std.specs.Prelude.{List, [], ◌∷◌, ◌++◌, ◌≡◌, map}
use Rattle.std.proofs.Common.{append_assoc, append-nil}
use Rattle.std.proofs.Math.Path.{sym, subst}
use Rattle.sig_definitions.specs.Signatures.Sig.{Module}
use Rattle.refusal_reasons.specs.Refusal.{Refusal}
use Rattle.unit_judgments.specs.Interfaces.{Interface, sig_in, env_of}
use Rattle.unit_judgments.specs.Link.{UnitModule, UnitUnder, interface_of}
use Rattle.fing_syntax.specs.Units.{UnitTree}
use Rattle.unit_laws.specs.Units.{unit_name}
use Rattle.unit_laws.specs.Derived.{UnitMeans, UnitRefused, DerivedUnder, UnitsMean, FirstRefused}

-- the interfaces of units that are derived, after those before
derived-more : {under : List Interface} {us : List UnitTree} {ms : List UnitModule} → DerivedUnder under → UnitsMean under us ms → DerivedUnder (under ++ map interface_of ms)
derived-more {under} d UnitsMean.none = subst DerivedUnder (sym (append-nil under)) d
derived-more {under} d (UnitsMean.next {u = u} {m = m} {ms = ms} p q) = subst DerivedUnder (append_assoc under ((unit_name u, sig_in m) ∷ []) (map interface_of ms)) (derived-more (DerivedUnder.more u m d p) q)

-- the interfaces of all units so far are those of derived units
pub so-far : {us : List UnitTree} {ms : List UnitModule} → UnitsMean [] us ms → DerivedUnder (map interface_of ms)
so-far h = derived-more DerivedUnder.nothing h

under-more : (under : List Interface) (i : Interface) (ms : List UnitModule) → under ++ (i ∷ map interface_of ms) ≡ (under ++ i ∷ []) ++ map interface_of ms
under-more under i ms = sym (append_assoc under (i ∷ []) (map interface_of ms))

more : {under : List Interface} {us : List UnitTree} {ms : List UnitModule} (u : UnitTree) (m : Module) → UnitsMean under us ms → UnitMeans (env_of (under ++ map interface_of ms)) u m → UnitsMean under (us ++ u ∷ []) (ms ++ UnitUnder (under ++ map interface_of ms) (unit_name u) m ∷ [])
more {under} u m UnitsMean.none p =
    let e = append-nil under in
    subst (λ is. UnitsMean under (u ∷ []) (UnitUnder is (unit_name u) m ∷ [])) (sym e) (UnitsMean.next (subst (λ is. UnitMeans (env_of is) u m) e p) UnitsMean.none)
more {under} u m (UnitsMean.next {u = v} {us = us} {m = n} {ms = ms} q r) p =
    let i : Interface = (unit_name v, sig_in n) in
    let e = under-more under i ms in
    let rest = more u m r (subst (λ is. UnitMeans (env_of is) u m) e p) in
    UnitsMean.next q (subst (λ is. UnitsMean (under ++ i ∷ []) (us ++ u ∷ []) (ms ++ UnitUnder is (unit_name u) m ∷ [])) (sym e) rest)

-- units that are derived, with one more derived under their interfaces, are derived
pub one-more : {us : List UnitTree} {ms : List UnitModule} (u : UnitTree) (m : Module) → UnitsMean [] us ms → UnitMeans (env_of (map interface_of ms)) u m → UnitsMean [] (us ++ u ∷ []) (ms ++ UnitUnder (map interface_of ms) (unit_name u) m ∷ [])
one-more u m h p = more u m h p

stop : {under : List Interface} {us : List UnitTree} {ms : List UnitModule} {r : Refusal} (u : UnitTree) (rest : List UnitTree) → UnitsMean under us ms → UnitRefused (env_of (under ++ map interface_of ms)) u r → FirstRefused under (us ++ u ∷ rest) r
stop {under} {r = r} u rest UnitsMean.none p = FirstRefused.here (subst (λ is. UnitRefused (env_of is) u r) (append-nil under) p)
stop {under} {r = r} u rest (UnitsMean.next {u = v} {m = n} {ms = ms} q h) p =
    FirstRefused.later q (stop u rest h (subst (λ is. UnitRefused (env_of is) u r) (under-more under (unit_name v, sig_in n) ms) p))

-- a unit that is refused after units that are derived is the first
pub first-stop : {us : List UnitTree} {ms : List UnitModule} {r : Refusal} (u : UnitTree) (rest : List UnitTree) → UnitsMean [] us ms → UnitRefused (env_of (map interface_of ms)) u r → FirstRefused [] (us ++ u ∷ rest) r
first-stop u rest h p = stop u rest h p
