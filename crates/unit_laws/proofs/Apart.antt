-- What units mean apart is what their program means.
-- Main results: linked-is-derived, derived-is-linked, first-is-refused, each-list.
use Rattle.std.specs.Prelude.{List, [], ◌∷◌, ◌++◌, ◌≡◌, ◌⊎◌, map}
use Rattle.std.proofs.Common.{inl, inr}
use Rattle.std.proofs.Math.Path.{refl, sym, subst, ap, ◌∙◌}
use Rattle.omega_kinds.specs.Name.{Name}
use Rattle.omega_terms.specs.Term.{Term}
use Rattle.sig_definitions.specs.Signatures.Sig.{Module}
use Rattle.sig_definitions.specs.Signatures.FieldOrder.{with_name}
use Rattle.sig_definitions.specs.Env.{kinds}
use Rattle.sig_definitions.specs.Packing.{Packed}
use Rattle.sig_definitions.specs.Verdict.{holds, refuses, One}
use Rattle.fing_syntax.specs.Phrase.{Binds}
use Rattle.fing_syntax.specs.Place.{name_of}
use Rattle.refusal_reasons.specs.Refusal.{Refusal}
use Rattle.elab_judgments.specs.Judgments.Meaning.{BindsMean}
use Rattle.elab_judgments.specs.Judgments.Program.{ProgramMeans}
use Rattle.elab_judgments.specs.Refusals.Task.{a_mod, binds}
use Rattle.elab_judgments.specs.Refusals.Refused.{Refused}
use Rattle.sig_premise_laws.proofs.Determined.{packed-one}
use Rattle.sig_laws.specs.Good.{OkEnv, OkModule}
use Rattle.elab_laws.proofs.Kept.{mod_ok}
use Rattle.elab_exact.specs.Claims.{ProgramExactly}
use Rattle.elab_exact.proofs.Theorems.{total, outcomes-equal, each-answered, each-program}
use Rattle.unit_judgments.specs.Interfaces.{Interface, OkInterfaces, sig_in, env_of}
use Rattle.unit_judgments.specs.Link.{LinkGives, UnitModule, UnitUnder, named, Links, links, OkUnits}
use Rattle.fing_syntax.specs.Units.{UnitTree, UnitAt}
use Rattle.unit_laws.specs.Units.{unit_name, unit_mod, program_of}
use Rattle.unit_laws.specs.Derived.{UnitMeans, UnitRefused, DerivedUnder, UnitsMean, FirstRefused, DerivesUnits, RefusesUnits}
use Rattle.unit_laws.specs.Claims.{Linked, LinkedIsDerived, DerivedIsLinked, FirstIsRefused, RefusedIsFirst, EachList, DerivedUnderIsGood}
use Rattle.unit_judgments.proofs.Scopes.{interfaces-ok-more, sig-ok, env-more, more-ok}
use Rattle.unit_judgments.proofs.OneLink.{OneLink, link-view, link-one}
use Rattle.unit_judgments.proofs.Walks.{Own, own-good, own-same, links-gives}
use Rattle.unit_laws.proofs.Bindings.{nil-view, nil-means, binds-view, binds-next, first-refused, rest-refused}

unit-ok : (under : List Interface) (u : UnitTree) (M : Module) → OkEnv (env_of under) → UnitMeans (env_of under) u M → OkModule (kinds (env_of under)) M
unit-ok under u M h p = mod_ok (env_of under) (unit_mod u) M h p

pub next-ok : (under : List Interface) (u : UnitTree) (M : Module) → OkEnv (env_of under) → UnitMeans (env_of under) u M → OkEnv (env_of (under ++ (unit_name u, sig_in M) ∷ []))
next-ok under u M h p = more-ok under (unit_name u) M h (unit-ok under u M h p)

pub derived-ok : (under : List Interface) → DerivedUnder under → OkEnv (env_of under)
derived-ok _ DerivedUnder.nothing = tt
derived-ok _ (DerivedUnder.more {under = under} u m d p) = next-ok under u m (derived-ok under d) p

-- what units mean apart is what their program means

pub derive : {under : List Interface} {us : List UnitTree} {ms : List UnitModule} (names : List Name) (m : Module) → UnitsMean under us ms → LinkGives (env_of under) names (map named ms) m → BindsMean (env_of under) names (program_of us) m
derive names m UnitsMean.none l = nil-means l
derive {under} names m (UnitsMean.next {u = UnitAt at x a b} {us = us} {m = M} {ms = ms} p q) l =
    let v = link-view l in
    let e = env-more under (name_of x) (sig_in M) in
    binds-next M p (subst (λ g. BindsMean g (with_name (name_of x) names) (program_of us) v.0) e (derive (with_name (name_of x) names) v.0 q (subst (λ g. LinkGives g (with_name (name_of x) names) (map named ms) v.0) (sym e) v.1))) v.2

pub apart : (us : List UnitTree) (under : List Interface) (names : List Name) (m : Module) → BindsMean (env_of under) names (program_of us) m → (ms : List UnitModule) × UnitsMean under us ms × LinkGives (env_of under) names (map named ms) m
apart [] under names m h = ([], UnitsMean.none, nil-view h)
apart (UnitAt at x a b ∷ us) under names m h =
    let v = binds-view h in
    let e = env-more under (name_of x) (sig_in v.0) in
    let r = apart us (under ++ (name_of x, sig_in v.0) ∷ []) (with_name (name_of x) names) v.1 (subst (λ g. BindsMean g (with_name (name_of x) names) (program_of us) v.1) (sym e) v.3) in
    (UnitUnder under (name_of x) v.0 ∷ r.0, UnitsMean.next v.2 r.1, LinkGives.next (subst (λ g. LinkGives g (with_name (name_of x) names) (map named r.0) v.1) e r.2) v.4)

-- refusals

pub refuse : {under : List Interface} {us : List UnitTree} {r : Refusal} (names : List Name) → FirstRefused under us r → Refused (env_of under) (binds names (program_of us)) r
refuse names (FirstRefused.here {u = UnitAt at x a b} h) = first-refused h
refuse {under} {r = r} names (FirstRefused.later {u = UnitAt at x a b} {us = us} {m = M} p h) =
    rest-refused M p (subst (λ g. Refused g (binds (with_name (name_of x) names) (program_of us)) r) (env-more under (name_of x) (sig_in M)) (refuse (with_name (name_of x) names) h))

-- each list is derived, or one of its units is the first that is refused
abbrev Decided : List Interface → List UnitTree → Type 0
Decided under us = ((ms : List UnitModule) × UnitsMean under us ms) ⊎ ((r : Refusal) × FirstRefused under us r)

after-unit : (under : List Interface) (u : UnitTree) (us : List UnitTree) (M : Module) → UnitMeans (env_of under) u M → Decided (under ++ (unit_name u, sig_in M) ∷ []) us → Decided under (u ∷ us)
after-unit under u us M p (inl w) = inl (UnitUnder under (unit_name u) M ∷ w.0, UnitsMean.next p w.1)
after-unit under u us M p (inr w) = inr (w.0, FirstRefused.later p w.1)

decide : (us : List UnitTree) (under : List Interface) → OkEnv (env_of under) → Decided under us
decide [] under h = inl ([], UnitsMean.none)
decide (u ∷ us) under h = go (total (env_of under) (a_mod (unit_mod u)) h tt) (λ M p. decide us (under ++ (unit_name u, sig_in M) ∷ []) (next-ok under u M h p))
  where
    go : ((M : Module) × UnitMeans (env_of under) u M) ⊎ ((r : Refusal) × UnitRefused (env_of under) u r) → ((M : Module) → UnitMeans (env_of under) u M → Decided (under ++ (unit_name u, sig_in M) ∷ []) us) → Decided under (u ∷ us)
    go (inr q) f = inr (q.0, FirstRefused.here q.1)
    go (inl q) f = after-unit under u us q.0 q.1 (f q.0 q.1)

-- units that are derived are derived in one way

units-none : {under : List Interface} {ms : List UnitModule} → UnitsMean under [] ms → ms ≡ []
units-none UnitsMean.none = refl

units-view : {under : List Interface} {u : UnitTree} {us : List UnitTree} {ms : List UnitModule} → UnitsMean under (u ∷ us) ms → (M : Module) × (ns : List UnitModule) × UnitMeans (env_of under) u M × UnitsMean (under ++ (unit_name u, sig_in M) ∷ []) us ns × (ms ≡ UnitUnder under (unit_name u) M ∷ ns)
units-view (UnitsMean.next {m = M} {ms = ms} p q) = (M, ms, p, q, refl)

units-one : (us : List UnitTree) (under : List Interface) (ms ns : List UnitModule) → OkEnv (env_of under) → UnitsMean under us ms → UnitsMean under us ns → ns ≡ ms
units-one [] under ms ns h p q = units-none q ∙ sym (units-none p)
units-one (u ∷ us) under ms ns h p q =
    let v = units-view p in
    let w = units-view q in
    let e : w.0 ≡ v.0 = outcomes-equal (env_of under) (a_mod (unit_mod u)) h tt w.0 v.0 w.2 v.2 in
    let d : w.1 ≡ v.1 = units-one us (under ++ (unit_name u, sig_in v.0) ∷ []) v.1 w.1 (next-ok under u v.0 h v.2) v.3 (subst (λ M. UnitsMean (under ++ (unit_name u, sig_in M) ∷ []) us w.1) e w.3) in
    w.4 ∙ ((λ i. UnitUnder under (unit_name u) (e i) ∷ d i) ∙ sym v.4)

units-ok : {under : List Interface} {us : List UnitTree} {ms : List UnitModule} → OkEnv (env_of under) → UnitsMean under us ms → OkUnits ms
units-ok h UnitsMean.none = tt
units-ok {under} h (UnitsMean.next {u = u} {m = M} p q) = (unit-ok under u M h p, units-ok (next-ok under u M h p) q)

units-own : {under : List Interface} {us : List UnitTree} {ms : List UnitModule} → UnitsMean under us ms → Own under ms
units-own UnitsMean.none = tt
units-own (UnitsMean.next p q) = (refl, units-own q)

-- the theorems

program-view : {bs : Binds} {m : Module} {e : Term} → ProgramMeans bs m e → BindsMean [] [] bs m × Packed [] m e
program-view (ProgramMeans.program p q) = (p, q)

-- units that are derived apart have one link, which is what their program means, and nothing else
pub linked-is-derived : LinkedIsDerived
linked-is-derived us ms h = go (each-program (program_of us))
  where
    l : OneLink [] [] (map named ms)
    l = link-one (map named ms) [] [] tt (tt, tt) (own-good ms [] (units-ok tt h) (units-own h))

    p : One (Packed [] l.whole)
    p = packed-one [] l.whole l.ok

    means : DerivesUnits us l.whole p.0
    means = ProgramMeans.program (derive [] l.whole h l.gives) p.1

    go : ProgramExactly (program_of us) → Linked us ms
    go (refuses r q only never) = absurd (never (l.whole, p.0) means)
    go (holds o q only never) = record {
      whole = l.whole;
      packed = p.0;
      fits = units-ok tt h;
      links = links (own-same ms (units-own h)) l.gives;
      only_link = λ m k. l.only m (links-gives k);
      packs = p.1;
      means = means;
      only = λ m e d.
          let a : (m, e) ≡ (l.whole, p.0) = only (m, e) d ∙ sym (only (l.whole, p.0) means) in
          (ap (λ (y : Module × Term). y.0) a, ap (λ (y : Module × Term). y.1) a);
      unrefused = never;
    }

-- any link of the units, with its packed term
pub linked-means : (us : List UnitTree) (ms : List UnitModule) (m : Module) (e : Term) → UnitsMean [] us ms → Links ms m → Packed [] m e → DerivesUnits us m e
linked-means us ms m e h k p = ProgramMeans.program (derive [] m h (links-gives k)) p

-- a program of units that means something is the link of units that are derived apart, and of no others
pub derived-is-linked : DerivedIsLinked
derived-is-linked us m e h =
    let r = apart us [] [] m (program-view h).0 in
    (r.0, r.1, links (own-same r.0 (units-own r.1)) r.2, λ ns d. units-one us [] r.0 ns tt r.1 d)

-- the first refusal of units is that of their program, which has no other and means nothing
pub first-is-refused : FirstIsRefused
first-is-refused us r h = go (each-program (program_of us))
  where
    refused : RefusesUnits us r
    refused = refuse [] h

    go : ProgramExactly (program_of us) → RefusesUnits us r × ((q : Refusal) → RefusesUnits us q → q ≡ r) × ((m : Module) (e : Term) → DerivesUnits us m e → ⊥)
    go (holds o q only never) = absurd (never r refused)
    go (refuses s q only never) = (refused, (λ t d. only t d ∙ sym (only r refused)), λ m e d. never (m, e) d)

-- each unit of a list is derived, or one is the first that is refused
pub each-list : EachList
each-list us = decide us [] tt

-- the refusal of a program of units is that of the first unit which is refused
pub refused-is-first : RefusedIsFirst
refused-is-first us r h = go (each-list us)
  where
    go : ((ms : List UnitModule) × UnitsMean [] us ms) ⊎ ((q : Refusal) × FirstRefused [] us q) → FirstRefused [] us r
    go (inl w) = absurd ((linked-is-derived us w.0 w.1).unrefused r h)
    go (inr w) = subst (FirstRefused [] us) (sym ((first-is-refused us w.0 w.1).1 r h)) w.1

derived-interfaces : (under : List Interface) → DerivedUnder under → OkInterfaces [] under
derived-interfaces _ DerivedUnder.nothing = tt
derived-interfaces _ (DerivedUnder.more {under = under} u m d p) = interfaces-ok-more [] under (unit_name u, sig_in m) (derived-interfaces under d) (sig-ok m (unit-ok under u m (derived-ok under d) p))

-- interfaces of derived units are well formed, and in their environment a unit has exactly one outcome
pub derived-under-is-good : DerivedUnderIsGood
derived-under-is-good under d = let h = derived-ok under d in (derived-interfaces under d, h, λ u. each-answered (env_of under) (a_mod (unit_mod u)) h tt)
