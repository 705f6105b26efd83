-- Separate units that are elaborated apart and linked.
-- Main results: is_linked, kinded_link, typed_link, no_foreign.
use Rattle.std.proofs.Common.{◌≡◌, ◌∙◌, ℕ, suc, ◌+◌, ◌<◌, ◌≤◌, ◌^◌, false, Option, Some, None, List, [], ◌∷◌, ◌++◌, length, take, drop, get_or, map, arith, refl, sym, ap, subst, add-one}
use Rattle.std.specs.Prelude.{MatchOption}
use Rattle.std.proofs.Math.Seq.{take-suc}
use Rattle.std.proofs.lemmas.List.{length-map, map-append, take-append-drop, take_all}
use Rattle.omega_kinds.specs.Name.{Name}
use Rattle.omega_kinds.specs.declared.effect.Effect.{Effect}
use Rattle.omega_types.specs.Ty.{Ty}
use Rattle.omega_terms.specs.Term.{Term}
use Rattle.omega_terms.specs.Typing.{HasType}
use Rattle.sig_definitions.specs.Packing.{Packed}
use Rattle.sig_definitions.specs.Signatures.Encoding.{enc_abs}
use Rattle.sig_definitions.specs.Signatures.Sig.{Abs, Module, made}
use Rattle.sig_definitions.specs.Env.{Env}
use Rattle.sig_laws.specs.Good.{OkEnv, KindedModule}
use Rattle.sig_laws.proofs.Formed.WellFormedShape.{kinded}
use Rattle.omega_checker.specs.Judgment.{Judgment}
use Rattle.fing_syntax.specs.Units.{UnitTree}
use Rattle.elab_laws.proofs.TypedClaims.{whole_is_typed}
use Rattle.refusal_reasons.specs.Refusal.{Refusal as PlainRefusal}
use Rattle.elab_judgments.specs.Judgments.Program.{ProgramRefused}
use Rattle.unit_judgments.specs.Interfaces.{Interface, env_of, sig_in, with_interface}
use Rattle.unit_judgments.specs.Link.{Differs, Foreign, Links, OkUnits, UnitModule, UnitUnder, interface_of, links}
use Rattle.unit_judgments.proofs.Scopes.{env-more}
use Rattle.unit_judgments.proofs.Walks.{link-is-good}
use Rattle.unit_laws.specs.Derived.{UnitMeans, UnitRefused, DerivedUnder, UnitsMean, FirstRefused, DerivesUnits, RefusesUnits}
use Rattle.unit_laws.specs.Units.{unit_name, program_of}
use Rattle.unit_laws.proofs.InOrder.{so-far, one-more, first-stop}
use Rattle.unit_laws.proofs.Apart.{derived-under-is-good, first-is-refused, linked-is-derived, linked-means}
use Rattle.semantic_sigs.specs.Inner.Made.{module_of}
use Rattle.semantic_sigs.specs.declared.made.Module.{Module as CodeModule}
use Rattle.fing_refusals.specs.Inner.Plain.{Says, plain_refusal, want_of_memory}
use Rattle.fing_refusals.specs.declared.refusal.Refusal.{Refusal}
use Rattle.fing_elab.specs.Inner.Units.{MeansUnit, UnitIsRefused}
use Rattle.fing_units.specs.Inner.Units.{unit_of, units_of}
use Rattle.fing_units.proofs.Entering.{first-of}
use Rattle.fing_units.specs.declared.unit_module.UnitModule.{UnitModule as CodeUnit}
use Rattle.fing_top.specs.Inner.Compiled.{IsConfirmed}
use Rattle.fing_top.specs.Inner.Linked.{IsNext}
use Rattle.fing_top.specs.Meaning.{separate_units, Spells}

-- ---- one unit after the other

-- interfaces of units that were elaborated make a good environment
pub good_scope : (under : List Interface) → DerivedUnder under → OkEnv (env_of under)
good_scope under d = (derived-under-is-good under d).1

-- the interfaces of the units so far are those of derived units
pub scope_so_far : (units : List UnitTree) (ms : List UnitModule) (under : List Interface) → UnitsMean [] units ms → under ≡ map interface_of ms → DerivedUnder under
scope_so_far units ms under h e = subst DerivedUnder (sym e) (so-far h)

-- a refusal that says one thing says another
says : (N : Type 0) (P Q : PlainRefusal → Type 0) (o : Option PlainRefusal) → ((r : PlainRefusal) → P r → Q r) → MatchOption o N P → MatchOption o N Q
says N P Q None f h = h
says N P Q (Some r) f h = f r h

pub unit_refused : (g h : Env) (u : UnitTree) (e : Refusal) → g ≡ h → Says e (UnitIsRefused g u) → Says e (UnitRefused h u)
unit_refused g h u e same s =
    says (e ≡ want_of_memory) (UnitIsRefused g u) (UnitRefused h u) (plain_refusal e) (λ r q. subst (λ (k : Env). UnitRefused k u r) same q.refused) s

pub is_next : (g : Env) (under own : List Interface) (name : Name) (u : UnitTree) (m : CodeModule) → g ≡ env_of under → own ≡ under → name ≡ unit_name u → MeansUnit g u (module_of m)
    → IsNext under u (record { under = own; name = name; «module» = m })
is_next g under own name u m same stands named h = record {
  stands = stands;
  name = named;
  means = subst (λ (k : Env). UnitMeans k u (module_of m)) same h.derived;
}

taken_next : {A : Type 0} (n : ℕ) (items : List A) (item : A) → n < length items → item ≡ get_or items n item → take (n + 1) items ≡ take n items ++ item ∷ []
taken_next n items item h is = rw add-one (take-suc items n item h ∙ ap (λ x. take n items ++ x ∷ []) (sym is))

as_unit : (under : List Interface) (u : UnitTree) (next : CodeUnit) → IsNext under u next → unit_of next ≡ UnitUnder under (unit_name u) (module_of next.module)
as_unit under u next x = rw (x.stands, x.name) refl

-- no unit is elaborated yet
pub none_yet : (units : List UnitTree) (done : List CodeUnit) (under : List Interface) (env : Env) → done ≡ [] → under ≡ [] → env ≡ []
    → UnitsMean [] (take 0 units) (units_of done) × (under ≡ map interface_of (units_of done)) × (env ≡ env_of under)
none_yet units done under env p q r = rw (p, q, r) (UnitsMean.none, refl, refl)

-- with one more unit elaborated, the first units mean one module more
pub one_more : (units : List UnitTree) (n : ℕ) (u : UnitTree) (ms : List UnitModule) (under : List Interface) (next : CodeUnit) → n < length units → u ≡ get_or units n u
    → UnitsMean [] (take n units) ms → under ≡ map interface_of ms → IsNext under u next → UnitsMean [] (take (n + 1) units) (ms ++ unit_of next ∷ [])
one_more units n u ms under next h is before same x =
    let m = module_of next.module in
    let means : UnitMeans (env_of (map interface_of ms)) u m = subst (λ (k : List Interface). UnitMeans (env_of k) u m) same x.means in
    let unit : unit_of next ≡ UnitUnder (map interface_of ms) (unit_name u) m = as_unit under u next x ∙ ap (λ (k : List Interface). UnitUnder k (unit_name u) m) same in
    subst (λ (us : List UnitTree). UnitsMean [] us (ms ++ unit_of next ∷ [])) (sym (taken_next n units u h is))
    (subst (λ (v : UnitModule). UnitsMean [] (take n units ++ u ∷ []) (ms ++ v ∷ [])) (sym unit) (one-more u m before means))

-- the units of a list with one more are those of the list and it
pub more_made : (done after : List CodeUnit) (next : CodeUnit) → after ≡ done ++ next ∷ [] → units_of after ≡ units_of done ++ unit_of next ∷ []
more_made done after next e = ap units_of e ∙ map-append unit_of done (next ∷ [])

-- the interfaces of units with one more are those of the units and its own
pub more_under : (ms : List UnitModule) (under after : List Interface) (u : UnitModule) → under ≡ map interface_of ms → after ≡ under ++ interface_of u ∷ [] → after ≡ map interface_of (ms ++ u ∷ [])
more_under ms under after u same e = e ∙ ap (λ (k : List Interface). k ++ interface_of u ∷ []) same ∙ sym (map-append interface_of ms (u ∷ []))

-- its interface stands at the end of the environment too
pub more_scope : (under after : List Interface) (before same env : Env) (next : CodeUnit) → before ≡ env_of under → same ≡ before
    → env ≡ with_interface same next.name (sig_in (module_of next.module)) → after ≡ under ++ interface_of (unit_of next) ∷ [] → env ≡ env_of after
more_scope under after before same env next scope kept pushed more =
    let y = sig_in (module_of next.module) in
    pushed ∙ (ap (λ (g : Env). with_interface g next.name y) (kept ∙ scope) ∙ (sym (env-more under next.name y) ∙ sym (ap env_of more)))

-- when all units are elaborated, they mean the modules
pub all_units : (units : List UnitTree) (n : ℕ) (ms : List UnitModule) → length units ≤ n → UnitsMean [] (take n units) ms → UnitsMean [] units ms
all_units units n ms h m = subst (λ (us : List UnitTree). UnitsMean [] us ms) (take_all n units h) m

-- the refusal of a unit after units that were elaborated is the first of all
pub stops : (units : List UnitTree) (n : ℕ) (u : UnitTree) (ms : List UnitModule) (under : List Interface) (e : Refusal) → n < length units → u ≡ get_or units n u
    → UnitsMean [] (take n units) ms → under ≡ map interface_of ms → Says e (UnitRefused (env_of under) u) → Says e (FirstRefused [] units)
stops units n u ms under e h is before same s =
    let split : take n units ++ u ∷ drop (n + 1) units ≡ units = ap (λ (rest : List UnitTree). take n units ++ rest) (sym (first-of n units u h is)) ∙ take-append-drop n units in
    says (e ≡ want_of_memory) (UnitRefused (env_of under) u) (FirstRefused [] units) (plain_refusal e)
    (λ r q. subst (λ (us : List UnitTree). FirstRefused [] us r) split (first-stop u (drop (n + 1) units) before (subst (λ (k : List Interface). UnitRefused (env_of k) u r) same q))) s

-- ---- the link

-- units that were elaborated one after the other are good
pub fits : {us : List UnitTree} {ms : List UnitModule} → UnitsMean [] us ms → OkUnits ms
fits {us} {ms} h = (linked-is-derived us ms h).fits

-- each stands under the interfaces of those before it
pub none_differs : {us : List UnitTree} {ms : List UnitModule} → UnitsMean [] us ms → (n : ℕ) → Differs ms n → ⊥
none_differs {us} {ms} h = go (linked-is-derived us ms h).links
  where
    go : {m : Module} → Links ms m → (n : ℕ) → Differs ms n → ⊥
    go (links own gives) = own

-- what units that were elaborated one after the other link to has distinct names and normal types
pub kinded_link : {us : List UnitTree} {ms : List UnitModule} (m : Module) → UnitsMean [] us ms → Links ms m → KindedModule [] m
kinded_link {us} {ms} m h k = kinded [] m (link-is-good ms m (fits h) k)

-- the term of linked units has the type of their signature
pub typed_link : {us : List UnitTree} {ms : List UnitModule} (f : Effect) (x : Abs) (ts : List Ty) (d e : Term) → UnitsMean [] us ms → Links ms (made f x ts d) → Packed [] (made f x ts d) e → HasType [] [] e (enc_abs x)
typed_link {us} {ms} f x ts d e h k p = whole_is_typed (program_of us) f x ts d e (linked-means us ms (made f x ts d) e h k p)

-- linked units are confirmed with their term and the encoding of their signature
pub is_linked : {us : List UnitTree} {ms : List UnitModule} (bytes : List ℕ) (f : Effect) (x : Abs) (ts : List Ty) (d e : Term) (j : Judgment)
    → Spells separate_units bytes (program_of us) → UnitsMean [] us ms → Links ms (made f x ts d) → Packed [] (made f x ts d) e → (j.term ≡ e) × (j.ty ≡ enc_abs x)
    → IsConfirmed separate_units false bytes j
is_linked {us} {ms} bytes f x ts d e j s h k p q = record {
  meaning = record { program = program_of us; effect = f; sig = x; types = ts; term = d; whole = e };
  means = record { spelled = s; derived = linked-means us ms (made f x ts d) e h k p };
  term = q.0;
  ty = q.1;
}

-- the refusal of the first unit that is refused is that of the program
pub first_refused : (us : List UnitTree) (r : PlainRefusal) → FirstRefused [] us r → ProgramRefused (program_of us) r
first_refused us r h = (first-is-refused us r h).0

-- ---- the same by the three calls, with an environment for each unit

-- no unit is elaborated yet
pub none_apart : (units : List UnitTree) (done : List CodeUnit) (under : List Interface) → done ≡ [] → under ≡ [] → UnitsMean [] (take 0 units) (units_of done) × (under ≡ map interface_of (units_of done))
none_apart units done under p q = rw (p, q) (UnitsMean.none, refl)

-- there are as many modules as units
same_length : {under : List Interface} {us : List UnitTree} {ms : List UnitModule} → UnitsMean under us ms → length ms ≡ length us
same_length UnitsMean.none = refl
same_length (UnitsMean.next p rest) = ap suc (same_length rest)

-- as many units are made as there are trees
pub few_made : (units : List UnitTree) (done : List CodeUnit) → length units < 2 ^ 32 → UnitsMean [] units (units_of done) → length done < 2 ^ 32
few_made units done h m = omega (arith, h, same_length m, length-map done unit_of)

-- units that were elaborated one after the other have no foreign one
pub no_foreign : {us : List UnitTree} {ms : List UnitModule} → UnitsMean [] us ms → (n : ℕ) → Foreign ms n → ⊥
no_foreign h n f = none_differs h n f.0

-- their link is what the program of the units means
pub link_means : {us : List UnitTree} {ms : List UnitModule} (m : Module) → UnitsMean [] us ms → Links ms m → (e : Term) × DerivesUnits us m e
link_means {us} {ms} m h k =
    let l = linked-is-derived us ms h in
    (l.packed, subst (λ (n : Module). DerivesUnits us n l.packed) (sym (l.only_link m k)) l.means)

-- the first refusal of units is that of their program
pub refuses_units : (us : List UnitTree) (e : Refusal) → Says e (FirstRefused [] us) → Says e (RefusesUnits us)
refuses_units us e s = says (e ≡ want_of_memory) (FirstRefused [] us) (RefusesUnits us) (plain_refusal e) (first_refused us) s
