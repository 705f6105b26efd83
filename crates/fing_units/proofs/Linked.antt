-- Units of the code in their list, and their link from the last one to the first.
-- Main results: foreign-here, none-differs, linked-start, linked-step.
use Rattle.std.proofs.Common.{◌≡◌, ◌≢◌, ◌≤◌, ◌<◌, ◌+◌, ℕ, List, [], ◌∷◌, ◌++◌, length, take, drop, map, get_or, refl, sym, ap, subst, ◌∙◌, arith, append_assoc, append-nil}
use Rattle.std.proofs.lemmas.List.{length-map, map-append, take-append-drop, take_more}
use Rattle.std.proofs.Math.ListN.{length-take}
use Rattle.omega_kinds.specs.Kind.{Kind}
use Rattle.omega_kinds.specs.Name.{Name}
use Rattle.omega_kinds.specs.declared.effect.Effect.{Effect}
use Rattle.omega_kinds.specs.declared.effect.Effect.TheVariants.{Pure}
use Rattle.omega_types.specs.Ty.{Ty}
use Rattle.omega_types.specs.Binders.{extend}
use Rattle.omega_terms.specs.Term.{Term, TermRow}
use Rattle.sig_definitions.specs.Env.{Env, kinds}
use Rattle.sig_definitions.specs.Signatures.FieldOrder.{with_name}
use Rattle.sig_definitions.specs.Signatures.Sig.{Abs, Module, Sig, SigRow, made}
use Rattle.sig_laws.specs.Good.{OkModule}
use Rattle.sig_laws.proofs.Algebra.FormLaws.{kinds-type_vars}
use Rattle.semantic_sigs.specs.Inner.Made.{module_of}
use Rattle.semantic_sigs.specs.Inner.View.{kinds_of}
use Rattle.module_judgments.specs.Sequence.{Collected, Seq}
use Rattle.unit_judgments.specs.Interfaces.{hidden_in, sig_in, with_interface, env_of}
use Rattle.unit_judgments.specs.Link.{UnitModule, interface_of, names_after, Differs, Foreign, Links, OkUnits}
use Rattle.unit_judgments.proofs.Places.{own-at, ok-at, differs-not, differs-below, foreign-at, front-all}
use Rattle.unit_judgments.proofs.Steps.{LinkedFrom, env-next, names-next, unit-good, rest-good, linked-all, linked-end, linked-next}
use Rattle.module_rests.specs.Inner.Rests.{Comes}
use Rattle.module_rests.specs.declared.rests.Rest.{Rest}
use Rattle.fing_units.specs.Inner.Units.{unit_of, units_of}
use Rattle.fing_units.specs.declared.unit_module.UnitModule.{UnitModule as CodeUnit}
use Rattle.fing_units.proofs.Entering.{first-of}

-- the unit at an index, between those before it and those after it
parted : (us : List CodeUnit) (n : ℕ) (u : CodeUnit) → n < length us → u ≡ get_or us n u → units_of us ≡ units_of (take n us) ++ unit_of u ∷ units_of (drop (n + 1) us)
parted us n u h is =
    ap units_of (sym (take-append-drop n us) ∙ ap (λ rest. take n us ++ rest) (first-of n us u h is)) ∙ map-append unit_of (take n us) (u ∷ drop (n + 1) us)

before-length : (us : List CodeUnit) (n : ℕ) → n < length us → length (units_of (take n us)) ≡ n
before-length us n h = simp (length-map, length-take) (omega arith)

-- the search for the first unit that differs

-- a unit that stands under the interfaces of those before it does not differ
pub own-here : (us : List CodeUnit) (n : ℕ) (u : CodeUnit) → n < length us → u ≡ get_or us n u → u.under ≡ map interface_of (units_of (take n us)) → Differs (units_of us) n → ⊥
own-here us n u h is q d = differs-not (units_of (take n us)) (unit_of u) (units_of (drop (n + 1) us)) (parted us n u h is) q (subst (Differs (units_of us)) (sym (before-length us n h)) d)

-- the first unit that stands under other interfaces is foreign
pub foreign-here : (us : List CodeUnit) (n : ℕ) (u : CodeUnit) → n < length us → u ≡ get_or us n u → u.under ≢ map interface_of (units_of (take n us)) → ((m : ℕ) → m < n → Differs (units_of us) m → ⊥) → Foreign (units_of us) n
foreign-here us n u h is d before =
    let l = before-length us n h in
    subst (Foreign (units_of us)) l (foreign-at (units_of (take n us)) (unit_of u) (units_of (drop (n + 1) us)) (parted us n u h is) d (λ m lt. before m (subst (λ k. m < k) l lt)))

-- where none of all units differs, none does
pub none-differs : (us : List CodeUnit) (n : ℕ) → length us ≤ n → ((m : ℕ) → m < n → Differs (units_of us) m → ⊥) → (m : ℕ) → Differs (units_of us) m → ⊥
none-differs us n h before m d = let below = differs-below m d in before m (omega (arith, below, length-map us unit_of)) d

-- the environment and the names of one unit more

taken-more : (us : List CodeUnit) (n : ℕ) (u : CodeUnit) → n < length us → u ≡ get_or us n u → units_of (take (n + 1) us) ≡ units_of (take n us) ++ unit_of u ∷ []
taken-more us n u h is = ap units_of (take_more us n u h ∙ ap (λ v. take n us ++ v ∷ []) (sym is)) ∙ map-append unit_of (take n us) (u ∷ [])

-- one more unit adds its interface to the environment and its name to the names
pub scope-step : (us : List CodeUnit) (n : ℕ) (u : CodeUnit) (before after : Env) (names more : List Name)
    → n < length us → u ≡ get_or us n u
    → after ≡ with_interface before u.name u.module.sig
    → more ≡ with_name u.name names
    → (before ≡ env_of (map interface_of (units_of (take n us)))) × (names ≡ names_after [] (units_of (take n us)))
    → (after ≡ env_of (map interface_of (units_of (take (n + 1) us)))) × (more ≡ names_after [] (units_of (take (n + 1) us)))
scope-step us n u before after names more h is p q i =
    let t = sym (taken-more us n u h is) in
    let front = units_of (take n us) in (
      p ∙ (ap (λ g. with_interface g u.name u.module.sig) i.0 ∙ (sym (env-next front (unit_of u)) ∙ ap (λ xs. env_of (map interface_of xs)) t)),
      q ∙ (ap (λ ns. with_name u.name ns) i.1 ∙ (sym (names-next front (unit_of u)) ∙ ap (λ xs. names_after [] xs) t)),
    )

-- linking

-- the types that a module hides are those that its signature hides
pub hidden-kinds : (f : Effect) (a : Abs) (ts : List Ty) (e : Term) → hidden_in (made f a ts e) ≡ kinds_of a
hidden-kinds f (Abs.Ex ks s) ts e = refl

-- the units at the end are linked behind those that are left
abbrev pub LinkedAll : List UnitModule → List CodeUnit → Module → Type 0
LinkedAll all left m = (back : List UnitModule) × (units_of left ++ back ≡ all) × LinkedFrom (units_of left) back m

-- a rest on the way comes to what the units at the back are linked to
abbrev pub LinkedRest : List UnitModule → List CodeUnit → Rest → Type 0
LinkedRest all left r = (m : Module) × LinkedAll all left m × Comes (kinds (env_of (map interface_of (units_of left)))) r m

-- behind the last unit the link is the structure of all names
pub linked-start : (us : List CodeUnit) (fs : SigRow) (es : TermRow) (m : Module) (r : Rest) → ((n : ℕ) → Differs (units_of us) n → ⊥) → OkUnits (units_of us) → Collected (env_of (map interface_of (units_of us))) (names_after [] (units_of us)) fs es → m ≡ made Pure (Abs.Ex [] (Sig.Str fs)) [] (Term.Fields es)
    → ((ctx : List Kind) → Comes ctx r m) → LinkedRest (units_of us) us r
linked-start us fs es m r h w c e comes = (m, ([], append-nil (units_of us), subst (LinkedFrom (units_of us) []) (sym e) (linked-end (units_of us) (front-all (units_of us) h w) c)), comes (kinds (env_of (map interface_of (units_of us)))))

-- the interface of a unit brings the kinds of what it hides
unit-context : (g : Env) (x : Name) (m : Module) → kinds (with_interface g x (sig_in m)) ≡ extend (kinds g) (hidden_in m)
unit-context g x (made f (Abs.Ex ks s) ts e) = kinds-type_vars g ks

-- one more unit, in a row with what is linked behind it, is linked
pub linked-step : (all : List UnitModule) (left rest : List CodeUnit) (u : CodeUnit) (before after : Rest)
    → left ≡ rest ++ u ∷ []
    → ((n : ℕ) → Differs all n → ⊥)
    → OkUnits all
    → ((ctx : List Kind) (w : Module) → OkModule ctx (module_of u.module) → OkModule (extend ctx (kinds_of u.module.sig)) w → Comes (extend ctx (kinds_of u.module.sig)) before w → (m : Module) × Seq ctx (module_of u.module) w m × Comes ctx after m)
    → LinkedRest all left before
    → LinkedRest all rest after
linked-step all left rest u before after last h good s (w, (back, whole, linked), comes) =
    let front = units_of rest in
    let v = unit_of u in
    let g = env_of (map interface_of front) in
    let split : units_of left ≡ front ++ v ∷ [] = ap units_of last ∙ map-append unit_of rest (u ∷ []) in
    let e : front ++ v ∷ back ≡ all = sym (append_assoc front (v ∷ []) back) ∙ (ap (λ xs. xs ++ back) (sym split) ∙ whole) in
    let own = own-at front v back (sym e) h in
    let ok = ok-at front v back (sym e) good in
    let inner : LinkedFrom (front ++ v ∷ []) back w = subst (λ xs. LinkedFrom xs back w) split linked in
    let hides = hidden-kinds u.module.effect u.module.sig u.module.types u.module.term in
    let under = subst (λ ks. OkModule (extend (kinds g) ks) w) hides (rest-good front v inner) in
    let context : kinds (env_of (map interface_of (units_of left))) ≡ extend (kinds g) (kinds_of u.module.sig) = ap (λ xs. kinds (env_of (map interface_of xs))) split ∙ (ap kinds (env-next front v) ∙ (unit-context g u.name (module_of u.module) ∙ ap (extend (kinds g)) hides)) in
    let q = s (kinds g) w (unit-good front v own ok) under (subst (λ ctx. Comes ctx before w) context comes) in
    (q.0, (v ∷ back, e, linked-next front v back own ok inner q.1), q.2)

none-left : (all : List UnitModule) (left : List CodeUnit) (m : Module) → left ≡ [] → ((n : ℕ) → Differs all n → ⊥) → LinkedAll all left m → Links all m
none-left all left m e h (back, whole, linked) =
    let same : back ≡ all = ap (λ xs. units_of xs ++ back) (sym e) ∙ whole in
    linked-all all m h (subst (λ us. LinkedFrom [] us m) same (subst (λ xs. LinkedFrom (units_of xs) back m) e linked))

pub linked_done : (all : List UnitModule) (left : List CodeUnit) (r : Rest) (m : Module) → left ≡ [] → ((n : ℕ) → Differs all n → ⊥)
    → ((ctx : List Kind) (w : Module) → OkModule ctx w → Comes ctx r w → m ≡ w)
    → LinkedRest all left r → Links all m
linked_done all left r m e h s (w, (back, whole, linked), comes) =
    subst (Links all) (sym (s (kinds (env_of (map interface_of (units_of left)))) w linked.ok comes)) (none-left all left w e h (back, whole, linked))
