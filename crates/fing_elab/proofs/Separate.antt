-- One meaning or one refusal of each separate unit, as the code answers it.
-- Main results: unit-meaning, refused-unit, part-is, both-joined.
use Rattle.std.proofs.Common.{◌≡◌, ◌+◌, List, ◌∷◌, [], IfSome, Option, Some, None, length, drop, map, refl, sym, subst, ◌∙◌}
use Rattle.omega_kinds.specs.Kind.{Kind}
use Rattle.omega_kinds.specs.Name.{Name}
use Rattle.omega_kinds.specs.View.{kind_tree}
use Rattle.omega_kinds.specs.declared.kind.Kind.{Kind as KindHandle}
use Rattle.omega_types.specs.Binders.{extend}
use Rattle.omega_terms.specs.Term.{Term, TermRow}
use Rattle.omega_kinds.specs.declared.effect.Effect.TheVariants.{Pure}
use Rattle.sig_definitions.specs.Env.{Env, kinds}
use Rattle.sig_definitions.specs.Signatures.Sig.{Abs, Module, Sig, SigRow, made}
use Rattle.sig_definitions.specs.Verdict.{holds, refuses}
use Rattle.sig_laws.specs.Good.{KindedModule, Names, OkEnv, OkModule}
use Rattle.sig_laws.proofs.Formed.WellFormedShape.{kinded}
use Rattle.semantic_sigs.specs.Inner.Made.{module_of}
use Rattle.semantic_sigs.specs.Inner.View.{kinds_of}
use Rattle.semantic_sigs.specs.declared.made.Module.{Module as CodeModule}
use Rattle.fing_syntax.specs.Phrase.{Span, Spelled, Mod, ModAt, ModSeal, SigEx}
use Rattle.fing_syntax.specs.Units.{UnitTree}
use Rattle.module_judgments.specs.ModRules.{ProjectRefuses}
use Rattle.module_judgments.specs.ModWhy.{ModWhy}
use Rattle.module_judgments.specs.Projection.{Projected}
use Rattle.module_judgments.specs.Sequence.{Collected, Seq}
use Rattle.module_rules.specs.Inner.Plain.{plain_why, want_of_memory}
use Rattle.module_rules.specs.declared.refusal.ModRefusal.{ModRefusal}
use Rattle.module_rules.specs.declared.refusal.ModRefusal.TheVariants as refusal
use Rattle.refusal_reasons.specs.Refusal.{Refusal}
use Rattle.elab_judgments.specs.Judgments.Meaning.{ModMeans}
use Rattle.elab_judgments.specs.Refusals.Task.{a_mod}
use Rattle.elab_exact.specs.Claims.{Exactly}
use Rattle.elab_exact.proofs.Theorems.{each-answered}
use Rattle.fing_refusals.specs.Inner.Plain.{Says}
use Rattle.fing_refusals.specs.declared.refusal.Refusal.{Refusal as CodeRefusal}
use Rattle.elab_rules.specs.Inner.Answered.{RefusedAs}
use Rattle.elab_phrases.proofs.Included.{left-under}
use Rattle.elab_rules.proofs.Placing.{says-map}
use Rattle.unit_judgments.specs.Interfaces.{hidden_in, sig_in, with_interface}
use Rattle.unit_judgments.specs.Link.{LinkGives}
use Rattle.unit_judgments.proofs.Sequences.{seq-ok}
use Rattle.fing_units.proofs.Linked.{hidden-kinds}
use Rattle.unit_laws.specs.Derived.{UnitMeans, UnitRefused}
use Rattle.unit_laws.specs.Inner.Sealing.{Joins}
use Rattle.unit_laws.specs.Units.{sealed, sealing_name, unit_mod, unit_result}
use Rattle.unit_laws.proofs.Composed.{after_body, after_both, body-env, both-names, Parts, unit-found, unit-of}
use Rattle.unit_laws.proofs.Sealed.{body-refused, sealing-refused}
use Rattle.fing_elab.specs.Inner.Units.{MeansUnit, UnitIsRefused}

-- what a unit means in a good environment is what it means as a separate one
pub unit-meaning : (g : Env) (u : UnitTree) (m : Module) → OkEnv g → UnitMeans g u m → MeansUnit g u m
unit-meaning g u m h p = go (each-answered g (a_mod (unit_mod u)) h tt)
  where
    go : Exactly g (a_mod (unit_mod u)) → MeansUnit g u m
    go (refuses r w only never) = absurd (never m p)
    go (holds n w only never) = record { derived = p; only = λ k q. only k q ∙ sym (only m p); unrefused = never }

unit-refusal : (g : Env) (u : UnitTree) (r : Refusal) → OkEnv g → UnitRefused g u r → UnitIsRefused g u r
unit-refusal g u r h p = go (each-answered g (a_mod (unit_mod u)) h tt)
  where
    go : Exactly g (a_mod (unit_mod u)) → UnitIsRefused g u r
    go (holds n w only never) = absurd (never r p)
    go (refuses s w only never) = record { refused = p; only = λ q k. only q k ∙ sym (only r p); meaningless = never }

-- a refusal of a unit's module phrase in a good environment is that of the unit
pub refused-unit : (g : Env) (u : UnitTree) (e : CodeRefusal) → OkEnv g → RefusedAs g (a_mod (unit_mod u)) e → Says e (UnitIsRefused g u)
refused-unit g u e h p = says-map e (λ r. unit-refusal g u r h) p.stands

-- a refusal of the body, or of the sealing under it, is one of the unit

-- a unit is refused where its body is
pub in-body : {g : Env} {b : Mod} {e : CodeRefusal} (at : Span) (a : SigEx) → RefusedAs g (a_mod b) e → RefusedAs g (a_mod (sealed at b a)) e
in-body {e = e} at a h = record { stands = says-map e (λ r. body-refused) h.stands }

-- a unit is refused where its sealing is, in the environment after its body
pub in-sealing : {g h : Env} {at : Span} {a : SigEx} {e : CodeRefusal} (b : Mod) (M : Module) (x : Name) → h ≡ after_body g M → x ≡ sealing_name → ModMeans g b M → RefusedAs h (a_mod (ModAt at (ModSeal (Spelled x at) a))) e → RefusedAs g (a_mod (sealed at b a)) e
in-sealing {at = at} {a = a} {e = e} b M x same named p k = record { stands = says-map e (λ r. sealing-refused M p) (rw (same, named) at k).stands }

-- what a unit is made of, as the calls give it
pub parts-of : {g h k : Env} {at : Span} {a : SigEx} {b : Mod} (x y : Name) (M N end : Module) (fs : SigRow) (es : TermRow)
    → OkEnv g → ModMeans g b M
    → x ≡ sealing_name → h ≡ after_body g M → ModMeans h (ModAt at (ModSeal (Spelled x at) a)) N
    → y ≡ unit_result → k ≡ after_both g M N → Collected k (y ∷ x ∷ []) fs es
    → end ≡ made Pure (Abs.Ex [] (Sig.Str fs)) [] (Term.Fields es)
    → Parts g at a b M N end
parts-of {g} {at = at} {a = a} x y M N end fs es good p named inner q found outer c e = record {
  good = good;
  body = p;
  sealing = rw (inner, named) at q;
  ended = subst (LinkGives (after_both g M N) (unit_result ∷ sealing_name ∷ []) []) (sym e) (LinkGives.end (rw (outer, named, found) at c));
}

-- the part that is taken is the unit, and it is always there

-- the result that is projected from the structure of a unit's body and sealing is what the unit means
pub part-is : {g : Env} {at : Span} {a : SigEx} {b : Mod} {M N end m : Module} (y : Name) → y ≡ unit_result → Parts g at a b M N end → ((ctx : List Kind) → Joins ctx M N end (λ whole. Projected ctx whole y m)) → ModMeans g (sealed at b a) m
part-is {g} {M = M} {N = N} {end = end} {m = m} y named p j = unit-of g p (subst (λ y. Joins (kinds g) M N end (λ whole. Projected (kinds g) whole y m)) named (j (kinds g)))

-- the projection of a unit's result is not refused, except for want of memory
pub part-found : {g : Env} {at : Span} {a : SigEx} {b : Mod} {M N end : Module} (y : Name) → y ≡ unit_result → Parts g at a b M N end → (e : ModRefusal) → IfSome (plain_why e) (λ why. (ctx : List Kind) → Joins ctx M N end (λ whole. ProjectRefuses whole y why)) → plain_why e ≡ None
part-found {g} {M = M} {N = N} {end = end} y named p e h = go (plain_why e) h
  where
    go : (o : Option ModWhy) → IfSome o (λ why. (ctx : List Kind) → Joins ctx M N end (λ whole. ProjectRefuses whole y why)) → o ≡ None
    go None h = refl
    go (Some why) h = absurd (unit-found g p (subst (λ y. Joins (kinds g) M N end (λ whole. ProjectRefuses whole y why)) named (h (kinds g))))

-- what is no reason is want of memory
pub memory-only : (e : ModRefusal) → (e ≡ want_of_memory → ⊥) → plain_why e ≡ None → ⊥
memory-only (refusal.Unbound x) n h = absurd cc
memory-only (refusal.NoPart x) n h = absurd cc
memory-only refusal.NotStructure n h = absurd cc
memory-only refusal.NotFunctor n h = absurd cc
memory-only refusal.WrongPath n h = absurd cc
memory-only refusal.Escapes n h = absurd cc
memory-only refusal.Mem n h = n refl

-- the environments along the way

-- the environment after a unit's body, as the code makes it
pub after-body : {g h k : Env} (x : Name) (M : Module) → h ≡ g → x ≡ sealing_name → k ≡ with_interface h x (sig_in M) → k ≡ after_body g M
after-body x M p q e = e ∙ (λ i. with_interface (p i) (q i) (sig_in M))

-- the environment after a unit's body and sealing, as the code makes it
pub after-both : {h k : Env} (g : Env) (x : Name) (M N : Module) → h ≡ after_body g M → x ≡ unit_result → k ≡ with_interface h x (sig_in N) → k ≡ after_both g M N
after-both g x M N p q e = e ∙ (λ i. with_interface (p i) (q i) (sig_in N))

-- what an interface brought is taken away again
pub left-interface : (g : Env) (x : Name) (a : Abs) (items : List KindHandle) (before after : Env)
    → map kind_tree items ≡ kinds_of a → before ≡ with_interface g x a → after ≡ drop (length items + 1) before → after ≡ g
left-interface g x (Abs.Ex ks s) items before after = left-under g items ks x s before after

-- the environment after a unit's body is good
pub good-body : {g h : Env} (b : Mod) (M : Module) → h ≡ after_body g M → OkEnv g → ModMeans g b M → OkEnv h
good-body {g} b M e h p = subst OkEnv (sym e) (body-env g b M h p)

-- the hidden names of a unit's sealing and body are found after both, and rise
pub good-names : {h : Env} (g : Env) (x y : Name) (M N : Module) → h ≡ after_both g M N → x ≡ unit_result → y ≡ sealing_name → Names h (x ∷ y ∷ [])
good-names g x y M N e p q = rw (e, p, q) (both-names g M N)

-- two bindings and their end, as the calls join them

abbrev pub SeqOf : (first rest whole : CodeModule) → Type 0
SeqOf first rest whole = (ctx : List Kind) → KindedModule ctx (module_of first) → KindedModule (extend ctx (kinds_of first.sig)) (module_of rest) → Seq ctx (module_of first) (module_of rest) (module_of whole)

under-kinds : (ctx : List Kind) (m : CodeModule) (R : Module) → OkModule (extend ctx (hidden_in (module_of m))) R → KindedModule (extend ctx (kinds_of m.sig)) R
under-kinds ctx m R h = subst (λ ks. KindedModule (extend ctx ks) R) (hidden-kinds m.effect m.sig m.types m.term) (kinded (extend ctx (hidden_in (module_of m))) R h)

sequence-ok : (ctx : List Kind) (M R W : Module) → OkModule ctx M → OkModule (extend ctx (hidden_in M)) R → Seq ctx M R W → OkModule ctx W
sequence-ok ctx (made f (Abs.Ex ks s) ts e) R W a b q = seq-ok ctx ks f s ts e a b q

-- what holds of the row of a body, a sealing and their end, where it is good, holds of the one that the calls give
pub both-joined : (first second end rest whole : CodeModule) (P : Module → Type 0) (ctx : List Kind)
    → SeqOf second end rest
    → SeqOf first rest whole
    → (OkModule ctx (module_of whole) → P (module_of whole))
    → Joins ctx (module_of first) (module_of second) (module_of end) P
both-joined first second end rest whole P ctx r w h a b c =
    let under = extend ctx (hidden_in (module_of first)) in
    let q = r under (kinded under (module_of second) b) (under-kinds under second (module_of end) c) in
    let ok = sequence-ok under (module_of second) (module_of end) (module_of rest) b c q in
    let p = w ctx (kinded ctx (module_of first) a) (under-kinds ctx first (module_of rest) ok) in
    record { rest = module_of rest; whole = module_of whole; inner = q; outer = p; holds = h (sequence-ok ctx (module_of first) (module_of rest) (module_of whole) a ok p) }
