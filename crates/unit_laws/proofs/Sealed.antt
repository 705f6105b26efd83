-- A unit out of its body and its sealing: what it means, how it is refused, and its signature.
-- Main results: sealing-refused, sig-of-unit.
use Rattle.std.specs.Prelude.{List, [], ◌∷◌, ◌++◌, ◌≡◌, Some}
use Rattle.std.proofs.Common.{inl, append-nil}
use Rattle.std.proofs.Math.Path.{refl, subst, sym, ap, ◌∙◌}
use Rattle.omega_kinds.specs.Kind.{Kind}
use Rattle.omega_kinds.specs.declared.effect.Effect.{Effect}
use Rattle.omega_kinds.specs.declared.effect.Effect.TheVariants.{Pure, Impure}
use Rattle.omega_kinds.specs.Name.{Name}
use Rattle.omega_terms.specs.Term.{Term}
use Rattle.sig_definitions.specs.Signatures.Sig.{Sig, Abs, SigRow, HasField, Module, made}
use Rattle.sig_definitions.specs.Env.{Env, kinds, with_module, find}
use Rattle.fing_syntax.specs.Phrase.{Span, SpanName, Mod, ModAt, ModSeal, ModStruct, ModProject, Binds, SigEx}
use Rattle.fing_syntax.specs.Place.{name_of}
use Rattle.refusal_reasons.specs.Refusal.{Refusal}
use Rattle.elab_judgments.specs.Judgments.Meaning.{SigMeans, ModMeans, BindsMean}
use Rattle.elab_judgments.specs.Refusals.Task.{a_mod}
use Rattle.elab_judgments.specs.Refusals.Refused.{Refused}
use Rattle.module_judgments.specs.Sequence.{Seq, Collected, joined}
use Rattle.module_judgments.specs.Projection.{Projected}
use Rattle.module_judgments.proofs.Verdicts.{str-same}
use Rattle.module_judgments.specs.ModRules.{SealGives}
use Rattle.sig_premise_laws.proofs.Environments.{some-same}
use Rattle.sig_laws.proofs.Algebra.PathLaws.{one-field}
use Rattle.unit_judgments.specs.Interfaces.{sig_in, effect_in, hidden_in, with_interface}
use Rattle.unit_judgments.specs.Link.{LinkGives}
use Rattle.unit_laws.specs.Units.{sealed, unit_sealing, sealing_name, unit_result}
use Rattle.unit_laws.specs.Derived.{UnitSig, unit_sig}
use Rattle.unit_laws.specs.Claims.{SigOfUnit}
use Rattle.unit_laws.proofs.Bindings.{nil-view, nil-means, binds-view, binds-next, first-refused, rest-refused}

-- what a unit means, out of what its parts mean: its body, its sealing under the body, the end of the structure of both, the
-- two sequences, and the field that is left
pub unit-means : {g : Env} {at : Span} {a : SigEx} {b : Mod} {M N end rest whole result : Module}
    → ModMeans g b M
    → ModMeans (with_interface g sealing_name (sig_in M)) (unit_sealing at a) N
    → LinkGives (with_interface (with_interface g sealing_name (sig_in M)) unit_result (sig_in N)) (unit_result ∷ sealing_name ∷ []) [] end
    → Seq (kinds (with_interface g sealing_name (sig_in M))) N end rest
    → Seq (kinds g) M rest whole
    → Projected (kinds g) whole unit_result result
    → ModMeans g (sealed at b a) result
unit-means {M = M} {N = N} p q l r s t = ModMeans.mod_project (ModMeans.mod_struct (binds-next M p (binds-next N q (nil-means l) r) s)) t

-- a unit is refused as its body is, and as its sealing is under the body
pub body-refused : {g : Env} {at : Span} {a : SigEx} {b : Mod} {r : Refusal} → Refused g (a_mod b) r → Refused g (a_mod (sealed at b a)) r
body-refused h = Refused.inside (inl (refl, refl)) (Refused.inside (inl (refl, refl)) (first-refused h))

-- a unit is refused where its sealing is
pub sealing-refused : {g : Env} {at : Span} {a : SigEx} {b : Mod} {r : Refusal} (M : Module) → ModMeans g b M → Refused (with_interface g sealing_name (sig_in M)) (a_mod (unit_sealing at a)) r → Refused g (a_mod (sealed at b a)) r
sealing-refused M p h = Refused.inside (inl (refl, refl)) (Refused.inside (inl (refl, refl)) (rest-refused M p (first-refused h)))

-- the signature of a unit

-- the body of a module's signature
abbrev pub body_in : Module → Sig
body_in (made f (Abs.Ex ks s) ts e) = s

abs-of : (M : Module) → sig_in M ≡ Abs.Ex (hidden_in M) (body_in M)
abs-of (made f (Abs.Ex ks s) ts e) = refl

-- a sequence has the effects and the hidden types of both, and the body of the rest
record Sequence_ (M rest whole : Module) : Type 0 where
  effects : effect_in whole ≡ joined (effect_in M) (effect_in rest)
  hidden : hidden_in whole ≡ hidden_in M ++ hidden_in rest
  last : body_in whole ≡ body_in rest

seq-view : {ctx : List Kind} {M rest whole : Module} → Seq ctx M rest whole → Sequence_ M rest whole
seq-view (Seq.both_pure a b i) = record { effects = refl; hidden = refl; last = refl }
seq-view (Seq.some_impure j p q r) = record { effects = sym j; hidden = refl; last = refl }

-- a module in a row with a rest has the signature body of the rest
pub body-same : {ctx : List Kind} {M rest whole : Module} → Seq ctx M rest whole → body_in whole ≡ body_in rest
body-same q = (seq-view q).last

-- a field has the effect and the hidden types of its module
record Field (M N : Module) (l : Name) : Type 0 where
  effects : effect_in N ≡ effect_in M
  hidden : hidden_in N ≡ hidden_in M
  fields : SigRow
  whole : body_in M ≡ Sig.Str fields
  field : HasField fields l (body_in N)

project-view : {g : Env} {at : Span} {m : Mod} {x : SpanName} {N : Module} → ModMeans g (ModAt at (ModProject m x)) N → (M : Module) × ModMeans g m M × Field M N (name_of x)
project-view (ModMeans.mod_project p (Projected.pure {fs = fs} h)) = (_, p, record { effects = refl; hidden = refl; fields = fs; whole = refl; field = h })
project-view (ModMeans.mod_project p (Projected.impure {fs = fs} h k)) = (_, p, record { effects = refl; hidden = refl; fields = fs; whole = refl; field = h })

struct-view : {g : Env} {at : Span} {bs : Binds} {M : Module} → ModMeans g (ModAt at (ModStruct bs)) M → BindsMean g [] bs M
struct-view (ModMeans.mod_struct h) = h

seal-view : {g : Env} {at : Span} {x : SpanName} {a : SigEx} {N : Module} → ModMeans g (ModAt at (ModSeal x a)) N → SigMeans g a (sig_in N) × (effect_in N ≡ Pure)
seal-view (ModMeans.mod_seal f a m SealGives.seal) = (a, refl)

-- the end of a structure of two names, the first of which was bound last
end-view : {g : Env} {l : Name} {names : List Name} {end : Module} → LinkGives g (l ∷ names) [] end → (effect_in end ≡ Pure) × (hidden_in end ≡ []) × ((fs : SigRow) → body_in end ≡ Sig.Str fs → (s : Sig) → HasField fs l s → (e : Term) × (find g l ≡ Some (s, e)))
end-view {g} {l} (LinkGives.end (Collected.next {s = s} {e = e} {fs = rest} f c)) = (refl, refl, λ fs q t h. (e, f ∙ ap (λ u. Some (u, e)) (one-field HasField.here (subst (λ row. HasField row l t) (sym (str-same q)) h) refl)))

last-found : (g : Env) (N : Module) (s : Sig) (e : Term) → find (with_interface g unit_result (sig_in N)) unit_result ≡ Some (s, e) → s ≡ body_in N
last-found g (made f (Abs.Ex ks t) ts d) s e q = ap (λ (o : Sig × Term). o.0) (sym (some-same q))

joined-pure : (f h k : Effect) → h ≡ Pure → k ≡ Pure → joined f (joined h k) ≡ f
joined-pure Pure h k p q = ap (λ x. joined x k) p ∙ q
joined-pure Impure h k p q = refl

signature : (g : Env) (at : Span) (x : SpanName) (a : SigEx) (b : Mod) (m M N end rest W : Module)
    → ModMeans g b M
    → ModMeans (with_interface g sealing_name (sig_in M)) (unit_sealing at a) N
    → LinkGives (with_interface (with_interface g sealing_name (sig_in M)) unit_result (sig_in N)) (unit_result ∷ sealing_name ∷ []) [] end
    → Seq (kinds (with_interface g sealing_name (sig_in M))) N end rest
    → Seq (kinds g) M rest W
    → Field W m unit_result
    → UnitSig g at x a b m
signature g at x a b m (made f (Abs.Ex ks s) ts e) (made h (Abs.Ex js t) us d) end rest W p q l r w field =
    let outer = with_module g ks sealing_name s in
    let sv = seal-view q in
    let ev = end-view l in
    let inner = seq-view r in
    let whole = seq-view w in
    let found = ev.2 field.fields (sym (whole.last ∙ inner.last) ∙ field.whole) (body_in m) field.field in
    let last : body_in m ≡ t = last-found outer (made h (Abs.Ex js t) us d) (body_in m) found.0 found.1 in
    let hidden : hidden_in m ≡ ks ++ js = field.hidden ∙ (whole.hidden ∙ ap (λ is. ks ++ is) (inner.hidden ∙ (ap (λ is. js ++ is) ev.1 ∙ append-nil js))) in
    let effects : effect_in m ≡ f = field.effects ∙ (whole.effects ∙ (ap (joined f) inner.effects ∙ joined-pure f h (effect_in end) sv.1 ev.0)) in
    unit_sig p sv.0 (abs-of m ∙ (λ i. Abs.Ex (hidden i) (last i))) effects

-- a unit's signature is the written one, with the types that its body hides before its own
pub sig-of-unit : SigOfUnit
sig-of-unit g at x a b m h =
    let v = project-view h in
    let o = binds-view (struct-view v.1) in
    let i = binds-view o.3 in
    signature g at x a b m o.0 i.0 i.1 o.1 v.0 o.2 i.2 (nil-view i.3) i.4 o.4 v.2
