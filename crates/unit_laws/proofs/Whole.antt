-- A unit whose body and sealing are derived is derived, so it is refused in one of the two and nowhere else.
-- Main results: unit-total, unit-refusals, first-field.
use Rattle.std.specs.Prelude.{List, [], ◌∷◌, ◌≡◌, ◌⊎◌}
use Rattle.std.proofs.Common.{inl, inr}
use Rattle.std.proofs.Math.Path.{refl, sym, subst, ◌∙◌}
use Rattle.omega_kinds.specs.Kind.{Kind}
use Rattle.omega_kinds.specs.Name.{Name}
use Rattle.sig_definitions.specs.Signatures.Sig.{Sig, Abs, SigRow, HasField, Module, made}
use Rattle.sig_definitions.specs.Env.{Env, kinds}
use Rattle.fing_syntax.specs.Phrase.{Span, Mod, SigEx}
use Rattle.refusal_reasons.specs.Refusal.{Refusal}
use Rattle.elab_judgments.specs.Judgments.Meaning.{ModMeans}
use Rattle.elab_judgments.specs.Refusals.Task.{a_mod}
use Rattle.elab_judgments.specs.Refusals.Refused.{Refused}
use Rattle.module_judgments.specs.Sequence.{Collected}
use Rattle.module_judgments.specs.Projection.{Projected}
use Rattle.module_judgments.proofs.Determined.{projected-one}
use Rattle.sig_laws.specs.Good.{OkAbs, OkEnv, OkModule}
use Rattle.elab_laws.proofs.Kept.{mod_ok}
use Rattle.elab_exact.proofs.Theorems.{total, exclusive, refusals-equal}
use Rattle.unit_judgments.specs.Interfaces.{sig_in, with_interface}
use Rattle.unit_judgments.specs.Link.{LinkGives}
use Rattle.unit_laws.specs.Units.{unit_sealing, sealing_name, unit_result, sealed}
use Rattle.unit_judgments.proofs.Scopes.{interface-ok}
use Rattle.unit_judgments.proofs.OneLink.{link-view, link-one}
use Rattle.unit_laws.proofs.Sealed.{unit-means, body-refused, sealing-refused, body_in, body-same}

-- the end of a structure has a field of its first name
pub first-field : {g : Env} {l : Name} {names : List Name} {end : Module} → LinkGives g (l ∷ names) [] end → (fs : SigRow) × (s : Sig) × (body_in end ≡ Sig.Str fs) × HasField fs l s
first-field (LinkGives.end (Collected.next {l = l} {s = s} {fs = rest} f c)) = (SigRow.More l s rest, s, refl, HasField.here)

field-of : (ctx : List Kind) (W : Module) (l : Name) (fs : SigRow) (t : Sig) → OkModule ctx W → body_in W ≡ Sig.Str fs → HasField fs l t → (N : Module) × Projected ctx W l N
field-of ctx (made f (Abs.Ex ks s) ts e) l fs t w q h =
    let o = projected-one ctx ks f fs ts e l t (subst (λ s. OkAbs ctx (Abs.Ex ks s)) q w.0) h in
    subst (λ s. (N : Module) × Projected ctx (made f (Abs.Ex ks s) ts e) l N) (sym q) (o.0, o.1)

pub unit-total : (g : Env) (at : Span) (a : SigEx) (b : Mod) (M N : Module) → OkEnv g → ModMeans g b M → ModMeans (with_interface g sealing_name (sig_in M)) (unit_sealing at a) N → (m : Module) × ModMeans g (sealed at b a) m
unit-total g at a b M N h p q =
    let w = mod_ok g b M h p in
    let inner = interface-ok g sealing_name M h w in
    let v = mod_ok (with_interface g sealing_name (sig_in M)) (unit_sealing at a) N inner q in
    let l = link-one ((sealing_name, M) ∷ (unit_result, N) ∷ []) g [] h (tt, tt) (w, (v, tt)) in
    let one = link-view l.gives in
    let two = link-view one.1 in
    let f = first-field two.1 in
    let same = body-same one.2 ∙ (body-same two.2 ∙ f.2) in
    let r = field-of (kinds g) l.whole unit_result f.0 f.1 l.ok same f.3 in
    (r.0, unit-means p q two.1 two.2 one.2 r.1)

-- a unit is refused in its body, or in its sealing under the body
pub unit-refusals : (g : Env) (at : Span) (a : SigEx) (b : Mod) (r : Refusal) → OkEnv g → Refused g (a_mod (sealed at b a)) r
    → Refused g (a_mod b) r ⊎ ((M : Module) × ModMeans g b M × Refused (with_interface g sealing_name (sig_in M)) (a_mod (unit_sealing at a)) r)
unit-refusals g at a b r h k = first (total g (a_mod b) h tt)
  where
    one : (q : Refusal) → Refused g (a_mod (sealed at b a)) q → q ≡ r
    one q j = refusals-equal g (a_mod (sealed at b a)) h tt q r j k

    second : (M : Module) → ModMeans g b M → ((N : Module) × ModMeans (with_interface g sealing_name (sig_in M)) (unit_sealing at a) N) ⊎ ((q : Refusal) × Refused (with_interface g sealing_name (sig_in M)) (a_mod (unit_sealing at a)) q)
        → Refused g (a_mod b) r ⊎ ((M : Module) × ModMeans g b M × Refused (with_interface g sealing_name (sig_in M)) (a_mod (unit_sealing at a)) r)
    second M p (inr q) = inr (M, p, subst (Refused (with_interface g sealing_name (sig_in M)) (a_mod (unit_sealing at a))) (one q.0 (sealing-refused M p q.1)) q.1)
    second M p (inl n) = let t = unit-total g at a b M n.0 h p n.1 in absurd (exclusive g (a_mod (sealed at b a)) h tt t.0 r t.1 k)

    first : ((M : Module) × ModMeans g b M) ⊎ ((q : Refusal) × Refused g (a_mod b) q) → Refused g (a_mod b) r ⊎ ((M : Module) × ModMeans g b M × Refused (with_interface g sealing_name (sig_in M)) (a_mod (unit_sealing at a)) r)
    first (inr q) = inl (subst (Refused g (a_mod b)) (one q.0 (body-refused q.1)) q.1)
    first (inl m) = second m.0 m.1 (total (with_interface g sealing_name (sig_in m.0)) (a_mod (unit_sealing at a)) (interface-ok g sealing_name m.0 h (mod_ok g b m.0 h m.1)) tt)
