-- A unit out of the modules of its body, of its sealing and of the end of both, as they are made one after the other.
-- Main results: body-env, both-names, unit-found.
use Rattle.std.specs.Prelude.{[], ◌∷◌, ◌≡◌}
use Rattle.std.proofs.Math.Path.{sym, subst, ◌∙◌}
use Rattle.omega_kinds.specs.Name.{Name}
use Rattle.omega_types.specs.Binders.{extend}
use Rattle.sig_definitions.specs.Signatures.Sig.{Sig, SigRow, HasField, Module, made}
use Rattle.sig_definitions.specs.Env.{Env, kinds}
use Rattle.sig_laws.specs.Good.{OkEnv, OkModule, Names}
use Rattle.fing_syntax.specs.Phrase.{Span, Mod, SigEx}
use Rattle.module_judgments.specs.ModRules.{ProjectRefuses}
use Rattle.module_judgments.specs.ModWhy.{ModWhy}
use Rattle.module_judgments.specs.Projection.{Projected}
use Rattle.module_judgments.specs.Sequence.{Seq}
use Rattle.elab_judgments.specs.Judgments.Meaning.{ModMeans}
use Rattle.elab_laws.proofs.Kept.{mod_ok}
use Rattle.unit_judgments.specs.Interfaces.{sig_in, hidden_in, with_interface}
use Rattle.unit_judgments.specs.Link.{LinkGives}
use Rattle.unit_judgments.proofs.OneLink.{end-ok, names-under}
use Rattle.unit_judgments.proofs.Scopes.{interface-ok, kinds-interface}
use Rattle.unit_laws.specs.Inner.Sealing.{Joined, Joins}
use Rattle.unit_laws.specs.Units.{sealed, sealing_name, unit_result, unit_sealing}
use Rattle.unit_laws.proofs.Sealed.{unit-means, body_in, body-same}
use Rattle.unit_laws.proofs.Whole.{first-field}

-- the environment of the sealing, and that of the end
abbrev pub after_body : Env → Module → Env
after_body g M = with_interface g sealing_name (sig_in M)

-- the environment after a unit's body and its sealing
abbrev pub after_both : Env → (body sealing : Module) → Env
after_both g M N = with_interface (after_body g M) unit_result (sig_in N)

-- the environment after a unit's body is good
pub body-env : (g : Env) (b : Mod) (M : Module) → OkEnv g → ModMeans g b M → OkEnv (after_body g M)
body-env g b M h p = interface-ok g sealing_name M h (mod_ok g b M h p)

pub both-env : (g : Env) (b c : Mod) (M N : Module) → OkEnv g → ModMeans g b M → ModMeans (after_body g M) c N → OkEnv (after_both g M N)
both-env g b c M N h p q = let i = body-env g b M h p in interface-ok (after_body g M) unit_result N i (mod_ok (after_body g M) c N i q)

-- the hidden names of a unit's body and of its sealing are found after both, and rise
pub both-names : (g : Env) (M N : Module) → Names (after_both g M N) (unit_result ∷ sealing_name ∷ [])
both-names g M N = names-under (after_body g M) (sealing_name ∷ []) unit_result N (names-under g [] sealing_name M (tt, tt))

-- what a unit is made of
pub record Parts (g : Env) (at : Span) (a : SigEx) (b : Mod) (M N end : Module) : Type 0 where
  pub good : OkEnv g
  pub body : ModMeans g b M
  pub sealing : ModMeans (after_body g M) (unit_sealing at a) N
  pub ended : LinkGives (after_both g M N) (unit_result ∷ sealing_name ∷ []) [] end

-- the parts are good, so what is said of good ones holds
pub joined : {at : Span} {a : SigEx} {b : Mod} {M N end : Module} (g : Env) (P : Module → Type 0) → Parts g at a b M N end → Joins (kinds g) M N end P → Joined (kinds g) M N end P
joined {at} {a} {b} {M} {N} {end} g P p j =
    let i = body-env g b M p.good p.body in
    let w = mod_ok g b M p.good p.body in
    let v = subst (λ ctx. OkModule ctx N) (kinds-interface g sealing_name M) (mod_ok (after_body g M) (unit_sealing at a) N i p.sealing) in
    let e = end-ok (both-env g b (unit_sealing at a) M N p.good p.body p.sealing) (both-names g M N).1 p.ended in
    let under : kinds (after_both g M N) ≡ extend (extend (kinds g) (hidden_in M)) (hidden_in N) = kinds-interface (after_body g M) unit_result N ∙ (λ k. extend (kinds-interface g sealing_name M k) (hidden_in N)) in
    j w v (subst (λ ctx. OkModule ctx end) under e)

-- the field that is taken is what the unit means
pub unit-of : {at : Span} {a : SigEx} {b : Mod} {M N end m : Module} (g : Env) → Parts g at a b M N end → Joins (kinds g) M N end (λ whole. Projected (kinds g) whole unit_result m) → ModMeans g (sealed at b a) m
unit-of {M = M} {N = N} {end = end} {m = m} g p j =
    let q = joined g (λ whole. Projected (kinds g) whole unit_result m) p j in
    let inner = subst (λ ctx. Seq ctx N end q.rest) (sym (kinds-interface g sealing_name M)) q.inner in
    unit-means p.body p.sealing p.ended inner q.outer q.holds

-- the field is always found
never : {W : Module} {l : Name} {why : ModWhy} (fs : SigRow) (s : Sig) → body_in W ≡ Sig.Str fs → HasField fs l s → ProjectRefuses W l why → ⊥
never fs s q h (ProjectRefuses.no_structure n) = n fs q
never {l = l} fs s q h (ProjectRefuses.no_part {fs = gs} n) = n s (subst (λ row. HasField row l s) (same-row (sym q)) h)
  where
    same-row : {fs gs : SigRow} → Sig.Str fs ≡ Sig.Str gs → fs ≡ gs
    same-row e = cc

-- the projection of a unit's result is not refused
pub unit-found : {at : Span} {a : SigEx} {b : Mod} {M N end : Module} {why : ModWhy} (g : Env) → Parts g at a b M N end → Joins (kinds g) M N end (λ whole. ProjectRefuses whole unit_result why) → ⊥
unit-found {why = why} g p j =
    let q = joined g (λ whole. ProjectRefuses whole unit_result why) p j in
    let f = first-field p.ended in
    never f.0 f.1 (body-same q.outer ∙ (body-same q.inner ∙ f.2)) f.3 q.holds
