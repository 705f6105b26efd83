-- The binding of a module and the bindings after it.
-- Main results: binds-view, binds-next, first-refused, rest-refused.
use Rattle.std.specs.Prelude.{List, []}
use Rattle.std.proofs.Common.{inl, inr}
use Rattle.std.proofs.Math.Path.{refl}
use Rattle.omega_kinds.specs.Name.{Name}
use Rattle.sig_definitions.specs.Signatures.Sig.{Abs, Module, made}
use Rattle.sig_definitions.specs.Signatures.FieldOrder.{with_name}
use Rattle.sig_definitions.specs.Env.{Env, kinds}
use Rattle.fing_syntax.specs.Phrase.{Span, SpanName, Mod, BindAt, BindModule, Binds, NoBinds, MoreBinds}
use Rattle.fing_syntax.specs.Place.{name_of}
use Rattle.refusal_reasons.specs.Refusal.{Refusal}
use Rattle.elab_judgments.specs.Judgments.Meaning.{ModMeans, BindMeans, BindsMean}
use Rattle.elab_judgments.specs.Refusals.Task.{a_mod, a_bind, binds}
use Rattle.elab_judgments.specs.Refusals.Refused.{Refused}
use Rattle.module_judgments.specs.Sequence.{Seq}
use Rattle.unit_judgments.specs.Interfaces.{sig_in, with_interface}
use Rattle.unit_judgments.specs.Link.{LinkGives}

-- what the empty list of bindings means is the link of the empty list of modules
pub nil-view : {g : Env} {names : List Name} {m : Module} → BindsMean g names NoBinds m → LinkGives g names [] m
nil-view (BindsMean.no_binds c) = LinkGives.end c

-- the link of the empty list of modules is what the empty list of bindings means
pub nil-means : {g : Env} {names : List Name} {m : Module} → LinkGives g names [] m → BindsMean g names NoBinds m
nil-means (LinkGives.end c) = BindsMean.no_binds c

-- what a module binding and others mean is this module in a row with what the others mean
pub binds-view : {g : Env} {names : List Name} {at : Span} {x : SpanName} {b : Mod} {bs : Binds} {whole : Module} → BindsMean g names (MoreBinds (BindAt at (BindModule x b)) bs) whole
    → (M rest : Module) × ModMeans g b M × BindsMean (with_interface g (name_of x) (sig_in M)) (with_name (name_of x) names) bs rest × Seq (kinds g) M rest whole
binds-view (BindsMean.next_bind {f = f} {ks = ks} {s = s} {ts = ts} {e = e} {rest = rest} (BindMeans.bind_module p) q r) = (made f (Abs.Ex ks s) ts e, rest, p, q, r)

-- a module in a row with what the other bindings mean is what all of them mean
pub binds-next : {g : Env} {names : List Name} {at : Span} {x : SpanName} {b : Mod} {bs : Binds} {rest whole : Module} (M : Module) → ModMeans g b M → BindsMean (with_interface g (name_of x) (sig_in M)) (with_name (name_of x) names) bs rest → Seq (kinds g) M rest whole → BindsMean g names (MoreBinds (BindAt at (BindModule x b)) bs) whole
binds-next (made f (Abs.Ex ks s) ts e) p q r = BindsMean.next_bind (BindMeans.bind_module p) q r

-- refusals

bind-refused : {g : Env} {at : Span} {x : SpanName} {b : Mod} {r : Refusal} → Refused g (a_mod b) r → Refused g (a_bind (BindAt at (BindModule x b))) r
bind-refused h = Refused.inside (inl (refl, refl)) h

-- bindings are refused where the module of the first one is
pub first-refused : {g : Env} {names : List Name} {at : Span} {x : SpanName} {b : Mod} {bs : Binds} {r : Refusal} → Refused g (a_mod b) r → Refused g (binds names (MoreBinds (BindAt at (BindModule x b)) bs)) r
first-refused h = Refused.inside (inl (refl, refl)) (bind-refused h)

-- bindings are refused where those after the first one are
pub rest-refused : {g : Env} {names : List Name} {at : Span} {x : SpanName} {b : Mod} {bs : Binds} {r : Refusal} (M : Module) → ModMeans g b M → Refused (with_interface g (name_of x) (sig_in M)) (binds (with_name (name_of x) names) bs) r → Refused g (binds names (MoreBinds (BindAt at (BindModule x b)) bs)) r
rest-refused {x = x} (made f (Abs.Ex ks s) ts e) p h = Refused.inside (inr ((name_of x, made f (Abs.Ex ks s) ts e), BindMeans.bind_module p, inl (refl, refl))) h
