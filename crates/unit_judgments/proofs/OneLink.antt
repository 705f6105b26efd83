-- Good modules have one link, which is good.
-- Main results: link-one.
use Rattle.std.specs.Prelude.{List, [], ◌∷◌, ◌≡◌}
use Rattle.std.proofs.Math.Path.{refl, subst, ap, ◌∙◌}
use Rattle.omega_kinds.specs.declared.effect.Effect.TheVariants.{Pure}
use Rattle.omega_kinds.specs.Name.{Name}
use Rattle.omega_terms.specs.Term.{Term, TermRow}
use Rattle.sig_definitions.specs.Signatures.Sig.{Sig, Abs, SigRow, Module, made}
use Rattle.sig_definitions.specs.Signatures.FieldOrder.{with_name}
use Rattle.sig_definitions.specs.Signatures.RecordOrder.{NamesRise}
use Rattle.sig_definitions.specs.Env.{Env, kinds}
use Rattle.module_judgments.specs.Sequence.{Seq, Collected}
use Rattle.module_judgments.proofs.Determined.{seq-one, collected-one}
use Rattle.sig_premise_laws.proofs.Environments.{bound-bind}
use Rattle.sig_laws.specs.Good.{OkEnv, OkModule, Names}
use Rattle.sig_laws.proofs.Algebra.FormLaws.{module-under}
use Rattle.unit_judgments.proofs.Ends.{rise-with_name, collected-ok}
use Rattle.unit_judgments.specs.Interfaces.{sig_in, with_interface}
use Rattle.unit_judgments.specs.Link.{Named, LinkGives}
use Rattle.unit_judgments.proofs.Scopes.{interface-ok}
use Rattle.unit_judgments.proofs.Sequences.{seq-ok}

-- modules each of which is good under the interfaces of those before it
abbrev pub GoodNamed : Env → List Named → Type 0
GoodNamed g [] = Unit {0}
GoodNamed g (m ∷ ms) = OkModule (kinds g) m.1 × GoodNamed (with_interface g m.0 (sig_in m.1)) ms

-- modules have exactly one link, which is good
pub record OneLink (g : Env) (names : List Name) (ms : List Named) : Type 0 where
  pub whole : Module
  pub gives : LinkGives g names ms whole
  pub only : (m : Module) → LinkGives g names ms m → m ≡ whole
  pub ok : OkModule (kinds g) whole

-- a link of a module and others is this module in a row with the link of the others
pub link-view : {g : Env} {names : List Name} {x : Name} {M whole : Module} {ms : List Named} → LinkGives g names ((x, M) ∷ ms) whole → (rest : Module) × LinkGives (with_interface g x (sig_in M)) (with_name x names) ms rest × Seq (kinds g) M rest whole
link-view (LinkGives.next {rest = rest} l q) = (rest, l, q)

end-view : {g : Env} {names : List Name} {m : Module} → LinkGives g names [] m → (fs : SigRow) × (es : TermRow) × Collected g names fs es × (m ≡ made Pure (Abs.Ex [] (Sig.Str fs)) [] (Term.Fields es))
end-view (LinkGives.end {fs = fs} {es = es} c) = (fs, es, c, refl)

-- the end of a structure in a good environment is good
pub end-ok : {g : Env} {names : List Name} {m : Module} → OkEnv g → NamesRise names → LinkGives g names [] m → OkModule (kinds g) m
end-ok h r (LinkGives.end c) = collected-ok h r c

one-end : (g : Env) (names : List Name) → OkEnv g → Names g names → OneLink g names []
one-end g names h n =
    let o = collected-one g names n.0 in
    record {
      whole = made Pure (Abs.Ex [] (Sig.Str o.0.0)) [] (Term.Fields o.0.1);
      gives = LinkGives.end o.1;
      only = λ m l.
          let v = end-view l in
          let e : (v.0, v.1) ≡ o.0 = o.2 (v.0, v.1) v.2 in
          v.3 ∙ ap (λ (p : SigRow × TermRow). made Pure (Abs.Ex [] (Sig.Str p.0)) [] (Term.Fields p.1)) e;
      ok = collected-ok h n.1 o.1;
    }

one-next : (g : Env) (names : List Name) (x : Name) (M : Module) (ms : List Named) → OkModule (kinds g) M → OneLink (with_interface g x (sig_in M)) (with_name x names) ms → OneLink g names ((x, M) ∷ ms)
one-next g names x (made f (Abs.Ex ks s) ts e) ms w r =
    let rest = module-under g ks r.whole r.ok in
    let q = seq-one (kinds g) ks f s ts e r.whole w rest in
    record {
      whole = q.0;
      gives = LinkGives.next r.gives q.1;
      only = λ m l. let v = link-view l in q.2 m (subst (λ N. Seq (kinds g) (made f (Abs.Ex ks s) ts e) N m) (r.only v.0 v.1) v.2);
      ok = seq-ok (kinds g) ks f s ts e w rest q.1;
    }

-- the names of modules are found and rise with one more interface
pub names-under : (g : Env) (names : List Name) (x : Name) (M : Module) → Names g names → Names (with_interface g x (sig_in M)) (with_name x names)
names-under g names x (made f (Abs.Ex ks s) ts e) n = (bound-bind g ks x s names n.0, rise-with_name x names n.1)

-- good modules have exactly one link, which is good
pub link-one : (ms : List Named) (g : Env) (names : List Name) → OkEnv g → Names g names → GoodNamed g ms → OneLink g names ms
link-one [] g names h n w = one-end g names h n
link-one (m ∷ ms) g names h n w = one-next g names m.0 m.1 ms w.0 (link-one ms (with_interface g m.0 (sig_in m.1)) (with_name m.0 names) (interface-ok g m.0 m.1 h w.0) (names-under g names m.0 m.1 n) w.1)
