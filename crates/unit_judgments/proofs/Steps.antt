-- Linking in steps: the units at the front stand in an environment, those at the back are linked.
-- Main results: front-next, linked-next.
use Rattle.std.specs.Prelude.{ℕ, List, [], ◌∷◌, ◌++◌, ◌≡◌, map}
use Rattle.std.proofs.Math.Path.{refl, sym, subst, ap, ◌∙◌}
use Rattle.omega_kinds.specs.Kind.{Kind}
use Rattle.omega_kinds.specs.declared.effect.Effect.TheVariants.{Pure}
use Rattle.omega_kinds.specs.Name.{Name}
use Rattle.omega_types.specs.Binders.{extend}
use Rattle.omega_terms.specs.Term.{Term, TermRow}
use Rattle.sig_definitions.specs.Signatures.Sig.{Sig, Abs, SigRow, Module, made}
use Rattle.sig_definitions.specs.Signatures.FieldOrder.{with_name}
use Rattle.sig_definitions.specs.Env.{Env, kinds}
use Rattle.module_judgments.specs.Sequence.{Seq, Collected}
use Rattle.sig_laws.specs.Good.{OkEnv, OkModule, Names}
use Rattle.sig_laws.proofs.Algebra.FormLaws.{module-under}
use Rattle.unit_judgments.proofs.Ends.{collected-ok}
use Rattle.unit_judgments.specs.Interfaces.{sig_in, hidden_in, with_interface, env_of}
use Rattle.unit_judgments.specs.Link.{LinkGives, UnitModule, UnitUnder, named, interface_of, under_of, what_of, names_after, Differs, Links, links, OkUnit}
use Rattle.unit_judgments.proofs.OneLink.{names-under}
use Rattle.unit_judgments.proofs.Scopes.{env-more, interface-ok}
use Rattle.unit_judgments.proofs.Sequences.{seq-ok}

-- a list of units, of which those at the back are linked
pub record LinkedFrom (front back : List UnitModule) (m : Module) : Type 0 where
  pub gives : LinkGives (env_of (map interface_of front)) (names_after [] front) (map named back) m
  pub ok : OkModule (kinds (env_of (map interface_of front))) m

-- one more unit at the front

-- the interfaces of units with one more are those of the units and its own
pub interfaces-more : (front : List UnitModule) (u : UnitModule) → map interface_of (front ++ u ∷ []) ≡ map interface_of front ++ interface_of u ∷ []
interfaces-more [] u = refl
interfaces-more (w ∷ front) u = ap (λ is. interface_of w ∷ is) (interfaces-more front u)

names-more : (before : List Name) (front : List UnitModule) (u : UnitModule) → names_after before (front ++ u ∷ []) ≡ with_name (interface_of u).0 (names_after before front)
names-more before [] u = refl
names-more before (w ∷ front) u = names-more (with_name (interface_of w).0 before) front u

-- the environment of units with one more has its interface last
pub env-next : (front : List UnitModule) (u : UnitModule) → env_of (map interface_of (front ++ u ∷ [])) ≡ with_interface (env_of (map interface_of front)) (interface_of u).0 (sig_in (what_of u))
env-next front (UnitUnder under x m) = ap env_of (interfaces-more front (UnitUnder under x m)) ∙ env-more (map interface_of front) x (sig_in m)

-- the names of units with one more have its name among them
pub names-next : (front : List UnitModule) (u : UnitModule) → names_after [] (front ++ u ∷ []) ≡ with_name (interface_of u).0 (names_after [] front)
names-next front u = names-more [] front u

-- the environment and the names of the units at the front are good

-- the environment before the first unit is good
pub front-start : OkEnv (env_of []) × Names (env_of []) (names_after [] [])
front-start = (tt, (tt, tt))

-- the unit's module is good in the environment of those before it
pub unit-good : (front : List UnitModule) (u : UnitModule) → under_of u ≡ map interface_of front → OkUnit u → OkModule (kinds (env_of (map interface_of front))) (what_of u)
unit-good front (UnitUnder under x m) e w = subst (λ is. OkModule (kinds (env_of is)) m) e w

-- units that make a good environment do so with a good one that stands under their interfaces
pub front-next : (front : List UnitModule) (u : UnitModule) → under_of u ≡ map interface_of front → OkUnit u
    → OkEnv (env_of (map interface_of front)) × Names (env_of (map interface_of front)) (names_after [] front)
    → OkEnv (env_of (map interface_of (front ++ u ∷ []))) × Names (env_of (map interface_of (front ++ u ∷ []))) (names_after [] (front ++ u ∷ []))
front-next front u e w h =
    let g = env_of (map interface_of front) in
    let x = (interface_of u).0 in
    let a = sym (env-next front u) in (
      subst OkEnv a (interface-ok g x (what_of u) h.0 (unit-good front u e w)),
      subst (λ ns. Names (env_of (map interface_of (front ++ u ∷ []))) ns) (sym (names-next front u))
          (subst (λ k. Names k (with_name x (names_after [] front))) a (names-under g (names_after [] front) x (what_of u) h.1)),
    )

-- the end of the structure, with all units at the front
pub linked-end : {fs : SigRow} {es : TermRow} (us : List UnitModule) → OkEnv (env_of (map interface_of us)) × Names (env_of (map interface_of us)) (names_after [] us) → Collected (env_of (map interface_of us)) (names_after [] us) fs es → LinkedFrom us [] (made Pure (Abs.Ex [] (Sig.Str fs)) [] (Term.Fields es))
linked-end us h c = record {
  gives = LinkGives.end c;
  ok = collected-ok h.0 h.1.1 c;
}

-- the last unit at the front goes to the back: the rest is good under it, so that its sequence with the rest is the one that
-- the rule gives
under-unit : (g : Env) (x : Name) (M rest : Module) → OkModule (kinds (with_interface g x (sig_in M))) rest → OkModule (extend (kinds g) (hidden_in M)) rest
under-unit g x (made f (Abs.Ex ks s) ts e) rest w = module-under g ks rest w

-- what is linked behind a unit is a good rest under its interface
pub rest-good : {back : List UnitModule} {rest : Module} (front : List UnitModule) (u : UnitModule) → LinkedFrom (front ++ u ∷ []) back rest → OkModule (extend (kinds (env_of (map interface_of front))) (hidden_in (what_of u))) rest
rest-good {rest = rest} front u h = under-unit (env_of (map interface_of front)) (interface_of u).0 (what_of u) rest (subst (λ g. OkModule (kinds g) rest) (env-next front u) h.ok)

sequence-ok : (ctx : List Kind) (M rest whole : Module) → OkModule ctx M → OkModule (extend ctx (hidden_in M)) rest → Seq ctx M rest whole → OkModule ctx whole
sequence-ok ctx (made f (Abs.Ex ks s) ts e) rest whole a b q = seq-ok ctx ks f s ts e a b q

-- a unit in a row with what is linked behind it is linked behind those before it
pub linked-next : {rest whole : Module} (front : List UnitModule) (u : UnitModule) (back : List UnitModule) → under_of u ≡ map interface_of front → OkUnit u → LinkedFrom (front ++ u ∷ []) back rest → Seq (kinds (env_of (map interface_of front))) (what_of u) rest whole → LinkedFrom front (u ∷ back) whole
linked-next {rest} {whole} front (UnitUnder under x m) back e w h q =
    let u = UnitUnder under x m in
    record {
      gives = LinkGives.next (subst (λ ns. LinkGives (with_interface (env_of (map interface_of front)) x (sig_in m)) ns (map named back) rest) (names-next front u) (subst (λ g. LinkGives g (names_after [] (front ++ u ∷ [])) (map named back) rest) (env-next front u) h.gives)) q;
      ok = sequence-ok (kinds (env_of (map interface_of front))) m rest whole (unit-good front u e w) (rest-good front u h) q;
    }

-- all units at the back
pub linked-all : (us : List UnitModule) (m : Module) → ((n : ℕ) → Differs us n → ⊥) → LinkedFrom [] us m → Links us m
linked-all us m d h = links d h.gives
