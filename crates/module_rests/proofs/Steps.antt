-- What the calls over gathered bindings come to, from what they call.
-- Main results: step-given, whole-put.
use Rattle.std.specs.Prelude.{ℕ, List, [], ◌∷◌, ◌++◌, ◌≡◌, map}
use Rattle.std.proofs.Common.{append_assoc}
use Rattle.std.proofs.Math.Path.{refl, sym, ap, ap₂, subst, ◌∙◌}
use Rattle.omega_kinds.specs.Kind.{Kind}
use Rattle.omega_kinds.specs.declared.effect.Effect.{Effect}
use Rattle.omega_kinds.specs.declared.effect.Effect.TheVariants.{Pure, Impure}
use Rattle.omega_types.specs.Ty.{Ty}
use Rattle.omega_types.specs.Substitution.{substitute}
use Rattle.omega_types.specs.Binders.{extend, puts, NormalForms}
use Rattle.omega_types.proofs.Algebra.{substitute-id}
use Rattle.omega_types.proofs.BinderPuts.{forms-kinds, forms-normal, puts-append, vars-substitutes}
use Rattle.omega_terms.specs.Term.{Term}
use Rattle.omega_terms.specs.Shorthands.{let_in}
use Rattle.omega_terms.specs.Instance.{Instance}
use Rattle.omega_terms.proofs.InstanceLaws.{instance-one}
use Rattle.sig_definitions.specs.Signatures.Sig.{Sig, Abs, Module, made}
use Rattle.sig_definitions.specs.Signatures.SigSubst.{substitute_sig}
use Rattle.sig_definitions.specs.Signatures.Alike.{IsSigAt, NormalSig, NormalSigForm}
use Rattle.sig_definitions.specs.Signatures.Encoding.{enc}
use Rattle.sig_laws.specs.Good.{NormalTerm, OkModule}
use Rattle.sig_laws.proofs.Algebra.BinderLaws.{extend-append}
use Rattle.sig_laws.proofs.Algebra.Instances.{at-substitutes}
use Rattle.sig_premise_laws.proofs.Terms.{forms-unique}
use Rattle.semantic_sigs.specs.declared.made.Module.{Module as CodeModule}
use Rattle.semantic_sigs.specs.Inner.Changes.{ty_in, sig_in, putting}
use Rattle.semantic_sigs.specs.Inner.Made.{module_of}
use Rattle.semantic_sigs.specs.Inner.View.{kinds_of, body_of}
use Rattle.semantic_sigs.proofs.HeadLaws.{sig-put}
use Rattle.module_judgments.specs.Sequence.{Seq}
use Rattle.module_laws.specs.PutIn.{IsPut}
use Rattle.module_laws.proofs.Put.{forms-append, sequence_put_in}
use Rattle.module_rules.proofs.Own.{types-put}
use Rattle.module_rests.specs.Inner.Folded.{Folded}
use Rattle.module_rests.specs.Inner.Gathering.{PutsAll, PutsOwn, effect_of, hidden}
use Rattle.module_rests.proofs.Rows.{folded-view, row-shape, shown}

-- what the instance of a term is
abbrev IsInstance : Term → List Ty → Term → Type 0
IsInstance e ts c = (ctx ks : List Kind) → NormalTerm (extend ctx ks) e → NormalForms ctx ts ks ts → Instance (extend ctx ks) ctx (puts ts Ty.Var) e c

-- one module
pub own-put : (x : Abs) (us : List Ty) (d : Term) (ws items own all : List Ty) (c : Term) → items ≡ ws → IsInstance d items c → own ≡ map (ty_in (putting ws)) us → all ≡ ws ++ own → PutsOwn x us d ws all c
own-put x us d ws items own all c ei inst eo ea ctx ks w forms normal = (
  own,
  ea,
  record {
    types = subst (NormalForms ctx (map (substitute (puts ws Ty.Var)) us) (kinds_of x)) (sym eo) (types-put ws us ctx ks (kinds_of x) w forms);
    term = subst (λ v. IsInstance d v c) ei inst ctx ks normal w;
  },
)

-- what is good has normal types of their kinds

good-parts : (ctx : List Kind) (f : Effect) (x : Abs) (us : List Ty) (d : Term) → f ≡ Pure → OkModule ctx (made f x us d) → NormalForms ctx us (kinds_of x) us × NormalTerm ctx d
good-parts ctx Pure (Abs.Ex js t) us d e ok = (ok.1, ok.2)
good-parts ctx Impure x us d e ok = absurd (not-pure e)
  where
    not-pure : Impure ≡ Pure → ⊥
    not-pure e = cc

-- the last module

abbrev WholePut : List Kind → List Kind → List Ty → List Ty → Module → Term → Type 0
WholePut ctx ks ws all (made f x us d) c = (own : List Ty) × (all ≡ ws ++ own) × IsPut (extend ctx ks) ctx (puts ws Ty.Var) (kinds_of x) us d own c

pub last-put : (f : Effect) (y : Abs) (vs : List Ty) (e : Term) (ws all : List Ty) (c : Term) → PutsOwn y vs e ws all c → PutsAll [] (made f y vs e) ws all c
last-put f y vs e ws all c own ctx ks x us d w ok row =
    let same : made Pure x us d ≡ made f y vs e = folded-view row in
    let good = good-parts (extend ctx ks) f y vs e (sym (ap effect_of same)) (subst (OkModule (extend ctx ks)) same ok) in
    subst (λ m. WholePut ctx ks ws all m c) (sym same) (own ctx ks w good.0 good.1)

-- a binding and the rest

step-put : (ks js : List Kind) (s : Sig) (ts us vs : List Ty) (e d g term inner : Term) (y z : Abs) (steps : List Module) (m : Module) (ws mid all : List Ty) (n : Sig) (ctx : List Kind)
    → PutsOwn (Abs.Ex js s) ts e ws mid term
    → n ≡ sig_in (putting mid) s
    → PutsAll steps m mid all inner
    → NormalForms ctx ws ks ws
    → OkModule (extend ctx ks) (made Pure (Abs.Ex js s) ts e)
    → OkModule (extend (extend ctx ks) js) (made Pure y us d)
    → Folded (extend (extend ctx ks) js) steps m (made Pure y us d)
    → Seq (extend ctx ks) (made Pure (Abs.Ex js s) ts e) (made Pure y us d) (made Pure z vs g)
    → (own : List Ty) × (all ≡ ws ++ own) × IsPut (extend ctx ks) ctx (puts ws Ty.Var) (kinds_of z) vs g own (let_in (enc n) term inner)
step-put ks js s ts us vs e d g term inner (Abs.Ex hs t) (Abs.Ex is r) steps m ws mid all n ctx put en rest w good under row seq = (
  a.0 ++ b.0,
  b.1 ∙ (ap (λ xs. xs ++ b.0) a.1 ∙ append_assoc ws a.0 b.0),
  sequence_put_in (extend ctx ks) ctx js hs is (puts ws Ty.Var) s t r n ts us vs a.0 b.0 e d g term inner (at-substitutes (forms-kinds w)) good under seq a.2 sig inside,
)
  where
    a : (own : List Ty) × (mid ≡ ws ++ own) × IsPut (extend ctx ks) ctx (puts ws Ty.Var) js ts e own term
    a = put ctx ks w good.1 good.2

    both : NormalForms ctx mid (ks ++ js) mid
    both = subst (λ us. NormalForms ctx us (ks ++ js) us) (sym a.1) (forms-append w (forms-normal a.2.types))

    context : extend ctx (ks ++ js) ≡ extend (extend ctx ks) js
    context = extend-append ks js ctx

    b : (own : List Ty) × (all ≡ mid ++ own) × IsPut (extend ctx (ks ++ js)) ctx (puts mid Ty.Var) hs us d own inner
    b = rest ctx (ks ++ js) (Abs.Ex hs t) us d both (subst (λ c. OkModule c (made Pure (Abs.Ex hs t) us d)) (sym context) under) (subst (λ c. Folded c steps m (made Pure (Abs.Ex hs t) us d)) (sym context) row)

    at : Path (ℕ → Ty) (puts mid Ty.Var) (puts a.0 (puts ws Ty.Var))
    at = ap (λ us. puts us Ty.Var) a.1 ∙ puts-append ws a.0 Ty.Var

    inside : IsPut (extend (extend ctx ks) js) ctx (puts a.0 (puts ws Ty.Var)) hs us d b.0 inner
    inside = subst (λ c. IsPut c ctx (puts a.0 (puts ws Ty.Var)) hs us d b.0 inner) context (subst (λ q. IsPut (extend ctx (ks ++ js)) ctx q hs us d b.0 inner) at b.2)

    sig : NormalSigForm ctx (substitute_sig (puts a.0 (puts ws Ty.Var)) s) n
    sig = subst (λ q. NormalSigForm ctx (substitute_sig q s) n) at (subst (IsSigAt ctx s mid) (sym en) (sig-put ctx (ks ++ js) mid s (subst (λ c. NormalSig c s) (sym context) good.0.1) both))

-- the same, by the parts of a binding that may not be known to be pure

abbrev OwnPut : Module → List Ty → List Ty → Term → Type 0
OwnPut (made f x ts e) ws mid c = PutsOwn x ts e ws mid c

pub all-put : (steps : List Module) (f : Effect) (x : Abs) (ts : List Ty) (e term inner c : Term) (m : Module) (ws mid all : List Ty) (n : Sig) (from : Ty)
    → PutsOwn x ts e ws mid term → n ≡ sig_in (putting mid) (body_of x) → from ≡ enc n → PutsAll steps m mid all inner → c ≡ let_in from term inner
    → PutsAll (made f x ts e ∷ steps) m ws all c
all-put steps f x ts e term inner c m ws mid all n from put en ef rest ec ctx ks y vs g w ok row =
    let v = folded-view row in
    let own : PutsOwn (Abs.Ex v.0 v.1) v.2 v.3 ws mid term = subst (λ o. OwnPut o ws mid term) v.10 put in
    let sig : n ≡ sig_in (putting mid) v.1 = en ∙ ap (sig_in (putting mid)) (ap shown v.10) in
    let q = step-put ks v.0 v.1 v.2 v.5 v.8 v.3 v.6 v.9 term inner v.4 v.7 steps m ws mid all n ctx own sig rest w v.12 v.13 v.14 v.15 in
    subst (WholePut ctx ks ws all (made Pure y vs g)) (sym (ec ∙ ap (λ t. let_in t term inner) ef))
    (subst (λ o. WholePut ctx ks ws all o (let_in (enc n) term inner)) (sym v.11) q)

-- the same, in the code's rows

pub none-given : (steps : List CodeModule) (last : CodeModule) (ws all : List Ty) (e : Term) → steps ≡ [] → PutsOwn last.sig last.types last.term ws all e → PutsAll (map module_of steps) (module_of last) ws all e
none-given steps last ws all e es put = subst (λ xs. PutsAll (map module_of xs) (module_of last) ws all e) (sym es) (last-put last.effect last.sig last.types last.term ws all e put)

-- types are put into a list by putting them into its first binding, and all that there are then into the rest, with the terms in a let
pub step-given : (steps rest : List CodeModule) (first last : CodeModule) (ws items mid all : List Ty) (n : Sig) (from : Ty) (term inner e : Term)
    → steps ≡ first ∷ rest → PutsOwn first.sig first.types first.term ws mid term → items ≡ mid → n ≡ sig_in (putting items) (body_of first.sig) → from ≡ enc n
    → PutsAll (map module_of rest) (module_of last) mid all inner → e ≡ let_in from term inner
    → PutsAll (map module_of steps) (module_of last) ws all e
step-given steps rest first last ws items mid all n from term inner e es put ei en ef more ee =
    let sig : n ≡ sig_in (putting mid) (body_of first.sig) = en ∙ ap (λ ts. sig_in (putting ts) (body_of first.sig)) ei in
    subst (λ xs. PutsAll (map module_of xs) (module_of last) ws all e) (sym es)
    (all-put (map module_of rest) first.effect first.sig first.types first.term term inner e (module_of last) ws mid all n from put sig ef more ee)

-- the whole

map-own : (ts : List Ty) → map (substitute Ty.Var) ts ≡ ts
map-own [] = refl
map-own (t ∷ ts) = ap₂ ◌∷◌ (substitute-id t) (map-own ts)

whole-is : (steps : List Module) (last : Module) (types : List Ty) (x : Abs) (e : Term) (ctx hs : List Kind) (t : Sig) (us : List Ty) (d : Term)
    → PutsAll steps last [] types e → x ≡ Abs.Ex (hidden steps last) (shown last)
    → OkModule ctx (made Pure (Abs.Ex hs t) us d) → Folded ctx steps last (made Pure (Abs.Ex hs t) us d)
    → made Pure x types e ≡ made Pure (Abs.Ex hs t) us d
whole-is steps last types x e ctx hs t us d put ex ok row =
    let q = put ctx [] (Abs.Ex hs t) us d NormalForms.none ok row in
    let own : q.0 ≡ us = forms-unique ok.1 q.0 (subst (λ l. NormalForms ctx l hs q.0) (map-own us) q.2.types) in
    let term : e ≡ d = instance-one (vars-substitutes ctx) q.2.term ok.2 in
    let shape = row-shape steps row in
    let sig : x ≡ Abs.Ex hs t = ex ∙ (λ i. Abs.Ex (sym shape.0 i) (sym shape.1 i)) in
    let kept : types ≡ us = q.1 ∙ own in
    λ i. made Pure (sig i) (kept i) (term i)

-- what a row becomes with no types put in, hiding and showing what the row does, is each pure module to which the row comes
pub whole-put : (steps : List CodeModule) (last : CodeModule) (start types : List Ty) (none kinds : List Kind) (from body : Sig) (x : Abs) (e : Term)
    → start ≡ [] → PutsAll (map module_of steps) (module_of last) start types e → none ≡ [] → kinds ≡ none ++ hidden (map module_of steps) (module_of last)
    → from ≡ body_of last.sig → body ≡ from → x ≡ Abs.Ex kinds body
    → (ctx : List Kind) (m : Module) → effect_of m ≡ Pure → OkModule ctx m → Folded ctx (map module_of steps) (module_of last) m → made Pure x types e ≡ m
whole-put steps last start types none kinds from body x e es put en ek ef eb ex ctx (made Impure y us d) p ok row = absurd (not-pure p)
  where
    not-pure : Impure ≡ Pure → ⊥
    not-pure e = cc
whole-put steps last start types none kinds from body x e es put en ek ef eb ex ctx (made Pure (Abs.Ex hs t) us d) p ok row =
    let rows = map module_of steps in
    let k : kinds ≡ hidden rows (module_of last) = ek ∙ ap (λ v. v ++ hidden rows (module_of last)) en in
    let b : body ≡ shown (module_of last) = eb ∙ ef in
    whole-is rows (module_of last) types x e ctx hs t us d (subst (λ v. PutsAll rows (module_of last) v types e) es put) (ex ∙ ap₂ Abs.Ex k b) ok row
