-- Each rule of modules has exactly one conclusion or exactly one refusal.
-- Main results: one_projected, one_type_path, one_value_path, one_sig_path, one_apply, one_include.
use Rattle.std.specs.Prelude.{List, [], ◌≡◌, ◌≢◌, ◌⊎◌, Option, Some, None}
use Rattle.std.proofs.Common.{inl, inr}
use Rattle.std.proofs.Math.Path.{refl, sym, subst, ap, ◌∙◌}
use Rattle.omega_kinds.specs.Kind.{Kind}
use Rattle.omega_kinds.specs.declared.label.Label.{Label}
use Rattle.omega_kinds.specs.declared.effect.Effect.{Effect}
use Rattle.omega_kinds.specs.declared.effect.Effect.TheVariants.{Pure, Impure}
use Rattle.omega_kinds.specs.Name.{Name}
use Rattle.omega_types.specs.Ty.{Ty}
use Rattle.omega_types.specs.Binders.{extend, OfKinds}
use Rattle.omega_types.proofs.BinderPuts.{forms-kinds}
use Rattle.omega_types.proofs.Preservation.{normal-kind}
use Rattle.omega_terms.specs.Term.{Term}
use Rattle.omega_terms.specs.Shorthands.{insts, ty_lam_over}
use Rattle.omega_terms.specs.Coercions.{result_label}
use Rattle.omega_terms.specs.PartTerms.{one_field, value_term, type_term, sig_term}
use Rattle.sig_definitions.specs.Signatures.Sig.{Sig, Abs, SigRow, HasField, Module, made}
use Rattle.sig_definitions.specs.Signatures.SigSubst.{abs_at}
use Rattle.sig_definitions.specs.Signatures.Alike.{NormalSig, NormalSigRow, NormalAbsForm}
use Rattle.sig_definitions.specs.Signatures.Encoding.{enc, enc_abs}
use Rattle.sig_definitions.specs.Matching.Subtyping.{Match}
use Rattle.sig_definitions.specs.Env.{Env, find}
use Rattle.sig_definitions.specs.Packing.{Packed}
use Rattle.sig_definitions.specs.Verdict.{Verdict, holds, refuses, One, Perhaps, one, none}
use Rattle.sig_laws.proofs.Formed.Conditions.{left-functor, match-kinds}
use Rattle.sig_laws.proofs.Formed.WellFormedShape.{kinded}
use Rattle.sig_laws.proofs.Formed.Forms.{sig-functor, sig-type, sig-value, sig-meta, sig-structure, field-at}
use Rattle.sig_premise_laws.proofs.Determined.{packed-kinded, result-one, normal-conv_abs}
use Rattle.module_judgments.specs.PathUse.{Outside, SigOutside, TypeOfPath, ValueOfPath, SigOfPath, value_of}
use Rattle.module_judgments.specs.Projection.{Projected}
use Rattle.module_judgments.specs.Sequence.{Seq, field_lets}
use Rattle.sig_laws.specs.Good.{DistinctRow, KindedAbs, KindedModule, OkModule, OkSig, OkRight}
use Rattle.module_judgments.specs.ModWhy.{ModWhy, Unbound, NoPart, NotStructure, NotFunctor, WrongPath, Escapes}
use Rattle.module_judgments.specs.ModRules.{NamedGives, NamedRefuses, ProjectRefuses, TypePathRefuses, ValuePathRefuses, SigPathRefuses, GenerativeGives, PartsGive, FunctorRefuses, ApplyGives, IncludeGives, IncludeRefuses, SealGives, ValueGives, TypeGives, SignatureGives}
use Rattle.module_judgments.specs.OneOutcome.{OneNamed, OneProjected, OnePureProjected, OneTypePath, OneValuePath, OneSigPath, OneGenerative, OneParts, OneApply, OneInclude, OneSeal, OneValueModule, OneTypeModule, OneSignatureModule}
use Rattle.module_judgments.proofs.Escapes.{type-outside, sig-outside}
use Rattle.sig_premise_laws.proofs.Environments.{some-same}
use Rattle.module_judgments.proofs.Determined.{projected-kinded, projected-pure, lets-normal, seq-kinded}

-- names

named-view : {g : Env} {l : Name} (m : Module) → NamedGives g l m → (o : Sig × Term) × (find g l ≡ Some o) × (m ≡ made Pure (Abs.Ex [] o.0) [] o.1)
named-view _ (NamedGives.named {s = s} {e = e} p) = ((s, e), p, refl)

named-refused : {g : Env} {l : Name} {why : ModWhy} → NamedRefuses g l why → (find g l ≡ None) × (why ≡ Unbound l)
named-refused (NamedRefuses.unbound p) = (p, refl)

some-none : {A : Type 0} {x : A} → Path (Option A) (Some x) None → ⊥
some-none e = cc

-- a name is found as exactly one thing, or refused
pub found-one : (g : Env) (l : Name) → Verdict (λ o. find g l ≡ Some o) (NamedRefuses g l)
found-one g l = go (find g l) refl
  where
    go : (r : Option (Sig × Term)) → find g l ≡ r → Verdict (λ o. find g l ≡ Some o) (NamedRefuses g l)
    go None e = refuses (Unbound l) (NamedRefuses.unbound e) (λ q r. (named-refused r).1) (λ o p. some-none (sym p ∙ e))
    go (Some o) e = holds o e (λ q p. some-same (sym p ∙ e)) (λ why r. some-none (sym e ∙ (named-refused r).0))

-- the rule of names has exactly one conclusion or one refusal
pub one_named : OneNamed
one_named g l = go (found-one g l)
  where
    go : Verdict (λ o. find g l ≡ Some o) (NamedRefuses g l) → Verdict (NamedGives g l) (NamedRefuses g l)
    go (holds o e only never) = holds (made Pure (Abs.Ex [] o.0) [] o.1) (NamedGives.named e) (λ m p. let v = named-view m p in v.2 ∙ ap (λ (q : Sig × Term). made Pure (Abs.Ex [] q.0) [] q.1) (only v.0 v.1)) never
    go (refuses why r only never) = refuses why r only (λ m p. let v = named-view m p in never v.0 v.1)

-- two conditions, each with one value or one refusal: the form of a part, and what is in it

abbrev Reason : {A N : Type 0} → ModWhy → ModWhy → (A → Type 0) → (A → N → Type 0) → ModWhy → Type 0
Reason {A} {N} first second Is In why = (((p : A) → Is p → ⊥) × (why ≡ first)) ⊎ ((p : A) × Is p × ((n : N) → In p n → ⊥) × (why ≡ second))

two-conditions : {A N O : Type 0} {Is : A → Type 0} {In : A → N → Type 0} {Gives : O → Type 0} {Refuses : ModWhy → Type 0} {first second : ModWhy}
    → Perhaps Is
    → ((p : A) → Is p → Perhaps (In p))
    → ((p : A) (n : N) → Is p → In p n → ((q : A) (m : N) → Is q → In q m → (q ≡ p) × (m ≡ n)) → One Gives)
    → ((o : O) → Gives o → (p : A) × (n : N) × Is p × In p n)
    → (((p : A) → Is p → ⊥) → Refuses first)
    → ((p : A) → Is p → ((n : N) → In p n → ⊥) → Refuses second)
    → ((why : ModWhy) → Refuses why → Reason first second Is In why)
    → Verdict Gives Refuses
two-conditions {Is = Is} {In = In} {first = first} {second = second} (none never) inner gives view wrong lacks reason = refuses first (wrong never) (λ why r. same why (reason why r)) (λ o g. let v = view o g in never v.0 v.2)
  where
    same : (why : ModWhy) → Reason first second Is In why → why ≡ first
    same why (inl x) = x.1
    same why (inr x) = absurd (never x.0 x.1)
two-conditions {A} {N} {Is = Is} {In = In} {Gives = Gives} {Refuses = Refuses} {first = first} {second = second} (one p i only) inner gives view wrong lacks reason = go (inner p i)
  where
    here : (q : A) → Is q → (m : N) → In q m → In p m
    here q j m h = subst (λ q. In q m) (only q j) h

    go : Perhaps (In p) → Verdict Gives Refuses
    go (one n h only_n) = let o = gives p n i h (λ q m j g. (only q j, only_n m (here q j m g))) in holds o.0 o.1 o.2 (λ why r. never why (reason why r))
      where
        never : (why : ModWhy) → Reason first second Is In why → ⊥
        never why (inl x) = x.0 p i
        never why (inr x) = x.2 n (subst (λ q. In q n) (sym (only x.0 x.1)) h)
    go (none n) = refuses second (lacks p i n) (λ why r. same why (reason why r)) (λ o g. let v = view o g in n v.1 (here v.0 v.2 v.1 v.3))
      where
        same : (why : ModWhy) → Reason first second Is In why → why ≡ second
        same why (inl x) = absurd (x.0 p i)
        same why (inr x) = x.3

-- projections

projected-part : {ctx ks : List Kind} {f : Effect} {s : Sig} {ts : List Ty} {e : Term} {l : Name} (n : Module) → Projected ctx (made f (Abs.Ex ks s) ts e) l n → (fs : SigRow) × (t : Sig) × (s ≡ Sig.Str fs) × HasField fs l t
projected-part _ (Projected.pure {fs = fs} {s = s} h) = (fs, s, refl, h)
projected-part _ (Projected.impure {fs = fs} {s = s} h p) = (fs, s, refl, h)

project-reason : {ks : List Kind} {f : Effect} {s : Sig} {ts : List Ty} {e : Term} {l : Name} (why : ModWhy) → ProjectRefuses (made f (Abs.Ex ks s) ts e) l why → Reason NotStructure (NoPart l) (λ fs. s ≡ Sig.Str fs) (λ fs t. HasField fs l t) why
project-reason _ (ProjectRefuses.no_structure n) = inl (n, refl)
project-reason _ (ProjectRefuses.no_part {fs = fs} n) = inr (fs, refl, n, refl)

projected-outcome : (ctx ks : List Kind) (f : Effect) (s : Sig) (ts : List Ty) (e : Term) (l : Name) → ((fs : SigRow) (t : Sig) → s ≡ Sig.Str fs → HasField fs l t → One (Projected ctx (made f (Abs.Ex ks (Sig.Str fs)) ts e) l)) → Verdict (Projected ctx (made f (Abs.Ex ks s) ts e) l) (ProjectRefuses (made f (Abs.Ex ks s) ts e) l)
projected-outcome ctx ks f s ts e l part =
    two-conditions (sig-structure s) (λ fs i. field-at fs l)
    (λ fs t i h only. subst (λ s. One (Projected ctx (made f (Abs.Ex ks s) ts e) l)) (sym i) (part fs t i h))
    projected-part
    ProjectRefuses.no_structure
    (λ fs i n. subst (λ s. ProjectRefuses (made f (Abs.Ex ks s) ts e) l (NoPart l)) (sym i) (ProjectRefuses.no_part n))
    project-reason

-- the rule of projections has exactly one conclusion or one refusal
pub one_projected : OneProjected
one_projected ctx (made f (Abs.Ex ks s) ts e) l ok =
    projected-outcome ctx ks f s ts e l (λ fs t i h. projected-kinded ctx ks f fs ts e l t (subst (λ s. KindedAbs ctx (Abs.Ex ks s)) i ok.0) h)

-- the rule of projections from pure modules has exactly one conclusion or one refusal
pub one_pure_projected : OnePureProjected
one_pure_projected ctx (Abs.Ex ks s) ts e l = projected-outcome ctx ks Pure s ts e l (λ fs t i h. projected-pure ctx ks fs ts e l t h)

-- paths: a part of one form, said without the hidden types

path-verdict : {A N O : Type 0} {Is : A → Type 0} {Out : A → N → Type 0} {Gives : O → Type 0} {Refuses : ModWhy → Type 0} (result : A → N → O)
    → Perhaps Is
    → ((p : A) → Is p → Perhaps (Out p))
    → ((p : A) (n : N) → Is p → Out p n → Gives (result p n))
    → ((o : O) → Gives o → (p : A) × (n : N) × Is p × Out p n × (o ≡ result p n))
    → (((p : A) → Is p → ⊥) → Refuses WrongPath)
    → ((p : A) → Is p → ((n : N) → Out p n → ⊥) → Refuses Escapes)
    → ((why : ModWhy) → Refuses why → Reason WrongPath Escapes Is Out why)
    → Verdict Gives Refuses
path-verdict result form outside gives view wrong escapes reason =
    two-conditions form outside
    (λ p n i h only. (result p n, gives p n i h, λ o g. let v = view o g in let e = only v.0 v.1 v.2 v.3 in v.4 ∙ (λ j. result (e.0 j) (e.1 j))))
    (λ o g. let v = view o g in (v.0, v.1, v.2, v.3)) wrong escapes reason

-- paths as types

type-view : {ctx ks : List Kind} {f : Effect} {s : Sig} {ts : List Ty} {e : Term} (o : Ty × Kind) → TypeOfPath ctx (made f (Abs.Ex ks s) ts e) o.0 o.1 → (p : Ty × Kind) × (n : Ty) × (s ≡ Sig.Typ p.0 p.1) × Outside ctx ks p.0 p.1 n × (o ≡ (n, p.1))
type-view _ (TypeOfPath.type_of {t = t} {n = n} {k = k} o) = ((t, k), n, refl, o, refl)

type-reason : {ctx ks : List Kind} {f : Effect} {s : Sig} {ts : List Ty} {e : Term} (why : ModWhy) → TypePathRefuses ctx (made f (Abs.Ex ks s) ts e) why → Reason WrongPath Escapes (λ (p : Ty × Kind). s ≡ Sig.Typ p.0 p.1) (λ p n. Outside ctx ks p.0 p.1 n) why
type-reason _ (TypePathRefuses.no_type n) = inl ((λ p e. n p.0 p.1 e), refl)
type-reason _ (TypePathRefuses.escapes {t = t} {k = k} n) = inr ((t, k), refl, n, refl)

-- the rule of paths to types has exactly one conclusion or one refusal
pub one_type_path : OneTypePath
one_type_path ctx (made f (Abs.Ex ks s) ts e) ok =
    path-verdict (λ p n. (n, p.1)) (sig-type s)
    (λ p i. type-outside ctx ks p.0 p.1 (normal-kind (subst (NormalSig (extend ctx ks)) i ok.0.1)))
    (λ p n i o. subst (λ s. TypeOfPath ctx (made f (Abs.Ex ks s) ts e) n p.1) (sym i) (TypeOfPath.type_of o))
    type-view
    (λ n. TypePathRefuses.no_type (λ t k. n (t, k)))
    (λ p i n. subst (λ s. TypePathRefuses ctx (made f (Abs.Ex ks s) ts e) Escapes) (sym i) (TypePathRefuses.escapes n))
    type-reason

-- paths as values

value-view : {ctx ks : List Kind} {f : Effect} {s : Sig} {ts : List Ty} {e : Term} (o : Ty × Term) → ValueOfPath ctx (made f (Abs.Ex ks s) ts e) o.0 o.1 → (t n : Ty) × (s ≡ Sig.Val t) × Outside ctx ks t Kind.Star n × (o ≡ (n, value_of f ks e (enc_abs (Abs.Ex ks (Sig.Val t)))))
value-view _ (ValueOfPath.value_at {t = t} {n = n} o) = (t, n, refl, o, refl)

value-reason : {ctx ks : List Kind} {f : Effect} {s : Sig} {ts : List Ty} {e : Term} (why : ModWhy) → ValuePathRefuses ctx (made f (Abs.Ex ks s) ts e) why → Reason WrongPath Escapes (λ t. s ≡ Sig.Val t) (λ t n. Outside ctx ks t Kind.Star n) why
value-reason _ (ValuePathRefuses.no_value n) = inl (n, refl)
value-reason _ (ValuePathRefuses.escapes {t = t} n) = inr (t, refl, n, refl)

-- the rule of paths to values has exactly one conclusion or one refusal
pub one_value_path : OneValuePath
one_value_path ctx (made f (Abs.Ex ks s) ts e) ok =
    path-verdict (λ t n. (n, value_of f ks e (enc_abs (Abs.Ex ks (Sig.Val t))))) (sig-value s)
    (λ t i. type-outside ctx ks t Kind.Star (normal-kind (subst (NormalSig (extend ctx ks)) i ok.0.1)))
    (λ t n i o. subst (λ s. ValueOfPath ctx (made f (Abs.Ex ks s) ts e) n (value_of f ks e (enc_abs (Abs.Ex ks (Sig.Val t))))) (sym i) (ValueOfPath.value_at o))
    value-view
    ValuePathRefuses.no_value
    (λ t i n. subst (λ s. ValuePathRefuses ctx (made f (Abs.Ex ks s) ts e) Escapes) (sym i) (ValuePathRefuses.escapes n))
    value-reason

-- paths as signatures

sig-view : {ctx ks : List Kind} {f : Effect} {s : Sig} {ts : List Ty} {e : Term} (y : Abs) → SigOfPath ctx (made f (Abs.Ex ks s) ts e) y → (x n : Abs) × (s ≡ Sig.Meta x) × SigOutside ctx ks x n × (y ≡ n)
sig-view y (SigOfPath.sig_of {x = x} o) = (x, y, refl, o, refl)

sig-reason : {ctx ks : List Kind} {f : Effect} {s : Sig} {ts : List Ty} {e : Term} (why : ModWhy) → SigPathRefuses ctx (made f (Abs.Ex ks s) ts e) why → Reason WrongPath Escapes (λ x. s ≡ Sig.Meta x) (λ x n. SigOutside ctx ks x n) why
sig-reason _ (SigPathRefuses.no_signature n) = inl (n, refl)
sig-reason _ (SigPathRefuses.escapes {x = x} n) = inr (x, refl, n, refl)

-- the rule of paths to signatures has exactly one conclusion or one refusal
pub one_sig_path : OneSigPath
one_sig_path ctx (made f (Abs.Ex ks s) ts e) ok =
    path-verdict (λ x n. n) (sig-meta s)
    (λ x i. sig-outside ctx ks x (normal-conv_abs (extend ctx ks) x (subst (NormalSig (extend ctx ks)) i ok.0.1)))
    (λ x n i o. subst (λ s. SigOfPath ctx (made f (Abs.Ex ks s) ts e) n) (sym i) (SigOfPath.sig_of o))
    sig-view
    SigPathRefuses.no_signature
    (λ x i n. subst (λ s. SigPathRefuses ctx (made f (Abs.Ex ks s) ts e) Escapes) (sym i) (SigPathRefuses.escapes n))
    sig-reason

-- generative functors

generative-view : {ctx ks : List Kind} {s : Sig} {f : Effect} {y : Abs} {ts : List Ty} {e : Term} {n : Module} → GenerativeGives ctx ks s (made f y ts e) n → (d : Term) × Packed (extend ctx ks) (made f y ts e) d × (n ≡ made Pure (Abs.Ex [] (Sig.Fun Impure ks s y)) [] (ty_lam_over ks (Term.Lam (enc s) (one_field Label.Gen d))))
generative-view (GenerativeGives.generative {d = d} p) = (d, p, refl)

-- the rule of generative functors has exactly one conclusion
pub one_generative : OneGenerative
one_generative ctx ks s (made f y ts e) ok =
    let p = packed-kinded (extend ctx ks) (made f y ts e) ok in
    (made Pure (Abs.Ex [] (Sig.Fun Impure ks s y)) [] (ty_lam_over ks (Term.Lam (enc s) (one_field Label.Gen p.0))), GenerativeGives.generative p.1, λ n g. let v = generative-view g in v.2 ∙ ap (λ d. made Pure (Abs.Ex [] (Sig.Fun Impure ks s y)) [] (ty_lam_over ks (Term.Lam (enc s) (one_field Label.Gen d)))) (p.2 v.0 v.1))

-- applications

parts-view : {s : Sig} {o : Effect × Abs × Abs} → PartsGive s o.0 o.1 o.2 → (ks : List Kind) × (t : Sig) × (s ≡ Sig.Fun o.0 ks t o.2) × (o.1 ≡ Abs.Ex ks t)
parts-view (PartsGive.parts {ks = ks} {s = t}) = (ks, t, refl, refl)

parts-only : {f : Effect} {ks : List Kind} {t : Sig} {y : Abs} (o : Effect × Abs × Abs) → PartsGive (Sig.Fun f ks t y) o.0 o.1 o.2 → o ≡ (f, Abs.Ex ks t, y)
parts-only _ PartsGive.parts = refl

-- the parameter of a good functor may stand on the right
pub param-ok : {ctx : List Kind} {s : Sig} {f : Effect} {param result : Abs} → PartsGive s f param result → OkSig ctx s → OkRight ctx param
param-ok PartsGive.parts w = ((left-functor w.0).0, w.1.0)

functor-refused : {s : Sig} {why : ModWhy} → FunctorRefuses s why → ((f : Effect) (ks : List Kind) (t : Sig) (x : Abs) → s ≢ Sig.Fun f ks t x) × (why ≡ NotFunctor)
functor-refused (FunctorRefuses.no_functor n) = (n, refl)

-- the rule of a functor's parts has exactly one conclusion or one refusal
pub one_parts : OneParts
one_parts s = go (sig-functor s)
  where
    go : Perhaps (λ (p : Effect × List Kind × Sig × Abs). s ≡ Sig.Fun p.0 p.1 p.2 p.3) → Verdict (λ (o : Effect × Abs × Abs). PartsGive s o.0 o.1 o.2) (FunctorRefuses s)
    go (one p e only) = subst (λ s. Verdict (λ (o : Effect × Abs × Abs). PartsGive s o.0 o.1 o.2) (FunctorRefuses s)) (sym e) (holds (p.0, Abs.Ex p.1 p.2, p.3) PartsGive.parts parts-only (λ why r. (functor-refused r).0 p.0 p.1 p.2 p.3 refl))
    go (none n) = refuses NotFunctor (FunctorRefuses.no_functor (λ f ks t x. n (f, ks, t, x))) (λ why r. (functor-refused r).1) (λ o g. let v = parts-view {o = o} g in n (o.0, v.0, v.1, o.2) v.2)

abbrev applied : Effect → Abs → List Ty → Term → Term → Term → Module
applied f w ts d c e = made f w [] (Term.Get (Term.Call (insts d ts) (Term.Call c e)) (result_label f))

apply-parts : {ctx : List Kind} {s : Sig} {ts : List Ty} {c d e : Term} {m : Module} → ApplyGives ctx s d ts c e m → (o : Effect × Abs × Abs) × PartsGive s o.0 o.1 o.2
apply-parts (ApplyGives.apply {f = f} {ks = ks} {s = t} {y = y} n) = ((f, Abs.Ex ks t, y), PartsGive.parts)

apply-functor : {ctx ks : List Kind} {f : Effect} {t : Sig} {y : Abs} {ts : List Ty} {c d e : Term} {m : Module} → ApplyGives ctx (Sig.Fun f ks t y) d ts c e m → (w : Abs) × NormalAbsForm ctx (abs_at ts y) w × (m ≡ applied f w ts d c e)
apply-functor (ApplyGives.apply {w = w} n) = (w, n, refl)

apply-one : {ctx ks : List Kind} {f : Effect} {t : Sig} {y : Abs} {ts : List Ty} {c d e : Term} → OfKinds ctx ts ks → NormalSig ctx (Sig.Fun f ks t y) → One (ApplyGives ctx (Sig.Fun f ks t y) d ts c e)
apply-one {f = f} {y = y} {ts = ts} {c = c} {d = d} {e = e} h n =
    let r = result-one y h n.1 in
    (applied f r.0 ts d c e, ApplyGives.apply r.1, λ m g. let v = apply-functor g in v.2 ∙ ap (λ w. applied f w ts d c e) (r.2 v.0 v.1))

-- the rule of applications has exactly one conclusion or one refusal
pub one_apply : OneApply
one_apply ctx s d ts c e n fits = go (sig-functor s)
  where
    go : Perhaps (λ (p : Effect × List Kind × Sig × Abs). s ≡ Sig.Fun p.0 p.1 p.2 p.3) → Verdict (ApplyGives ctx s d ts c e) (FunctorRefuses s)
    go (one p i only) =
        let r = subst (λ s. One (ApplyGives ctx s d ts c e)) (sym i) (apply-one (forms-kinds (fits p.0 p.1 p.2 p.3 i)) (subst (NormalSig ctx) i n)) in
        holds r.0 r.1 r.2 (λ why q. (functor-refused q).0 p.0 p.1 p.2 p.3 i)
    go (none never) = refuses NotFunctor (FunctorRefuses.no_functor (λ f ks t x. never (f, ks, t, x))) (λ why q. (functor-refused q).1) (λ m g. let v = apply-parts g in let u = parts-view {o = v.0} v.1 in never (v.0.0, u.0, u.1, v.0.2) u.2)

-- a functor at the types of a match has exactly one application
pub applies-one : {ctx : List Kind} {s t : Sig} {f : Effect} {param result : Abs} {ts : List Ty} {c d e : Term} → PartsGive s f param result → Match ctx t param ts c → OkSig ctx s → One (ApplyGives ctx s d ts c e)
applies-one PartsGive.parts m w = apply-one (match-kinds m) w.1

-- included modules

abbrev with_lets : SigRow → Module → Module
with_lets fs (made f y ts e) = made f y ts (field_lets 0 fs e)

-- structures that are the same have the same fields
pub str-same : {fs gs : SigRow} → Sig.Str fs ≡ Sig.Str gs → fs ≡ gs
str-same e = cc

include-view : {ctx ks : List Kind} {f : Effect} {s : Sig} {ts : List Ty} {e : Term} {rest m : Module} → IncludeGives ctx (made f (Abs.Ex ks s) ts e) rest m → (fs : SigRow) × (s ≡ Sig.Str fs) × Seq ctx (made f (Abs.Ex ks (Sig.Str fs)) ts e) (with_lets fs rest) m
include-view (IncludeGives.include {fs = fs} q) = (fs, refl, q)

include-gives : {ctx ks : List Kind} {f : Effect} {fs : SigRow} {ts : List Ty} {e : Term} (rest : Module) {m : Module} → Seq ctx (made f (Abs.Ex ks (Sig.Str fs)) ts e) (with_lets fs rest) m → IncludeGives ctx (made f (Abs.Ex ks (Sig.Str fs)) ts e) rest m
include-gives (made h y us d) q = IncludeGives.include q

include-refused : {ks : List Kind} {f : Effect} {s : Sig} {ts : List Ty} {e : Term} {why : ModWhy} → IncludeRefuses (made f (Abs.Ex ks s) ts e) why → ((fs : SigRow) → s ≢ Sig.Str fs) × (why ≡ NotStructure)
include-refused (IncludeRefuses.no_structure n) = (n, refl)

lets-kinded : (ctx : List Kind) (fs : SigRow) (rest : Module) → DistinctRow fs → NormalSigRow ctx fs → KindedModule ctx rest → KindedModule ctx (with_lets fs rest)
lets-kinded ctx fs (made f (Abs.Ex js t) us e) d w h = (h.0, h.1, lets-normal ctx 0 fs e d w h.2)

include-kinded : (ctx ks : List Kind) (f : Effect) (fs : SigRow) (ts : List Ty) (e : Term) (rest : Module) → KindedModule ctx (made f (Abs.Ex ks (Sig.Str fs)) ts e) → KindedModule (extend ctx ks) rest → One (IncludeGives ctx (made f (Abs.Ex ks (Sig.Str fs)) ts e) rest)
include-kinded ctx ks f fs ts e rest v inner =
    let q = seq-kinded ctx ks f (Sig.Str fs) ts e (with_lets fs rest) v (lets-kinded (extend ctx ks) fs rest v.0.0 v.0.1 inner) in
    (q.0, include-gives rest q.1, λ m g. let u = include-view g in q.2 m (subst (λ gs. Seq ctx (made f (Abs.Ex ks (Sig.Str gs)) ts e) (with_lets gs rest) m) (sym (str-same u.1)) u.2))

-- the rule of includes has exactly one conclusion for well formed modules
pub include-one : (ctx ks : List Kind) (f : Effect) (fs : SigRow) (ts : List Ty) (e : Term) (rest : Module) → OkModule ctx (made f (Abs.Ex ks (Sig.Str fs)) ts e) → OkModule (extend ctx ks) rest → One (IncludeGives ctx (made f (Abs.Ex ks (Sig.Str fs)) ts e) rest)
include-one ctx ks f fs ts e rest v inner = include-kinded ctx ks f fs ts e rest (kinded ctx (made f (Abs.Ex ks (Sig.Str fs)) ts e) v) (kinded (extend ctx ks) rest inner)

-- what is included is a structure, or refused
pub included-structure : (ks : List Kind) (f : Effect) (s : Sig) (ts : List Ty) (e : Term) → Verdict (λ fs. s ≡ Sig.Str fs) (IncludeRefuses (made f (Abs.Ex ks s) ts e))
included-structure ks f s ts e = go (sig-structure s)
  where
    go : Perhaps (λ fs. s ≡ Sig.Str fs) → Verdict (λ fs. s ≡ Sig.Str fs) (IncludeRefuses (made f (Abs.Ex ks s) ts e))
    go (one fs i only) = holds fs i only (λ why r. (include-refused r).0 fs i)
    go (none n) = refuses NotStructure (IncludeRefuses.no_structure n) (λ why r. (include-refused r).1) n

-- the rule of includes has exactly one conclusion or one refusal
pub one_include : OneInclude
one_include ctx ks f s ts e rest ok inner = go (included-structure ks f s ts e)
  where
    go : Verdict (λ fs. s ≡ Sig.Str fs) (IncludeRefuses (made f (Abs.Ex ks s) ts e)) → Verdict (IncludeGives ctx (made f (Abs.Ex ks s) ts e) rest) (IncludeRefuses (made f (Abs.Ex ks s) ts e))
    go (holds fs i only never) =
        let q = subst (λ s. One (IncludeGives ctx (made f (Abs.Ex ks s) ts e) rest)) (sym i) (include-kinded ctx ks f fs ts e rest (subst (λ s. KindedModule ctx (made f (Abs.Ex ks s) ts e)) i ok) inner) in
        holds q.0 q.1 q.2 never
    go (refuses why r only never) = refuses why r only (λ m g. let u = include-view g in never u.0 u.1)

-- sealing and single bindings

seal-only : {e c : Term} {y : Abs} {ts : List Ty} (m : Module) → SealGives e y ts c m → m ≡ made Pure y ts (Term.Call c e)
seal-only _ SealGives.seal = refl

-- the rule of seals has exactly one conclusion
pub one_seal : OneSeal
one_seal e y ts c = (made Pure y ts (Term.Call c e), SealGives.seal, seal-only)

value_module-only : {t : Ty} {e : Term} (m : Module) → ValueGives t e m → m ≡ made Pure (Abs.Ex [] (Sig.Val t)) [] (value_term e)
value_module-only _ ValueGives.value = refl

-- the rule of value bindings has exactly one conclusion
pub one_value_module : OneValueModule
one_value_module t e = (made Pure (Abs.Ex [] (Sig.Val t)) [] (value_term e), ValueGives.value, value_module-only)

type_module-only : {t : Ty} {k : Kind} (m : Module) → TypeGives t k m → m ≡ made Pure (Abs.Ex [] (Sig.Typ t k)) [] (type_term t k)
type_module-only _ TypeGives.type = refl

-- the rule of type bindings has exactly one conclusion
pub one_type_module : OneTypeModule
one_type_module t k = (made Pure (Abs.Ex [] (Sig.Typ t k)) [] (type_term t k), TypeGives.type, type_module-only)

signature_module-only : {x : Abs} (m : Module) → SignatureGives x m → m ≡ made Pure (Abs.Ex [] (Sig.Meta x)) [] (sig_term (enc_abs x))
signature_module-only _ SignatureGives.signature = refl

-- the rule of signature bindings has exactly one conclusion
pub one_signature_module : OneSignatureModule
one_signature_module x = (made Pure (Abs.Ex [] (Sig.Meta x)) [] (sig_term (enc_abs x)), SignatureGives.signature, signature_module-only)
