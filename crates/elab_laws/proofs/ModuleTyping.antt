-- Modules whose terms have the types that their signatures say, and what keeps this.
-- Main results: packed-typed, seq-typed, path-value.
use Rattle.std.specs.Prelude.{ℕ, List, [], ◌∷◌, ◌++◌, map, ◌≡◌}
use Rattle.std.proofs.Math.Path.{refl, sym, ◌∙◌, ap, ap₂, subst}
use Rattle.omega_kinds.specs.Kind.{Kind}
use Rattle.omega_kinds.specs.declared.effect.Effect.{Effect}
use Rattle.omega_kinds.specs.declared.effect.Effect.TheVariants.{Pure, Impure}
use Rattle.omega_kinds.specs.Name.{Name}
use Rattle.omega_types.specs.Ty.{Ty}
use Rattle.omega_types.specs.Substitution.{rename, substitute}
use Rattle.omega_types.specs.Conversion.{Conv}
use Rattle.omega_types.specs.Conversion.Conv.{c_refl, c_sym, c_trans}
use Rattle.omega_types.specs.Normality.{Normal}
use Rattle.omega_types.specs.Normaliser.{normal}
use Rattle.omega_types.specs.Binders.{extend, past, lifts, raise, ex_over, vars, puts, NormalForms}
use Rattle.omega_types.proofs.Algebra.{substitute-rename, substitute-substitute, substitute-id}
use Rattle.omega_types.proofs.Preservation.{Convertible, normal-kind, normal-rename, conv-rename, conv-substitute, kind-substitute, substitute-convertible}
use Rattle.omega_types.proofs.Readback.{unique_normal_forms}
use Rattle.omega_types.proofs.LawProofs.{normal_of_normal}
use Rattle.omega_types.proofs.BinderPuts.{past-maps, lifts-maps, rename-ex_over, ex_over-append, ex_over-normal, substitute-raise, substitute-puts, puts-lifts, puts-append, puts-convertible, vars-stand, vars-kinds, forms-types, NormalTypes, types-fit, types-substitute, types-append, form-is}
use Rattle.omega_terms.specs.Term.{Term}
use Rattle.omega_terms.specs.Typing.{HasPart}
use Rattle.omega_terms.specs.Shorthands.{Packs}
use Rattle.omega_terms.proofs.NormalTyping.{Typed, cast, recast, AllNormal}
use Rattle.omega_terms.proofs.NormalInstance.{form_at, form-part, shifts, all-shifts, tied-self, typed-instance, forms-puts, forms-stay}
use Rattle.omega_terms.proofs.TypedShorthands.{typed-let, form-form, form-none, typed-packs, typed-opens, typed-opened, at-opened}
use Rattle.sig_definitions.specs.Signatures.Sig.{Sig, Abs, Module, made}
use Rattle.sig_definitions.specs.Signatures.Encoding.{enc}
use Rattle.sig_definitions.specs.Packing.{Packed}
use Rattle.sig_laws.proofs.Encoded.EncodingTyping.{shape-substitute, enc-form, Good, good-normal, good-field, enc-field}
use Rattle.module_judgments.specs.PathUse.{Outside, TypeOfPath, ValueOfPath}
use Rattle.module_judgments.specs.Projection.{Projected}
use Rattle.module_judgments.specs.Sequence.{Seq}
use Rattle.omega_types.proofs.BinderLaws.{extend-append}
use Rattle.omega_types.proofs.Inverse.{same-normal}
use Rattle.sig_laws.proofs.Encoded.EncodingLaws.{enc-substitute}

-- A pure module's term has the type of its signature's body at the types kept, an impure one's that of the
-- whole, and it keeps no types.
pub data GoodModule (ctx : List Kind) (vs : List Ty) : Module → Type 0 where
  pure : {ks : List Kind} {s : Sig} {ts : List Ty} {e : Term} → Good (extend ctx ks) s → NormalTypes ctx ts ks → Typed ctx vs e (form_at ctx (puts ts Ty.Var) (enc s)) → GoodModule ctx vs (made Pure (Abs.Ex ks s) ts e)
  impure : {ks : List Kind} {s : Sig} {e : Term} → Good (extend ctx ks) s → Typed ctx vs e (ex_over ks (enc s)) → GoodModule ctx vs (made Impure (Abs.Ex ks s) [] e)

-- a module that hides nothing
pub plain-module : {ctx : List Kind} {vs : List Ty} {s : Sig} {e : Term} → Good ctx s → Typed ctx vs e (enc s) → GoodModule ctx vs (made Pure (Abs.Ex [] s) [] e)
plain-module g h = GoodModule.pure g NormalTypes.none (cast (form-none (good-normal g)) h)

-- the body of the signature of a good module is good
pub module-good : {ctx : List Kind} {vs : List Ty} {f : Effect} {ks : List Kind} {s : Sig} {ts : List Ty} {e : Term} → GoodModule ctx vs (made f (Abs.Ex ks s) ts e) → Good (extend ctx ks) s
module-good (GoodModule.pure g n h) = g
module-good (GoodModule.impure g h) = g

-- packing
-- the packed term of a good module has the type of its encoded signature
pub packed-typed : {ctx : List Kind} {vs : List Ty} {f : Effect} {ks : List Kind} {s : Sig} {ts : List Ty} {e p : Term} → GoodModule ctx vs (made f (Abs.Ex ks s) ts e) → Packed ctx (made f (Abs.Ex ks s) ts e) p → Typed ctx vs p (ex_over ks (enc s))
packed-typed (GoodModule.pure g n h) (Packed.pure p) = typed-packs n (good-normal g) h refl p
packed-typed (GoodModule.impure g h) Packed.impure = h

-- types packed again where they are opened

vars-in : (ctx ks : List Kind) (X : Ty) → Normal (extend ctx ks) X Kind.Star → form_at (extend ctx ks) (puts (vars ks) Ty.Var) (rename (lifts ks (past ks)) X) ≡ X
vars-in ctx ks X n =
    let f = types-fit (forms-types (vars-kinds ctx ks)) in
    ap (normal (extend ctx ks)) (substitute-rename (puts (vars ks) Ty.Var) (lifts ks (past ks)) X ∙ ap (λ s. substitute s X) (puts-lifts f Ty.Var (past ks))) ∙
    (same-normal (substitute-convertible (puts (vars ks) (λ i. Ty.Var (past ks i))) Ty.Var (vars-stand ctx ks) (normal-kind n)) ∙
    (ap (normal (extend ctx ks)) (substitute-id X) ∙ normal_of_normal (extend ctx ks) X Kind.Star n))

repack : {vs : List Ty} {u : Ty} {e d : Term} (ctx ks : List Kind) (X : Ty) → Normal (extend ctx ks) X Kind.Star → Typed (extend ctx ks) vs e X → u ≡ raise ks (ex_over ks X) → Packs (extend ctx ks) (vars ks) e u d → Typed (extend ctx ks) vs d (raise ks (ex_over ks X))
repack ctx ks X n h q p =
    let r = rename-ex_over (past ks) ks X in
    cast (sym r) (typed-packs (forms-types (vars-kinds ctx ks)) (normal-rename (lifts ks (past ks)) (lifts-maps ks (past-maps ctx ks)) n) (cast (sym (vars-in ctx ks X n)) h) (q ∙ r) p)

-- sequences

seq-type : {ctx ks js : List Kind} {ts us ns : List Ty} {t : Sig} → NormalTypes ctx ts ks → NormalTypes (extend ctx ks) us js → Good (extend (extend ctx ks) js) t → NormalForms ctx (map (substitute (puts ts Ty.Var)) us) js ns → form_at ctx (puts ts Ty.Var) (form_at (extend ctx ks) (puts us Ty.Var) (enc t)) ≡ form_at ctx (puts (ts ++ ns) Ty.Var) (enc t)
seq-type {ctx} {ks} {js} {ts} {us} {ns} {t} n m g f =
    let S : ℕ → Ty = puts ts Ty.Var in
    let k = normal-kind (good-normal g) in
    let sub = types-substitute n in
    let c : Convertible (extend ctx ks) ctx S S = λ i l x. c_refl (sub i l x) in
    form-form sub (kind-substitute (puts us Ty.Var) (types-substitute m) k) ∙
    (ap (normal ctx) (substitute-substitute S (puts us Ty.Var) (enc t) ∙ ap (λ s. substitute s (enc t)) (substitute-puts S us Ty.Var)) ∙
    (same-normal (substitute-convertible (puts (map (substitute S) us) S) (puts ns S) (puts-convertible f c) k) ∙
    ap (λ s. form_at ctx s (enc t)) (sym (puts-append ts ns Ty.Var))))

-- a good binding before a good rest makes a good module
pub seq-typed : {ctx ks : List Kind} {vs : List Ty} {f : Effect} {s : Sig} {ts : List Ty} {e : Term} {rest whole : Module} → AllNormal ctx vs → GoodModule ctx vs (made f (Abs.Ex ks s) ts e) → GoodModule (extend ctx ks) (enc s ∷ shifts ks vs) rest → Seq ctx (made f (Abs.Ex ks s) ts e) rest whole → GoodModule ctx vs whole
seq-typed {ctx} {ks} {vs} v (GoodModule.pure g n h) (GoodModule.pure i m k) (Seq.both_pure {js = js} {s = s} {t = t} {n = r} {ts = ts} a b c) =
    let S : ℕ → Ty = puts ts Ty.Var in
    let sub = types-substitute n in
    let form = enc-form a (shape-substitute S s (g.shape)) in
    let q : enc r ≡ form_at ctx S (enc s) = form-is form ∙ ap (normal ctx) (enc-substitute S s) in
    let rest = typed-instance (tied-self sub) sub (good-normal g, all-shifts ctx ks vs v) k c in
    let others : map (form_at ctx S) (enc s ∷ shifts ks vs) ≡ enc r ∷ vs = ap₂ ◌∷◌ (sym q) (forms-puts ctx Ty.Var vs (types-fit n) ∙ forms-stay ctx vs v) in
    GoodModule.pure (subst (λ x. Good x t) (sym (extend-append ctx ks js)) i) (types-append n (forms-types b)) (typed-let form.0 (cast (sym q) h) (cast (seq-type n m i b) (recast others rest)))
seq-typed {ctx} {ks} {vs} v g h (Seq.some_impure {js = js} {s = s} {t = t} {q = q} j a b c) =
    let X : Ty = ex_over js (enc t) in
    let n : Normal (extend ctx ks) X Kind.Star = ex_over-normal js (good-normal (module-good h)) in
    let over = ex_over-append ks js (enc t) in
    let body = repack ctx ks X n (typed-opened ctx vs (enc s) ks (packed-typed h b)) (ap (raise ks) over) c in
    let T = good-normal (module-good g) in
    GoodModule.impure (subst (λ x. Good x t) (sym (extend-append ctx ks js)) (module-good h)) (cast (sym over) (typed-opens ks (ex_over-normal ks n) T (packed-typed g a) body))

-- what paths stand for

outside-given : {ctx ks : List Kind} {ts : List Ty} {t n : Ty} {k : Kind} → NormalTypes ctx ts ks → Outside ctx ks t k n → n ≡ form_at ctx (puts ts Ty.Var) t
outside-given {ctx} {ks} {ts} {t} {n} {k} m (Outside.outside u c f) =
    let d : Conv ctx u (substitute (puts ts Ty.Var) t) k = subst (λ x. Conv ctx x (substitute (puts ts Ty.Var) t) k) (substitute-raise (types-fit m) u) (conv-substitute (puts ts Ty.Var) (types-substitute m) c) in
    form-is f ∙ same-normal d

outside-raised : {ctx ks : List Kind} {t n : Ty} {k : Kind} → Normal (extend ctx ks) t k → Outside ctx ks t k n → t ≡ raise ks n
outside-raised {ctx} {ks} {t} {n} {k} m (Outside.outside u c f) =
    unique_normal_forms (extend ctx ks) t (raise ks n) k m (normal-rename (past ks) (past-maps ctx ks) f.0) (c_trans (c_sym c) (conv-rename (past ks) (past-maps ctx ks) f.1))

outside-normal : {ctx ks : List Kind} {t n : Ty} {k : Kind} → Outside ctx ks t k n → Normal ctx n k
outside-normal (Outside.outside u c f) = f.0

-- the type of a path is normal
pub path-type : {ctx : List Kind} {M : Module} {t : Ty} {k : Kind} → TypeOfPath ctx M t k → Normal ctx t k
path-type (TypeOfPath.type_of o) = outside-normal o

-- the value of a path has its type
pub path-value : {ctx : List Kind} {vs : List Ty} {M : Module} {t : Ty} {e : Term} → GoodModule ctx vs M → ValueOfPath ctx M t e → Typed ctx vs e t
path-value (GoodModule.pure g n h) (ValueOfPath.value_at o) = cast (sym (outside-given n o)) (Typed.get h HasPart.here)
path-value {vs = vs} (GoodModule.impure g h) (ValueOfPath.value_at {ks = ks} {t = t} o) =
    typed-opens ks (outside-normal o) (good-normal g) h (cast (outside-raised g.normal o) (Typed.get (Typed.var (at-opened (enc (Sig.Val t)) ks vs)) HasPart.here))

-- projection
-- a projection from a good module is good
pub project-typed : {ctx : List Kind} {vs : List Ty} {l : Name} {M N : Module} → GoodModule ctx vs M → Projected ctx M l N → GoodModule ctx vs N
project-typed {ctx} (GoodModule.pure {ts = ts} g n h) (Projected.pure f) = GoodModule.pure (good-field f g.normal g.shape) n (Typed.get h (form-part ctx (puts ts Ty.Var) (enc-field f)))
project-typed {ctx} {vs} (GoodModule.impure {ks = ks} g h) (Projected.impure {fs = fs} {s = s} f p) =
    let i = good-field f g.normal g.shape in
    let x = Typed.get (Typed.var (at-opened (enc (Sig.Str fs)) ks vs)) (enc-field f) in
    GoodModule.impure i (typed-opens ks (ex_over-normal ks (good-normal i)) (good-normal g) h (repack ctx ks (enc s) (good-normal i) x refl p))
