-- Functors, structures and included modules: environments, conclusions and refusals, as the code has them.
-- Main results: included-env, include-means, left-included.
use Rattle.std.proofs.Common.{◌≡◌, ◌+◌, ◌<◌, inl, List, [], Option, Some, IfSome, drop, length, map, sym, subst, ap, ◌∙◌}
use Rattle.std.proofs.lemmas.List.{length-map}
use Rattle.omega_kinds.specs.Kind.{Kind}
use Rattle.omega_kinds.specs.Name.{Name}
use Rattle.omega_kinds.specs.View.{kind_tree}
use Rattle.omega_kinds.specs.declared.kind.Kind.{Kind as KindHandle}
use Rattle.omega_kinds.specs.declared.effect.Effect.{Effect}
use Rattle.omega_kinds.specs.declared.effect.Effect.TheVariants.{Pure}
use Rattle.omega_types.specs.Ty.{Ty}
use Rattle.omega_types.specs.Binders.{extend}
use Rattle.omega_terms.specs.Term.{Term, TermRow}
use Rattle.sig_definitions.specs.Env.{Env, kinds, with_module, named_fields}
use Rattle.sig_definitions.specs.Signatures.Sig.{Module, made, Sig, Abs, SigRow}
use Rattle.sig_definitions.specs.Signatures.FieldOrder.{with_names, in_order}
use Rattle.sig_laws.specs.Good.{OkSig, OkRow, OkEnv, OkModule, KindedModule, Names}
use Rattle.sig_laws.proofs.Formed.WellFormedShape.{kinded}
use Rattle.sig_laws.proofs.Formed.Conditions.{abs-body, structure-row}
use Rattle.sig_laws.proofs.Algebra.FormLaws.{kinds-type_vars, module-under}
use Rattle.sig_laws.proofs.Encoded.EnvTyping.{kinds-named_fields}
use Rattle.sig_premise_laws.proofs.Environments.{good-module, good-fields, bound-module, bound-fields}
use Rattle.sig_premise_laws.proofs.NameOrder.{in_order-same}
use Rattle.semantic_sigs.specs.Inner.Fields.{sig_row}
use Rattle.semantic_sigs.specs.Inner.View.{body_of, kinds_of}
use Rattle.fing_syntax.specs.Phrase.{Span, SigEx, Mod, Bind, BindAt, BindInclude, Binds, NoBinds, MoreBinds}
use Rattle.fing_syntax.specs.Place.{mod_span}
use Rattle.fing_syntax.specs.Inner.Size.{bind_size, mod_size}
use Rattle.fing_syntax.specs.Inner.View.{bind_of, binds as binds_of}
use Rattle.fing_syntax.specs.declared.tree.BindWhat.{BindWhat as BindNode}
use Rattle.fing_text.specs.declared.span.Span.{Span as SpanAt}
use Rattle.refusal_reasons.specs.Refusal.{ElabWhy, NotStructure}
use Rattle.module_judgments.specs.ModRules.{IncludeGives, IncludeRefuses}
use Rattle.module_judgments.specs.ModWhy.{ModWhy}
use Rattle.module_judgments.specs.Sequence.{Collected}
use Rattle.elab_judgments.specs.Operators.{include_name}
use Rattle.elab_judgments.specs.Judgments.Meaning.{SigMeans, ModMeans, BindMeans, BindsMean}
use Rattle.elab_judgments.specs.Refusals.Refusal.{of_mod, refuse}
use Rattle.elab_judgments.specs.Refusals.Refused.{here}
use Rattle.elab_judgments.specs.Refusals.Task.{a_bind, binds}
use Rattle.elab_laws.proofs.FieldLaws.{rise-with_names}
use Rattle.elab_laws.proofs.Kept.{mod_ok, binds_ok}
use Rattle.fing_refusals.specs.declared.refusal.Refusal.{Refusal as CodeRefusal}
use Rattle.elab_rules.specs.Inner.Answered.{RefusedAs, Placed}
use Rattle.elab_rules.proofs.Entering.{left-module, left-fields}
use Rattle.module_rests.specs.Inner.Rests.{Comes}
use Rattle.module_rests.specs.declared.rests.Rest.{Rest}
use Rattle.elab_phrases.specs.Inner.Rests.{RestMeans}
use Rattle.elab_phrases.proofs.Means.{joined, param-env}
use Rattle.elab_rules.proofs.Placing.{says-map, by-rule}
use Rattle.elab_rules.proofs.Refuse.Modules.{include-no_structure, include-later}
use Rattle.elab_rules.proofs.Slices.{empty}

-- a functor's body under its parameter
pub body-module : (g : Env) (a : SigEx) (b : Mod) (x : Name) (y : Abs) (M : Module) → OkEnv g → SigMeans g a y
    → ModMeans (with_module g (kinds_of y) x (body_of y)) b M
    → KindedModule (extend (kinds g) (kinds_of y)) M
body-module g a b x (Abs.Ex ks s) M h p q =
    kinded (extend (kinds g) ks) M (module-under g ks M (mod_ok (with_module g ks x s) b M (param-env g a (Abs.Ex ks s) x h p) q))

-- what a binding is

-- an include as a binding is larger by one than its module
pub include-size : (b : Bind) (m : Mod) → (p : Span) × (b ≡ BindAt p (BindInclude m)) → mod_size m + 1 ≡ bind_size b
include-size b m q = sym (ap bind_size q.1)

-- a binding is refused as the one that its node is seen as
pub refused-bind : {g : Env} {s : SpanAt} {w v : BindNode} {b : Bind} {e : CodeRefusal} → bind_of s w ≡ b → w ≡ v → RefusedAs g (a_bind (bind_of s v)) e → RefusedAs g (a_bind b) e
refused-bind {g} {s} {e = e} p i h = subst (λ b. RefusedAs g (a_bind b) e) (sym (ap (bind_of s) i) ∙ p) h

-- a binding means what the one does that its node is seen as
pub means-bind : {g : Env} {s : SpanAt} {w v : BindNode} {b : Bind} {own l : Name} {M : Module} → bind_of s w ≡ b → w ≡ v → own ≡ l → BindMeans g (bind_of s v) l M → BindMeans g b own M
means-bind {g} {s} {v = v} {own = own} {M = M} p i n h = subst (λ b. BindMeans g b own M) (sym (ap (bind_of s) i) ∙ p) (subst (λ l. BindMeans g (bind_of s v) l M) (sym n) h)

-- an include is no binding
some-is : {v w : ElabWhy} → Some v ≡ Some w → w ≡ v
some-is e = cc

-- an include that stands where a single binding does is refused as no structure
pub bind-include : {g : Env} {at : Span} {m : Mod} {e : CodeRefusal} → Placed g at (Some NotStructure) e → RefusedAs g (a_bind (BindAt at (BindInclude m))) e
bind-include {g} {at} {e = e} p = record { stands = says-map e (λ r q. here (inl (q.2 ∙ ap (refuse g at) (some-is q.1)))) p.stands }

-- the end of a structure
pub ended : {g : Env} {before : List Name} (list : List Bind) (M : Module) → length list < 1
    → Names g before
    → (fs : SigRow) × (es : TermRow) × Collected g (in_order before) fs es × (M ≡ made Pure (Abs.Ex [] (Sig.Str fs)) [] (Term.Fields es))
    → BindsMean g before (binds_of list) M
ended {g} {before} list M h n q =
    let c : Collected g before q.0 q.1 = subst (λ ls. Collected g ls q.0 q.1) (in_order-same before n.1) q.2 in
    subst (λ xs. BindsMean g before (binds_of xs) M) (sym (empty list h)) (subst (BindsMean g before NoBinds) (sym q.3) (BindsMean.no_binds c))

-- what is included is no structure

no-str : {s : Sig} → ((fs : SigRow) → s ≡ Sig.Str fs → ⊥) → (ks : List Kind) (f : Effect) (ts : List Ty) (d : Term) → IfSome (Some ModWhy.NotStructure) (IncludeRefuses (made f (Abs.Ex ks s) ts d))
no-str n ks f ts d = IncludeRefuses.no_structure n

-- bindings that begin with an include of what is no structure are refused, at the module
pub include-none : {g : Env} {at : Span} {m : Mod} {bs : Binds} {before : List Name} {f : Effect} {ts : List Ty} {d : Term} {e : CodeRefusal} (y : Abs)
    → ModMeans g m (made f y ts d)
    → ((fs : SigRow) → body_of y ≡ Sig.Str fs → ⊥)
    → Placed g (mod_span m) (Some NotStructure) e
    → RefusedAs g (binds before (MoreBinds (BindAt at (BindInclude m)) bs)) e
include-none {g} {m = m} {f = f} {ts = ts} {d = d} {e = e} (Abs.Ex ks s) p n h =
    include-no_structure p (by-rule of_mod (Some ModWhy.NotStructure) (IncludeRefuses (made f (Abs.Ex ks s) ts d)) g (mod_span m) e (no-str n ks f ts d) h)

-- what is placed is placed so where the environment and the place are as before
pub placed-at : {g h : Env} {at p : Span} {o : Option ElabWhy} {e : CodeRefusal} → h ≡ g → at ≡ p → Placed h at o e → Placed g p o e
placed-at {g} {at = at} {o = o} {e = e} s q r = subst (λ p. Placed g p o e) q (subst (λ x. Placed x at o e) s r)

-- the environment of an included module and its fields

abbrev pub included : Env → Abs → SigRow → Env
included g y fs = named_fields (with_module g (kinds_of y) include_name (body_of y)) fs

env-of : (g : Env) (ks : List Kind) (fs : SigRow) → OkEnv g → OkSig (extend (kinds g) ks) (Sig.Str fs) → OkEnv (included g (Abs.Ex ks (Sig.Str fs)) fs)
env-of g ks fs h sig =
    let inner = with_module g ks include_name (Sig.Str fs) in
    let row : OkRow (kinds inner) fs = subst (λ ctx. OkRow ctx fs) (sym (kinds-type_vars g ks)) (structure-row sig) in
    good-fields inner fs (good-module g ks include_name (Sig.Str fs) h sig) row

-- the environment with an included structure and its fields is good
pub included-env : (g : Env) (m : Mod) (f : Effect) (y : Abs) (ts : List Ty) (d : Term) (fs : SigRow) → OkEnv g → ModMeans g m (made f y ts d) → body_of y ≡ Sig.Str fs → OkEnv (included g y fs)
included-env g m f (Abs.Ex ks s) ts d fs h p e =
    let w = mod_ok g m (made f (Abs.Ex ks s) ts d) h p in
    let sig : OkSig (extend (kinds g) ks) (Sig.Str fs) = subst (OkSig (extend (kinds g) ks)) e (abs-body w.0.0, w.0.1) in
    subst (λ s. OkEnv (included g (Abs.Ex ks s) fs)) (sym e) (env-of g ks fs h sig)

-- the names of a structure, with those of an included one, are found and rise
pub included-names : (g : Env) (y : Abs) (fs : SigRow) (before : List Name) → Names g before → Names (included g y fs) (with_names fs before)
included-names g (Abs.Ex ks s) fs before n = (bound-fields (with_module g ks include_name s) fs before (bound-module g ks include_name s before n.0), rise-with_names fs before n.1)

-- bindings that begin with an include are refused where those after it are
pub include-in : {g : Env} {at : Span} {m : Mod} {bs : Binds} {before : List Name} {f : Effect} {ts : List Ty} {d : Term} {fs : SigRow} {e : CodeRefusal} (y : Abs)
    → ModMeans g m (made f y ts d)
    → body_of y ≡ Sig.Str fs
    → RefusedAs (included g y fs) (binds (with_names fs before) bs) e
    → RefusedAs g (binds before (MoreBinds (BindAt at (BindInclude m)) bs)) e
include-in {g} {m = m} {bs = bs} {before = before} {f = f} {ts = ts} {d = d} {fs = fs} {e = e} (Abs.Ex ks s) p i h =
    include-later (subst (λ s. ModMeans g m (made f (Abs.Ex ks s) ts d)) i p) (subst (λ s. RefusedAs (included g (Abs.Ex ks s) fs) (binds (with_names fs before) bs) e) i h)

-- bindings that begin with an include mean what those after it do, with the structure's term bound
pub include-means : {g : Env} {at : Span} {m : Mod} {bs : Binds} {before : List Name} {f : Effect} {ts : List Ty} {d : Term} {fs : SigRow} {M N : Module} (y : Abs)
    → ModMeans g m (made f y ts d)
    → body_of y ≡ Sig.Str fs
    → BindsMean (included g y fs) (with_names fs before) bs M
    → IncludeGives (kinds g) (made f y ts d) M N
    → BindsMean g before (MoreBinds (BindAt at (BindInclude m)) bs) N
include-means {g} {m = m} {bs = bs} {before = before} {f = f} {ts = ts} {d = d} {fs = fs} {M = M} {N = N} (Abs.Ex ks s) p i q r =
    BindsMean.next_include
    (subst (λ s. ModMeans g m (made f (Abs.Ex ks s) ts d)) i p)
    (subst (λ s. BindsMean (included g (Abs.Ex ks s) fs) (with_names fs before) bs M) i q)
    (subst (λ s. IncludeGives (kinds g) (made f (Abs.Ex ks s) ts d) M N) i r)

-- the rest of a structure is good under the types of the included module
pub include-rest : (g : Env) (m : Mod) (bs : Binds) (f : Effect) (y : Abs) (ts : List Ty) (d : Term) (fs : SigRow) (before : List Name) (M : Module)
    → OkEnv g → Names g before → ModMeans g m (made f y ts d) → body_of y ≡ Sig.Str fs
    → BindsMean (included g y fs) (with_names fs before) bs M
    → KindedModule (extend (kinds g) (kinds_of y)) M
include-rest g m bs f (Abs.Ex ks s) ts d fs before M h n p e q =
    let good = included-env g m f (Abs.Ex ks s) ts d fs h p e in
    let inner = with_module g ks include_name s in
    let w = binds_ok (included g (Abs.Ex ks s) fs) (with_names fs before) bs M good (rise-with_names fs before n.1) q in
    kinded (extend (kinds g) ks) M (module-under g ks M (subst (λ ctx. OkModule ctx M) (kinds-named_fields inner fs) w))

-- the rest of a structure under the types and the names of the included module, joined
pub include-joined : (g : Env) (before : List Name) (m : Mod) (bs : Binds) (f : Effect) (y : Abs) (ts : List Ty) (d : Term) (fs : SigRow) (tail : Rest) (w : Module)
    → OkEnv g → Names g before → ModMeans g m (made f y ts d) → body_of y ≡ Sig.Str fs
    → RestMeans (included g y fs) (with_names fs before) bs tail
    → ((ctx : List Kind) (M : Module) → OkModule ctx M → Comes ctx tail M → w ≡ M)
    → BindsMean (included g y fs) (with_names fs before) bs w
include-joined g before m bs f y ts d fs tail w h n p e rest join =
    joined (included g y fs) (with_names fs before) bs tail w (included-env g m f y ts d fs h p e) (rise-with_names fs before n.1) rest join

-- what was entered is left again

counted : (items : List KindHandle) (ks : List Kind) → map kind_tree items ≡ ks → length ks ≡ length items
counted items ks e = ap length (sym e) ∙ length-map items kind_tree

-- the environment is as before when a module and the types that it hides are left
pub left-under : (g : Env) (items : List KindHandle) (ks : List Kind) (x : Name) (s : Sig) (before after : Env)
    → map kind_tree items ≡ ks → before ≡ with_module g ks x s → after ≡ drop (length items + 1) before → after ≡ g
left-under g items ks x s before after i e f = f ∙ (ap (drop (length items + 1)) e ∙ (ap (λ n. drop (n + 1) (with_module g ks x s)) (sym (counted items ks i)) ∙ left-module g ks x s))

-- the environment is as before when an included structure, its fields and the types that it hides are left
pub left-included : (g : Env) (items : List KindHandle) (y : Abs) (fs own : List (Name × Sig)) (before between after : Env)
    → own ≡ fs → map kind_tree items ≡ kinds_of y → before ≡ included g y (sig_row fs) → between ≡ drop (length own) before → after ≡ drop (length items + 1) between → after ≡ g
left-included g items y fs own before between after o i e f h =
    let inner = with_module g (kinds_of y) include_name (body_of y) in
    let back : between ≡ inner = f ∙ (ap (drop (length own)) e ∙ (ap (λ xs. drop (length xs) (named_fields inner (sig_row fs))) o ∙ left-fields inner fs)) in
    left-under g items (kinds_of y) include_name (body_of y) between after i back h
