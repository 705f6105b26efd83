-- Conclusions and refusals over whole signatures and modules, as the code has them.
-- Main results: functor-means, applicative-means, joined, bind-rest, mod-kinded.
use Rattle.std.proofs.Common.{◌≡◌, Bool, true, false, List, refl, subst, sym}
use Rattle.omega_kinds.specs.Kind.{Kind}
use Rattle.omega_kinds.specs.Name.{Name}
use Rattle.omega_kinds.specs.declared.effect.Effect.{Effect}
use Rattle.omega_kinds.specs.declared.effect.Effect.TheVariants.{Pure, Impure}
use Rattle.omega_types.specs.Ty.{Ty}
use Rattle.omega_types.specs.Binders.{extend}
use Rattle.omega_terms.specs.Term.{Term}
use Rattle.sig_definitions.specs.Env.{Env, kinds, type_vars, with_module, named_fields}
use Rattle.sig_definitions.specs.Lifting.{Lift}
use Rattle.sig_definitions.specs.Signatures.Sig.{Module, made, Sig, Abs, SigRow}
use Rattle.sig_definitions.specs.Signatures.RecordOrder.{AreNew, NamesRise}
use Rattle.sig_definitions.specs.Signatures.FieldOrder.{with_name, with_names}
use Rattle.sig_laws.specs.Good.{OkEnv, OkModule, KindedModule, Names}
use Rattle.sig_laws.proofs.Formed.Conditions.{explicit-right, abs-body}
use Rattle.sig_laws.proofs.Formed.WellFormedShape.{kinded}
use Rattle.sig_laws.proofs.Algebra.FormLaws.{kinds-type_vars, module-under}
use Rattle.sig_premise_laws.proofs.Environments.{good-module, bound-bind}
use Rattle.semantic_sigs.specs.Inner.View.{body_of, kinds_of}
use Rattle.fing_syntax.specs.Phrase.{Span, SpanName, TyEx, SigEx, SigAt, SigFun, SigRefine, Decl, Decls, MoreDecls, Mod, ModAt, ModFunctor, Bind, Binds, MoreBinds}
use Rattle.fing_syntax.specs.Place.{name_of, decl_span}
use Rattle.sig_judgments.specs.SigRules.{ValueGives, TypeGives, AbstractGives, ModuleGives, SignatureGives, IncludeGives, DistinctRefuses, GenerativeGives as GenerativeSigGives}
use Rattle.module_judgments.specs.Sequence.{Seq}
use Rattle.module_rests.specs.Inner.Rests.{Comes}
use Rattle.module_rests.specs.declared.rests.Rest.{Rest}
use Rattle.elab_phrases.specs.Inner.Rests.{RestMeans}
use Rattle.elab_judgments.specs.Judgments.Meaning.{TyMeans, SigMeans, DeclMeans, ModMeans, BindMeans, BindsMean}
use Rattle.elab_judgments.specs.Refusals.Refusal.{of_sig}
use Rattle.elab_judgments.specs.Refusals.Task.{a_sig, a_mod, decls, binds}
use Rattle.elab_laws.proofs.FieldLaws.{rise-with_name}
use Rattle.elab_laws.proofs.Kept.{sig_ok, mod_ok, bind_ok, binds_ok}
use Rattle.fing_refusals.specs.declared.refusal.Refusal.{Refusal as CodeRefusal}
use Rattle.elab_rules.specs.Inner.Answered.{RefusedAs, ByRule, ByWhere}
use Rattle.elab_rules.specs.Inner.Fields.{fields_in}
use Rattle.elab_rules.specs.Inner.Modules.{FunctorGives, IsSingle}
use Rattle.elab_rules.proofs.Refuse.Signatures.{sig_fun-result, sig_refine-rule, decls-again, decls-later}
use Rattle.elab_rules.proofs.Refuse.Modules.{mod_functor-body, binds-later}

-- signatures of functors

-- a functor signature is refused where its result is
pub sig_fun-in : {g : Env} {at : Span} {x : SpanName} {a b : SigEx} {e : CodeRefusal} (pure : Bool) (y : Abs)
    → SigMeans g a y
    → RefusedAs (with_module g (kinds_of y) (name_of x) (body_of y)) (a_sig b) e
    → RefusedAs g (a_sig (SigAt at (SigFun pure x a b))) e
sig_fun-in pure (Abs.Ex ks s) p h = sig_fun-result pure p h

-- a functor signature that is not pure is generative: its result keeps what it hides
pub generative-means : {g : Env} {at : Span} {x : SpanName} {a b : SigEx} (y : Abs) {z w : Abs}
    → SigMeans g a y
    → SigMeans (with_module g (kinds_of y) (name_of x) (body_of y)) b z
    → GenerativeSigGives y z w
    → SigMeans g (SigAt at (SigFun false x a b)) w
generative-means (Abs.Ex ks s) p q r = SigMeans.sig_generative p q r

-- a pure functor signature is its result, lifted over its parameter
pub applicative-means : {g : Env} {at : Span} {x : SpanName} {a b : SigEx} (y : Abs) {z w : Abs}
    → SigMeans g a y
    → SigMeans (with_module g (kinds_of y) (name_of x) (body_of y)) b z
    → Lift (kinds g) (kinds_of y) (body_of y) z w
    → SigMeans g (SigAt at (SigFun true x a b)) w
applicative-means (Abs.Ex ks s) p q r = SigMeans.sig_applicative p q r

-- a signature with a fixed type is refused by the rule of fixed types
pub refine-in : {g : Env} {at : Span} {a : SigEx} {z : SpanName} {path : List SpanName} {b : TyEx} {t : Ty} {k : Kind} {e : CodeRefusal} (y : Abs)
    → SigMeans g a y
    → TyMeans g b t k
    → ByWhere g (kinds_of y) (body_of y) z path b t k e
    → RefusedAs g (a_sig (SigAt at (SigRefine a z path b))) e
refine-in (Abs.Ex ks s) p q h = sig_refine-rule p q h

-- the environment of a parameter
pub param-env : (g : Env) (a : SigEx) (y : Abs) (x : Name) → OkEnv g → SigMeans g a y → OkEnv (with_module g (kinds_of y) x (body_of y))
param-env g a (Abs.Ex ks s) x h m = let w = sig_ok g a (Abs.Ex ks s) h m in good-module g ks x s h ((explicit-right w.0).0, w.1)

-- declarations are structures

-- what a declaration means is a structure
pub decl-structure : {g : Env} {d : Decl} {x : Abs} → DeclMeans g d x → (fs : SigRow) × (body_of x ≡ Sig.Str fs)
decl-structure (DeclMeans.decl_val p ValueGives.value) = (_, refl)
decl-structure (DeclMeans.decl_is p TypeGives.type) = (_, refl)
decl-structure (DeclMeans.decl_of AbstractGives.abstract) = (_, refl)
decl-structure (DeclMeans.decl_module p ModuleGives.module_) = (_, refl)
decl-structure (DeclMeans.decl_signature p SignatureGives.signature) = (_, refl)
decl-structure (DeclMeans.decl_include p IncludeGives.include) = (_, refl)

whole : (ks : List Kind) (s : Sig) (fs : SigRow) → s ≡ Sig.Str fs → Abs.Ex ks s ≡ Abs.Ex ks (Sig.Str (fields_in (Abs.Ex ks s)))
whole ks s fs e = rw e refl

-- what a declaration means is the structure of its fields
pub decl-whole : {g : Env} {d : Decl} (x : Abs) → DeclMeans g d x → x ≡ Abs.Ex (kinds_of x) (Sig.Str (fields_in x))
decl-whole (Abs.Ex ks s) p = let w = decl-structure p in whole ks s w.0 w.1

-- declarations are refused where the first one declares a name again
pub decls-again-in : {g : Env} {before : List Name} {d : Decl} {ds : Decls} {e : CodeRefusal} (y : Abs)
    → DeclMeans g d y
    → ByRule of_sig g (decl_span d) (DistinctRefuses before (fields_in y)) e
    → RefusedAs g (decls before (MoreDecls d ds)) e
decls-again-in {g} {d = d} y p h = decls-again (subst (DeclMeans g d) (decl-whole y p) p) h

-- declarations are refused where those after the first are
pub decls-in : {g : Env} {before : List Name} {d : Decl} {ds : Decls} {e : CodeRefusal} (y : Abs)
    → DeclMeans g d y
    → AreNew (fields_in y) before
    → RefusedAs (named_fields (type_vars g (kinds_of y)) (fields_in y)) (decls (with_names (fields_in y) before) ds) e
    → RefusedAs g (decls before (MoreDecls d ds)) e
decls-in {g} {d = d} y p n h = decls-later (subst (DeclMeans g d) (decl-whole y p) p) n h

-- functors

-- a functor is refused where its body is
pub mod_functor-in : {g : Env} {at : Span} {gen : Bool} {x : SpanName} {a : SigEx} {b : Mod} {e : CodeRefusal} (y : Abs)
    → SigMeans g a y
    → RefusedAs (with_module g (kinds_of y) (name_of x) (body_of y)) (a_mod b) e
    → RefusedAs g (a_mod (ModAt at (ModFunctor gen x a b))) e
mod_functor-in (Abs.Ex ks s) p h = mod_functor-body p h

-- a functor means what its rule gives, of its parameter and its body
pub functor-means : {g : Env} {at : Span} {x : SpanName} {a : SigEx} {b : Mod} {N : Module} (gen : Bool) (y : Abs) (M : Module)
    → SigMeans g a y
    → ModMeans (with_module g (kinds_of y) (name_of x) (body_of y)) b M
    → FunctorGives (kinds g) gen y M N
    → ModMeans g (ModAt at (ModFunctor gen x a b)) N
functor-means false (Abs.Ex ks s) (made Pure y ts e) p q r = ModMeans.mod_applicative p q r
functor-means false (Abs.Ex ks s) (made Impure y ts e) p q r = ModMeans.mod_generative p q refl r
functor-means true (Abs.Ex ks s) (made f y ts e) p q r = ModMeans.mod_generative p q refl r

-- bindings in a row

-- the environment with a bound module, and the types that it hides, is good
pub bind-env : (g : Env) (b : Bind) (x : Name) (f : Effect) (y : Abs) (ts : List Ty) (d : Term) → OkEnv g → BindMeans g b x (made f y ts d) → OkEnv (with_module g (kinds_of y) x (body_of y))
bind-env g b x f (Abs.Ex ks s) ts d h m = let w = bind_ok g b x (made f (Abs.Ex ks s) ts d) h m in good-module g ks x s h (abs-body w.0.0, w.0.1)

-- the names of a structure, with one that is bound, are found and rise
pub bind-names : (g : Env) (x : Name) (y : Abs) (before : List Name) → Names g before → Names (with_module g (kinds_of y) x (body_of y)) (with_name x before)
bind-names g x (Abs.Ex ks s) before n = (bound-bind g ks x s before n.0, rise-with_name x before n.1)

-- bindings are refused where those after the first are
pub binds-in : {g : Env} {before : List Name} {bs : Binds} {x : Name} {f : Effect} {ts : List Ty} {d : Term} {e : CodeRefusal} (b : Bind) (y : Abs)
    → IsSingle b
    → BindMeans g b x (made f y ts d)
    → RefusedAs (with_module g (kinds_of y) x (body_of y)) (binds (with_name x before) bs) e
    → RefusedAs g (binds before (MoreBinds b bs)) e
binds-in b (Abs.Ex ks s) i p h = binds-later b i p h

-- the rest of a structure comes to what it means, once it is joined
pub joined : (g : Env) (before : List Name) (bs : Binds) (r : Rest) (w : Module) → OkEnv g → NamesRise before → RestMeans g before bs r
    → ((ctx : List Kind) (M : Module) → OkModule ctx M → Comes ctx r M → w ≡ M)
    → BindsMean g before bs w
joined g before bs r w h n (M, means, comes) join = subst (BindsMean g before bs) (sym (join (kinds g) M (binds_ok g before bs M h n means) comes)) means

-- one more binding before the rest
pub bind-rest : (g : Env) (before : List Name) (bs : Binds) (x : Name) (b : Bind) (f : Effect) (y : Abs) (ts : List Ty) (d : Term) (tail more : Rest) → OkEnv g → Names g before
    → BindMeans g b x (made f y ts d)
    → RestMeans (with_module g (kinds_of y) x (body_of y)) (with_name x before) bs tail
    → ((ctx : List Kind) (M : Module) → OkModule ctx (made f y ts d) → OkModule (extend ctx (kinds_of y)) M → Comes (extend ctx (kinds_of y)) tail M → (N : Module) × Seq ctx (made f y ts d) M N × Comes ctx more N)
    → RestMeans g before (MoreBinds b bs) more
bind-rest g before bs x b f (Abs.Ex ks s) ts d tail more h n p (M, means, comes) bound =
    let good = bind_ok g b x (made f (Abs.Ex ks s) ts d) h p in
    let under = module-under g ks M (binds_ok (with_module g ks x s) (with_name x before) bs M (bind-env g b x f (Abs.Ex ks s) ts d h p) (rise-with_name x before n.1) means) in
    let o = bound (kinds g) M good under (subst (λ ctx. Comes ctx tail M) (kinds-type_vars g ks) comes) in
    (o.0, BindsMean.next_bind p means o.1, o.2)

-- what is derived in a good environment has types of their kinds

-- what a module phrase means has distinct names and normal types of the right kinds
pub mod-kinded : (g : Env) (m : Mod) (M : Module) → OkEnv g → ModMeans g m M → KindedModule (kinds g) M
mod-kinded g m M h p = kinded (kinds g) M (mod_ok g m M h p)
