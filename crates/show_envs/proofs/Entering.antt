-- What comes into scope keeps an environment good, stated of the environment before, h, which is as it was in g when the phrase was
-- elaborated, and of the one after, n.
-- Main results: with-param, with-binding, with-included, with-type, with-value, with-fix, with-part, with-declaration.
use Rattle.std.proofs.Common.{◌≡◌, ◌∷◌, List, refl, sym, subst, ap, ◌∙◌}
use Rattle.omega_kinds.specs.Kind.{Kind}
use Rattle.omega_kinds.specs.Name.{Name}
use Rattle.omega_kinds.specs.declared.effect.Effect.{Effect}
use Rattle.omega_types.specs.Binders.{extend}
use Rattle.omega_types.specs.Normality.{Normal}
use Rattle.omega_types.specs.Normality.Normal.{n_arrow}
use Rattle.omega_types.specs.Ty.{Ty}
use Rattle.omega_terms.specs.Term.{Term}
use Rattle.sig_definitions.specs.Env.{Env, Value, kinds, type_vars, with_module, named_fields}
use Rattle.sig_definitions.specs.Signatures.Sig.{Sig, Abs, SigRow, made}
use Rattle.sig_laws.specs.Good.{OkEnv, OkSig, OkRow}
use Rattle.sig_laws.proofs.Formed.Conditions.{explicit-right, abs-body, structure-row, str-fields}
use Rattle.sig_laws.proofs.Algebra.FormLaws.{kinds-type_vars}
use Rattle.sig_premise_laws.proofs.Environments.{body-ok, good-module, good-fields, good-type_fields}
use Rattle.semantic_sigs.specs.Inner.View.{body_of, kinds_of}
use Rattle.fing_syntax.specs.Phrase.{Bind, Decl, Exp, Mod, SigEx, TyEx}
use Rattle.elab_judgments.specs.Operators.{include_name, with_type}
use Rattle.elab_judgments.specs.Judgments.Meaning.{BindMeans, DeclMeans, ExpMeans, ModMeans, SigMeans, TyMeans}
use Rattle.core_judgments.specs.ExpRules.{LabelGives}
use Rattle.elab_laws.proofs.SumTyping.{label-normal}
use Rattle.elab_laws.proofs.Kept.{bind_ok, decl_ok, exp_ok, mod_ok, sig_ok, type_ok}

-- an environment that is one which is good
pub good-same : {g h : Env} → h ≡ g → OkEnv g → OkEnv h
good-same s o = subst OkEnv (sym s) o

param-env : (g : Env) (a : SigEx) (y : Abs) (x : Name) → OkEnv g → SigMeans g a y → OkEnv (with_module g (kinds_of y) x (body_of y))
param-env g a (Abs.Ex ks s) x o m = good-module g ks x s o (body-ok (sig_ok g a (Abs.Ex ks s) o m))

-- the parameter of a functor
pub with-param : {g h n : Env} {a : SigEx} {y : Abs} {x : Name} → h ≡ g → OkEnv h → SigMeans g a y → n ≡ with_module h (kinds_of y) x (body_of y) → OkEnv n
with-param {g} {h} {n} {a} {y} {x} s o m e = good-same e (param-env h a y x o (subst (λ k. SigMeans k a y) (sym s) m))

bind-env : (g : Env) (b : Bind) (x : Name) (f : Effect) (y : Abs) (ts : List Ty) (d : Term) → OkEnv g → BindMeans g b x (made f y ts d) → OkEnv (with_module g (kinds_of y) x (body_of y))
bind-env g b x f (Abs.Ex ks s) ts d o m = let w = bind_ok g b x (made f (Abs.Ex ks s) ts d) o m in good-module g ks x s o (abs-body w.0.0, w.0.1)

-- what a binding binds
pub with-binding : {g h n : Env} {b : Bind} {x : Name} {f : Effect} {y : Abs} {ts : List Ty} {d : Term} → h ≡ g → OkEnv h → BindMeans g b x (made f y ts d) → n ≡ with_module h (kinds_of y) x (body_of y) → OkEnv n
with-binding {g} {h} {n} {b} {x} {f} {y} {ts} {d} s o m e = good-same e (bind-env h b x f y ts d o (subst (λ k. BindMeans k b x (made f y ts d)) (sym s) m))

included-env : (g : Env) (m : Mod) (f : Effect) (y : Abs) (ts : List Ty) (d : Term) (fs : SigRow) → OkEnv g → ModMeans g m (made f y ts d) → body_of y ≡ Sig.Str fs → OkEnv (named_fields (with_module g (kinds_of y) include_name (body_of y)) fs)
included-env g m f (Abs.Ex ks s) ts d fs o p e =
    let w = mod_ok g m (made f (Abs.Ex ks s) ts d) o p in
    let sig : OkSig (extend (kinds g) ks) s = (abs-body w.0.0, w.0.1) in
    let row : OkRow (kinds (with_module g ks include_name s)) fs = subst (λ ctx. OkRow ctx fs) (sym (kinds-type_vars g ks)) (structure-row (subst (OkSig (extend (kinds g) ks)) e sig)) in
    good-fields (with_module g ks include_name s) fs (good-module g ks include_name s o sig) row

-- what a module includes
pub with-included : {g h n : Env} {m : Mod} {f : Effect} {y : Abs} {ts : List Ty} {d : Term} {fs : SigRow} → h ≡ g → OkEnv h → ModMeans g m (made f y ts d) → body_of y ≡ Sig.Str fs → n ≡ named_fields (with_module h (kinds_of y) include_name (body_of y)) fs → OkEnv n
with-included {g} {h} {n} {m} {f} {y} {ts} {d} {fs} s o p i e = good-same e (included-env h m f y ts d fs o (subst (λ k. ModMeans k m (made f y ts d)) (sym s) p) i)

-- a type parameter
pub with-type : {h n : Env} {k : Kind} {x : Name} → OkEnv h → n ≡ with_type h k x → OkEnv n
with-type {h} {n} {k} {x} o e = good-same e (tt, (tt, o))

-- a value of a type that is written
pub with-value : {g h n : Env} {a : TyEx} {t : Ty} {k : Kind} {x : Name} → h ≡ g → OkEnv h → TyMeans g a t k → k ≡ Kind.Star → n ≡ Value x t ∷ h → OkEnv n
with-value {g} {h} {n} {a} {t} {k} {x} s o m i e = good-same e (type_ok h a t Kind.Star o (subst (λ w. TyMeans w a t Kind.Star) (sym s) (subst (λ j. TyMeans g a t j) i m)), o)

-- a recursive function and its parameter
pub with-fix : {g h i n : Env} {a b : TyEx} {t u w : Ty} {k j : Kind} {f x : Name} → h ≡ g → OkEnv h → TyMeans g a t k → k ≡ Kind.Star → TyMeans g b u j → j ≡ Kind.Star → w ≡ Ty.Arrow t u → i ≡ Value f w ∷ h → n ≡ Value x t ∷ i → OkEnv n
with-fix {g} {h} {i} {n} {a} {b} {t} {u} {w} {k} {j} {f} {x} s o m p q r y e c =
    let from : Normal (kinds h) t Kind.Star = type_ok h a t Kind.Star o (subst (λ v. TyMeans v a t Kind.Star) (sym s) (subst (λ l. TyMeans g a t l) p m)) in
    let to : Normal (kinds h) u Kind.Star = type_ok h b u Kind.Star o (subst (λ v. TyMeans v b u Kind.Star) (sym s) (subst (λ l. TyMeans g b u l) r q)) in
    let inner : i ≡ Value f (Ty.Arrow t u) ∷ h = e ∙ ap (λ v. Value f v ∷ h) y in
    good-same (c ∙ ap (λ v. Value x t ∷ v) inner) (from, (n_arrow from to, o))

-- the value of a sum at a label
pub with-part : {g h n : Env} {a : Exp} {w u : Ty} {d : Term} {l x : Name} → h ≡ g → OkEnv h → ExpMeans g a w d → LabelGives w l u → n ≡ Value x u ∷ h → OkEnv n
with-part {g} {h} {n} {a} {w} {u} {d} s o m p e = good-same e (label-normal p (exp_ok h a w d o (subst (λ k. ExpMeans k a w d) (sym s) m)), o)

declared-env : (g : Env) (d : Decl) (y : Abs) (fs : SigRow) → OkEnv g → DeclMeans g d y → body_of y ≡ Sig.Str fs → OkEnv (named_fields (type_vars g (kinds_of y)) fs)
declared-env g d (Abs.Ex ks s) fs o m e =
    let sig : OkSig (extend (kinds g) ks) (Sig.Str fs) = subst (OkSig (extend (kinds g) ks)) e (body-ok (decl_ok g d (Abs.Ex ks s) o m)) in
    good-type_fields g ks fs o (str-fields sig.0, sig.1)

-- what a declaration declares
pub with-declaration : {g h i n : Env} {d : Decl} {y : Abs} {ks : List Kind} {fs : SigRow} → h ≡ g → OkEnv h → DeclMeans g d y → body_of y ≡ Sig.Str fs → ks ≡ kinds_of y → i ≡ type_vars h ks → n ≡ named_fields i fs → OkEnv n
with-declaration {g} {h} {i} {n} {d} {y} {ks} {fs} s o m b k e c =
    good-same (c ∙ ap (λ v. named_fields v fs) (e ∙ ap (type_vars h) k)) (declared-env h d y fs o (subst (λ v. DeclMeans v d y) (sym s) m) b)
