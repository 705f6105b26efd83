-- What each judgment and the order of quantifiers keep in good environments, in the form that the proof of exactness uses.
-- Main results: type_ok, exp_ok, sig_ok, mod_ok, norm_ok.
use Rattle.std.specs.Prelude.{List, [], ◌∷◌}
use Rattle.std.proofs.Math.Path.{refl}
use Rattle.omega_kinds.specs.Kind.{Kind}
use Rattle.omega_kinds.specs.Name.{Name}
use Rattle.omega_types.specs.Ty.{Ty}
use Rattle.omega_types.specs.Normality.{Normal}
use Rattle.omega_types.proofs.Preservation.{normal-kind}
use Rattle.omega_types.proofs.BinderPuts.{types-forms}
use Rattle.omega_terms.specs.Term.{Term}
use Rattle.omega_terms.proofs.NormalTyping.{typed-normal}
use Rattle.omega_terms.proofs.InstanceLaws.{instance-self}
use Rattle.sig_definitions.specs.Signatures.Sig.{Abs, Module}
use Rattle.sig_definitions.specs.Explicit.WellFormed.{abs}
use Rattle.sig_definitions.specs.QuantifierOrder.{Norm}
use Rattle.sig_definitions.specs.Env.{Env, Entry, kinds, IsGoodEnv}
use Rattle.sig_laws.proofs.Encoded.EncodingTyping.{GoodAbs}
use Rattle.sig_laws.proofs.Formed.WellFormedShape.{well_formed-good, explicit-shape}
use Rattle.sig_laws.proofs.Encoded.EnvTyping.{GoodEnv, env-normal}
use Rattle.sig_laws.proofs.Formed.NormGood.{norm-good}
use Rattle.sig_norm_laws.proofs.NormClaims as norms
use Rattle.fing_syntax.specs.Phrase.{TyEx, Exp, SigEx, Decl, Mod, Bind, Binds}
use Rattle.sig_definitions.specs.Signatures.RecordOrder.{NamesRise}
use Rattle.elab_judgments.specs.Judgments.Meaning.{TyMeans, ExpMeans, SigMeans, DeclMeans, ModMeans, BindMeans, BindsMean}
use Rattle.elab_laws.proofs.ModuleTyping.{GoodModule as TypedModule}
use Rattle.elab_laws.proofs.Soundness.{ty-good, exp-good, sig-good, decl-good, mod-good, bind-good, binds-good}
use Rattle.elab_laws.proofs.Derived.{GoodModule as FormedModule, sig_explicit, decl_explicit, module_good, bind_good, binds_good}
use Rattle.sig_laws.specs.Good.{OkRight, OkEnv, OkModule}
use Rattle.elab_laws.specs.Typed.{IsNormalEnv}

-- environments

-- a well formed environment of normal types is good
pub good_env : (g : Env) → IsGoodEnv g → IsNormalEnv g → GoodEnv g
good_env [] w n = tt
good_env (Entry.TypeVar k ∷ g) w n = (tt, good_env g w.1 n.1)
good_env (Entry.Named x s ∷ g) w n = (well_formed-good w.0 n.0, good_env g w.1 n.1)
good_env (Entry.Value x t ∷ g) w n = (n.0, good_env g w.1 n.1)
good_env (Entry.TypeParam x ∷ Entry.TypeVar k ∷ g) w n = (tt, good_env (Entry.TypeVar k ∷ g) w.1 n.1)
good_env (Entry.TypeParam x ∷ g) w n = absurd w.0

formed-env : (g : Env) → OkEnv g → IsGoodEnv g
formed-env [] h = tt
formed-env (Entry.TypeVar k ∷ g) h = (tt, formed-env g h.1)
formed-env (Entry.Named x s ∷ g) h = (h.0.0, formed-env g h.1)
formed-env (Entry.Value x t ∷ g) h = (normal-kind h.0, formed-env g h.1)
formed-env (Entry.TypeParam x ∷ Entry.TypeVar k ∷ g) h = (tt, formed-env (Entry.TypeVar k ∷ g) h.1)
formed-env (Entry.TypeParam x ∷ g) h = absurd h.0

normal-env : (g : Env) → OkEnv g → IsNormalEnv g
normal-env [] h = tt
normal-env (Entry.TypeVar k ∷ g) h = (tt, normal-env g h.1)
normal-env (Entry.Named x s ∷ g) h = (h.0.1, normal-env g h.1)
normal-env (Entry.Value x t ∷ g) h = (h.0, normal-env g h.1)
normal-env (Entry.TypeParam x ∷ g) h = (tt, normal-env g h.1)

typed-env : (g : Env) → OkEnv g → GoodEnv g
typed-env g h = good_env g (formed-env g h) (normal-env g h)

-- phrases

-- in a good environment a type phrase means a normal type of its kind
pub type_ok : (g : Env) (a : TyEx) (t : Ty) (k : Kind) → OkEnv g → TyMeans g a t k → Normal (kinds g) t k
type_ok g a t k h m = ty-good (typed-env g h) m

-- in a good environment an expression has a normal type
pub exp_ok : (g : Env) (a : Exp) (t : Ty) (e : Term) → OkEnv g → ExpMeans g a t e → Normal (kinds g) t Kind.Star
exp_ok g a t e h m = let v = typed-env g h in typed-normal (env-normal g v) (exp-good v m)

-- in a good environment a signature phrase means a signature that may stand on the right
pub sig_ok : (g : Env) (a : SigEx) (x : Abs) → OkEnv g → SigMeans g a x → OkRight (kinds g) x
sig_ok g a x h m = (sig_explicit g (formed-env g h) m, (sig-good (typed-env g h) m).normal)

-- in a good environment a declaration means a signature that may stand on the right
pub decl_ok : (g : Env) (d : Decl) (x : Abs) → OkEnv g → DeclMeans g d x → OkRight (kinds g) x
decl_ok g d x h m = (decl_explicit g (formed-env g h) m, (decl-good (typed-env g h) m).normal)

-- a typed module of a well formed signature is good
pub module-ok : {ctx : List Kind} {vs : List Ty} {M : Module} → TypedModule ctx vs M → FormedModule ctx M → OkModule ctx M
module-ok (TypedModule.pure g n h) (FormedModule.pure w k) = ((abs w, g.normal), types-forms n, instance-self h)
module-ok (TypedModule.impure g h) (FormedModule.impure w) = ((abs w, g.normal), refl, instance-self h)

-- in a good environment a module phrase means a good module
pub mod_ok : (g : Env) (m : Mod) (M : Module) → OkEnv g → ModMeans g m M → OkModule (kinds g) M
mod_ok g m M h p = module-ok (mod-good (typed-env g h) p) (module_good g (formed-env g h) p)

-- in a good environment a binding means a good module
pub bind_ok : (g : Env) (b : Bind) (x : Name) (M : Module) → OkEnv g → BindMeans g b x M → OkModule (kinds g) M
bind_ok g b x M h p = module-ok (bind-good (typed-env g h) p) (bind_good g (formed-env g h) p)

-- in a good environment bindings after names that rise mean a good module
pub binds_ok : (g : Env) (before : List Name) (bs : Binds) (M : Module) → OkEnv g → NamesRise before → BindsMean g before bs M → OkModule (kinds g) M
binds_ok g before bs M h r p = module-ok (binds-good (typed-env g h) r p) (binds_good g (formed-env g h) r p)

-- the order of quantifiers

-- the norm of a signature that may stand on the right may stand there too
pub norm_ok : (ctx : List Kind) (x y : Abs) → OkRight ctx x → Norm ctx x y → OkRight ctx y
norm_ok ctx x y h n =
    let g : GoodAbs ctx x = record { normal = h.1; shape = explicit-shape h.0 } in
    (norms.norm_keeps ctx x y n h.0, (norm-good n g).normal)
