-- The statements that what phrases mean is well typed.
use Rattle.std.specs.Prelude.{ℕ, List, [], ◌∷◌, ◌≡◌}
use Rattle.omega_kinds.specs.Kind.{Kind}
use Rattle.omega_kinds.specs.declared.effect.Effect.{Effect}
use Rattle.omega_kinds.specs.declared.effect.Effect.TheVariants.{Pure}
use Rattle.omega_types.specs.Ty.{Ty}
use Rattle.omega_types.specs.Normality.{Normal}
use Rattle.omega_types.specs.Binders.{OfKinds}
use Rattle.omega_terms.specs.Term.{Term}
use Rattle.omega_terms.specs.Typing.{HasType}
use Rattle.omega_terms.specs.NormalTyping.{Typed}
use Rattle.omega_terms.specs.Steps.{Reaches, Stuck}
use Rattle.omega_laws.specs.Synthesis.{Synth}
use Rattle.sig_definitions.specs.Signatures.Sig.{Sig, Abs, Module, made}
use Rattle.sig_definitions.specs.Signatures.Alike.{NormalSig, NormalAbs}
use Rattle.sig_definitions.specs.Signatures.Encoding.{enc, enc_abs}
use Rattle.sig_definitions.specs.Signatures.SigSubst.{sig_at}
use Rattle.sig_definitions.specs.Packing.{Packed}
use Rattle.sig_definitions.specs.Env.{Env, Entry, kinds, types, IsGoodEnv}
use Rattle.sig_laws.specs.Good.{OkModule}
use Rattle.fing_syntax.specs.Phrase.{Mod, Binds, SigEx, TyEx, Exp}
use Rattle.elab_judgments.specs.Judgments.Meaning.{TyMeans, ExpMeans, SigMeans, ModMeans}
use Rattle.elab_judgments.specs.Judgments.Program.{ProgramMeans}

-- every type in an environment is normal
abbrev pub IsNormalEntry : Env → Entry → Type 0
IsNormalEntry g (Entry.TypeVar k) = Unit {0}
IsNormalEntry g (Entry.Named x s) = NormalSig (kinds g) s
IsNormalEntry g (Entry.Value x t) = Normal (kinds g) t Kind.Star
IsNormalEntry g (Entry.TypeParam x) = Unit {0}

abbrev pub IsNormalEnv : Env → Type 0
IsNormalEnv [] = Unit {0}
IsNormalEnv (entry ∷ g) = IsNormalEntry g entry × IsNormalEnv g

-- the whole term of a program has the type of its whole signature
abbrev pub WholeIsTyped : Type 0
WholeIsTyped = (bs : Binds) (f : Effect) (x : Abs) (ts : List Ty) (e whole : Term) → ProgramMeans bs (made f x ts e) whole → HasType [] [] whole (enc_abs x)

-- no term that a program's whole term comes to is stuck, and each has the type of the whole signature
abbrev pub WholeIsNeverStuck : Type 0
WholeIsNeverStuck = (bs : Binds) (f : Effect) (x : Abs) (ts : List Ty) (e whole d : Term) (n : ℕ) → ProgramMeans bs (made f x ts e) whole → Reaches whole n d → HasType [] [] d (enc_abs x) × (Stuck d → ⊥)

-- it is what a checker finds: that type, in normal form as it stands, is synthesised, and no other one
abbrev pub WholeIsSynthesised : Type 0
WholeIsSynthesised = (bs : Binds) (f : Effect) (x : Abs) (ts : List Ty) (e whole : Term) → ProgramMeans bs (made f x ts e) whole → Synth [] [] whole (enc_abs x) × ((t : Ty) → Synth [] [] whole t → t ≡ enc_abs x)

-- the same by normal typing: each type in the whole term is normal where it stands
abbrev pub WholeIsNormal : Type 0
WholeIsNormal = (bs : Binds) (f : Effect) (x : Abs) (ts : List Ty) (e whole : Term) → ProgramMeans bs (made f x ts e) whole → Typed [] [] whole (enc_abs x)

-- the types of a program's signature are normal
abbrev pub SigOfProgramIsNormal : Type 0
SigOfProgramIsNormal = (bs : Binds) (f : Effect) (x : Abs) (ts : List Ty) (e whole : Term) → ProgramMeans bs (made f x ts e) whole → NormalAbs [] x

-- the same for phrases, in environments that are well formed and normal

abbrev pub TypeIsKinded : Type 0
TypeIsKinded = (g : Env) (T : TyEx) (t : Ty) (k : Kind) → IsGoodEnv g → IsNormalEnv g → TyMeans g T t k → Normal (kinds g) t k

abbrev pub ExpressionIsTyped : Type 0
ExpressionIsTyped = (g : Env) (E : Exp) (t : Ty) (e : Term) → IsGoodEnv g → IsNormalEnv g → ExpMeans g E t e → HasType (kinds g) (types g) e t

-- an expression's type is normal
abbrev pub ExpressionIsNormal : Type 0
ExpressionIsNormal = (g : Env) (E : Exp) (t : Ty) (e : Term) → IsGoodEnv g → IsNormalEnv g → ExpMeans g E t e → Normal (kinds g) t Kind.Star

abbrev pub SignatureIsNormal : Type 0
SignatureIsNormal = (g : Env) (S : SigEx) (x : Abs) → IsGoodEnv g → IsNormalEnv g → SigMeans g S x → NormalAbs (kinds g) x

-- a module's term, with the hidden types packed into it, has the type of its signature
abbrev pub ModuleIsTyped : Type 0
ModuleIsTyped = (g : Env) (m : Mod) (f : Effect) (x : Abs) (ts : List Ty) (e p : Term) → IsGoodEnv g → IsNormalEnv g → ModMeans g m (made f x ts e) → Packed (kinds g) (made f x ts e) p → HasType (kinds g) (types g) p (enc_abs x)

-- a module's signature is well formed and of normal types, the types that it keeps are normal and of the kinds that its
-- signature hides, and each type in its term is normal where it stands
abbrev pub ModuleIsNormal : Type 0
ModuleIsNormal = (g : Env) (m : Mod) (M : Module) → IsGoodEnv g → IsNormalEnv g → ModMeans g m M → OkModule (kinds g) M

-- the types that a pure module keeps have the kinds of those that its signature hides, and its term has the type of the
-- signature's body at them
abbrev pub PureModuleIsTyped : Type 0
PureModuleIsTyped = (g : Env) (m : Mod) (ks : List Kind) (s : Sig) (ts : List Ty) (e : Term) → IsGoodEnv g → IsNormalEnv g → ModMeans g m (made Pure (Abs.Ex ks s) ts e) → OfKinds (kinds g) ts ks × HasType (kinds g) (types g) e (enc (sig_at ts s))
