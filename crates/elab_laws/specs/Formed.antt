-- The statements about derived types, signatures and modules.
use Rattle.std.specs.Prelude.{List, []}
use Rattle.omega_kinds.specs.Kind.{Kind, Star}
use Rattle.omega_kinds.specs.declared.effect.Effect.{Effect}
use Rattle.omega_kinds.specs.declared.effect.Effect.TheVariants.{Pure}
use Rattle.omega_types.specs.Ty.{Ty}
use Rattle.omega_types.specs.Kinding.{HasKind}
use Rattle.omega_types.specs.Binders.{OfKinds}
use Rattle.omega_terms.specs.Term.{Term}
use Rattle.sig_definitions.specs.Signatures.Sig.{Sig, Abs, made}
use Rattle.sig_definitions.specs.Env.{Env, kinds, IsGoodEnv}
use Rattle.sig_definitions.specs.Explicit.WellFormed.{WellFormedAbs, Explicit}
use Rattle.fing_syntax.specs.Phrase.{TyEx, Exp, SigEx, Mod, Binds}
use Rattle.elab_judgments.specs.Judgments.Meaning.{TyMeans, ExpMeans, SigMeans, ModMeans}
use Rattle.elab_judgments.specs.Judgments.Program.{ProgramMeans}

abbrev pub TypesHaveKinds : Type 0
TypesHaveKinds = (g : Env) (a : TyEx) (t : Ty) (k : Kind) → IsGoodEnv g → TyMeans g a t k → HasKind (kinds g) t k

abbrev pub ExpsHaveTypes : Type 0
ExpsHaveTypes = (g : Env) (a : Exp) (t : Ty) (e : Term) → IsGoodEnv g → ExpMeans g a t e → HasKind (kinds g) t Star

-- each written signature is ordered explicit
abbrev pub WrittenAreExplicit : Type 0
WrittenAreExplicit = (g : Env) (a : SigEx) (x : Abs) → IsGoodEnv g → SigMeans g a x → Explicit (kinds g) x

-- each module's signature is well formed, and a pure one keeps a type of the right kind for each hidden type
abbrev pub ModulesAreWellFormed : Type 0
ModulesAreWellFormed = (g : Env) (a : Mod) (f : Effect) (x : Abs) (ts : List Ty) (e : Term) → IsGoodEnv g → ModMeans g a (made f x ts e) → WellFormedAbs (kinds g) x

abbrev pub PureTypesHaveKinds : Type 0
PureTypesHaveKinds = (g : Env) (a : Mod) (ks : List Kind) (s : Sig) (ts : List Ty) (e : Term) → IsGoodEnv g → ModMeans g a (made Pure (Abs.Ex ks s) ts e) → OfKinds (kinds g) ts ks

abbrev pub ProgramsAreWellFormed : Type 0
ProgramsAreWellFormed = (a : Binds) (f : Effect) (x : Abs) (ts : List Ty) (e whole : Term) → ProgramMeans a (made f x ts e) whole → WellFormedAbs [] x

abbrev pub ProgramTypesHaveKinds : Type 0
ProgramTypesHaveKinds = (a : Binds) (ks : List Kind) (s : Sig) (ts : List Ty) (e whole : Term) → ProgramMeans a (made Pure (Abs.Ex ks s) ts e) whole → OfKinds [] ts ks
