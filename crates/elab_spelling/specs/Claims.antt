-- The theorems.
use Rattle.std.specs.Prelude.{◌≡◌, ◌↔◌, ◌≤◌, ◌^◌, ℕ, List, [], false, Some}
use Rattle.omega_kinds.specs.Kind.{Kind}
use Rattle.omega_kinds.specs.declared.effect.Effect.{Effect}
use Rattle.omega_types.specs.Ty.{Ty}
use Rattle.omega_types.specs.Kinding.{HasKind}
use Rattle.omega_types.specs.Height.{height}
use Rattle.omega_terms.specs.declared.version.Version.{Version}
use Rattle.omega_terms.specs.Term.{Term}
use Rattle.omega_terms.specs.Typing.{HasType}
use Rattle.omega_terms.specs.Height.{term_height}
use Rattle.omega_terms.specs.InScope.{TyInScope, TermInScope}
use Rattle.omega_terms.specs.OmegaText.{version_text}
use Rattle.omega_spelling.specs.Spelled.{TySpelled}
use Rattle.omega_spelling.specs.TermReading.{TermSpelled}
use Rattle.omega_spelling.specs.Omega.{TextIn, omega_at}
use Rattle.omega_spelling.specs.Refusals.{is_too_deep}
use Rattle.sig_definitions.specs.Signatures.Sig.{Sig, Abs, Module, made}
use Rattle.sig_definitions.specs.Signatures.Encoding.{enc_abs}
use Rattle.sig_definitions.specs.Matching.Subtyping.{Match}
use Rattle.sig_definitions.specs.Env.{Env}
use Rattle.sig_laws.specs.Good.{OkSig, OkRight, OkEnv}
use Rattle.fing_syntax.specs.Phrase.{TyEx, Exp, SigEx, Mod, Binds}
use Rattle.elab_judgments.specs.Judgments.Meaning.{TyMeans, ExpMeans, SigMeans, ModMeans}
use Rattle.elab_judgments.specs.Judgments.Program.{ProgramMeans}
use Rattle.elab_spelling.specs.Legible.{TyLegible, TypesLegible, TermLegible}
use Rattle.elab_spelling.specs.Signatures.{SigLegible, AbsLegible, ModuleLegible, EnvLegible}
use Rattle.elab_spelling.specs.Phrases.{TyExSpelled, ExpSpelled, SigExSpelled, ModSpelled, BindsSpelled}

-- a type has a spelling exactly where it is legible and its variables are in scope
abbrev pub TypesAreSpelled : Type 0
TypesAreSpelled = (v : Version) (n : ℕ) (t : Ty) → TySpelled v n t ↔ TyLegible v t × TyInScope n t

abbrev pub TermsAreSpelled : Type 0
TermsAreSpelled = (v : Version) (n m : ℕ) (e : Term) → TermSpelled v n m e ↔ TermLegible v e × TermInScope n m e

-- a closed type, and a closed term, has its variables in scope where it is not too high for their levels
abbrev pub ClosedTypesInScope : Type 0
ClosedTypesInScope = (t : Ty) (k : Kind) → HasKind [] t k → height t ≤ 2 ^ 64 → TyInScope 0 t

abbrev pub ClosedTermsInScope : Type 0
ClosedTermsInScope = (e : Term) (t : Ty) → HasType [] [] e t → term_height e ≤ 2 ^ 63 → TermInScope 0 0 e

-- a legible signature has a legible encoding
abbrev pub EncodingsAreLegible : Type 0
EncodingsAreLegible = (v : Version) (x : Abs) → AbsLegible v x → TyLegible v (enc_abs x)

-- a match of legible signatures finds legible types, and its coercion is legible
abbrev pub MatchesAreLegible : Type 0
MatchesAreLegible = (v : Version) (ctx : List Kind) (s : Sig) (x : Abs) (ts : List Ty)
    (f : Term) → OkSig ctx s → OkRight ctx x → SigLegible v s → AbsLegible v x → Match ctx s x ts f → TypesLegible v ts × TermLegible v f

-- in each version, in a good and legible environment, each phrase that is spelled has a legible meaning

abbrev pub TypesMeanLegible : Type 0
TypesMeanLegible = (v : Version) (g : Env) (a : TyEx) (t : Ty) (k : Kind) → OkEnv g → EnvLegible v g → TyExSpelled v a → TyMeans g a t k → TyLegible v t

abbrev pub ExpsMeanLegible : Type 0
ExpsMeanLegible =
    (v : Version) (g : Env) (a : Exp) (t : Ty) (e : Term) → OkEnv g → EnvLegible v g → ExpSpelled v a → ExpMeans g a t e → TyLegible v t × TermLegible v e

abbrev pub SigsMeanLegible : Type 0
SigsMeanLegible = (v : Version) (g : Env) (a : SigEx) (x : Abs) → OkEnv g → EnvLegible v g → SigExSpelled v a → SigMeans g a x → AbsLegible v x

abbrev pub ModsMeanLegible : Type 0
ModsMeanLegible = (v : Version) (g : Env) (a : Mod) (m : Module) → OkEnv g → EnvLegible v g → ModSpelled v a → ModMeans g a m → ModuleLegible v m

-- a program that is spelled means a legible module, and its whole term is legible
abbrev pub ProgramsMeanLegible : Type 0
ProgramsMeanLegible =
    (v : Version) (bs : Binds) (m : Module) (whole : Term) → BindsSpelled v bs → ProgramMeans bs m whole → ModuleLegible v m × TermLegible v whole

-- where such a program's whole term and encoded signature are not too high, they have a spelling in the version, which is their text
abbrev pub ProgramsHaveText : Type 0
ProgramsHaveText = (v : Version) (bs : Binds) (f : Effect) (x : Abs) (ts : List Ty) (e whole : Term) → BindsSpelled v bs → ProgramMeans bs
    (made f x ts e) whole → height (enc_abs x) ≤ 2 ^ 64 → term_height whole ≤ 2 ^ 63
    → TextIn v (version_text v (enc_abs x) whole) (enc_abs x) whole

-- and reading that text gives them again, where no more than 4,000 parentheses are open
abbrev pub ProgramsReadBack : Type 0
ProgramsReadBack = (v : Version) (bs : Binds) (f : Effect) (x : Abs) (ts : List Ty) (e whole : Term) → BindsSpelled v bs → ProgramMeans bs
    (made f x ts e) whole → height (enc_abs x) ≤ 2 ^ 64 → term_height whole ≤ 2 ^ 63
    → is_too_deep (version_text v (enc_abs x) whole) ≡ false → omega_at (version_text v (enc_abs x) whole) ≡ Some (enc_abs x, whole)
