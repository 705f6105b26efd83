-- Value parameters entered one after the other, and left again.
-- Main results: value-env-in, fix-env-in.
use Rattle.std.proofs.Common.{◌≡◌, ◌∷◌, drop, ap, ◌∙◌}
use Rattle.omega_kinds.specs.Kind.{Kind}
use Rattle.omega_kinds.specs.Name.{Name}
use Rattle.omega_types.specs.Ty.{Ty}
use Rattle.sig_definitions.specs.Env.{Env, Value}
use Rattle.sig_laws.specs.Good.{OkEnv}
use Rattle.fing_syntax.specs.Phrase.{TyEx}
use Rattle.elab_judgments.specs.Judgments.Meaning.{TyMeans}
use Rattle.elab_phrases.proofs.ArgSteps.{env-in}
use Rattle.elab_rules.proofs.Given.{value-env, fix-env}

-- a value parameter that is entered stands before the environment
pub entered : {g h k : Env} {f : Name} {w t : Ty} → k ≡ Value f w ∷ h → w ≡ t → h ≡ g → k ≡ Value f t ∷ g
entered {g} {h} {k} {f} {w} {t} p q s = p ∙ (ap (λ u. Value f u ∷ h) q ∙ ap (λ x. Value f t ∷ x) s)

-- the environment is as before when a value parameter is left
pub left : {g h k : Env} {f : Name} {t : Ty} → k ≡ drop 1 h → h ≡ Value f t ∷ g → k ≡ g
left p q = p ∙ ap (drop 1) q

-- an environment with a value parameter of a derived type is good
pub value-env-in : {g h : Env} {a : TyEx} {t : Ty} (x : Name) → h ≡ g → OkEnv g → TyMeans g a t Kind.Star → OkEnv (Value x t ∷ h)
value-env-in {t = t} x s o m = env-in (ap (λ g. Value x t ∷ g) s) (value-env x o m)

-- an environment with a recursive function and its parameter is good
pub fix-env-in : {g h : Env} {a b : TyEx} {t u : Ty} (f x : Name) → h ≡ Value f (Ty.Arrow t u) ∷ g → OkEnv g → TyMeans g a t Kind.Star → TyMeans g b u Kind.Star → OkEnv (Value x t ∷ h)
fix-env-in {t = t} f x s o m n = env-in (ap (λ g. Value x t ∷ g) s) (fix-env f x o m n)
