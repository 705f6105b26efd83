-- The context of an environment with more type variables.
-- Main results: kinds-type_vars.
use Rattle.std.specs.Prelude.{List, [], ◌∷◌, ◌≡◌}
use Rattle.std.proofs.Math.Path.{refl, subst}
use Rattle.omega_kinds.specs.Kind.{Kind}
use Rattle.omega_types.specs.Binders.{extend}
use Rattle.sig_definitions.specs.Signatures.Sig.{Module}
use Rattle.sig_definitions.specs.Env.{Env, Entry, kinds, type_vars}
use Rattle.sig_laws.specs.Good.{OkModule}

-- an environment with more type variables has the context under their binders
pub kinds-type_vars : (g : Env) (ks : List Kind) → kinds (type_vars g ks) ≡ extend (kinds g) ks
kinds-type_vars g [] = refl
kinds-type_vars g (k ∷ ks) = kinds-type_vars (Entry.TypeVar k ∷ g) ks

-- a module under the types of a signature
pub module-under : (g : Env) (ks : List Kind) (M : Module) → OkModule (kinds (type_vars g ks)) M → OkModule (extend (kinds g) ks) M
module-under g ks M h = subst (λ ctx. OkModule ctx M) (kinds-type_vars g ks) h
