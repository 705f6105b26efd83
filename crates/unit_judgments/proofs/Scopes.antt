-- Environments of interfaces.
-- Main results: interface-ok, more-ok, interfaces-give-scopes.
use Rattle.std.specs.Prelude.{List, [], ◌∷◌, ◌++◌, ◌≡◌}
use Rattle.std.proofs.Math.Path.{refl, sym, subst}
use Rattle.omega_kinds.specs.Name.{Name}
use Rattle.omega_types.specs.Binders.{extend}
use Rattle.sig_definitions.specs.Signatures.Sig.{Abs, Module, made}
use Rattle.sig_definitions.specs.Env.{Env, kinds}
use Rattle.sig_premise_laws.proofs.Environments.{good-module}
use Rattle.sig_laws.specs.Good.{OkEnv, OkAbs, OkModule}
use Rattle.sig_laws.proofs.Algebra.FormLaws.{kinds-type_vars}
use Rattle.sig_laws.proofs.Formed.Conditions.{abs-body}
use Rattle.unit_judgments.specs.Interfaces.{Interface, sig_in, hidden_in, with_interface, with_interfaces, env_of, OkInterfaces}
use Rattle.unit_judgments.specs.Claims.{InterfacesGiveScopes}
use Rattle.omega_kinds.specs.Kind.{Kind}

-- environments of interfaces

interfaces-append : (g : Env) (under : List Interface) (i : Interface) → with_interfaces g (under ++ i ∷ []) ≡ with_interface (with_interfaces g under) i.0 i.1
interfaces-append g [] i = refl
interfaces-append g (j ∷ under) i = interfaces-append (with_interface g j.0 j.1) under i

-- one more interface stands last in the environment of interfaces
pub env-more : (under : List Interface) (x : Name) (y : Abs) → env_of (under ++ (x, y) ∷ []) ≡ with_interface (env_of under) x y
env-more under x y = interfaces-append [] under (x, y)

-- a good environment with the interface of a good module is good
pub interface-ok : (g : Env) (x : Name) (M : Module) → OkEnv g → OkModule (kinds g) M → OkEnv (with_interface g x (sig_in M))
interface-ok g x (made f (Abs.Ex ks s) ts e) h w = good-module g ks x s h (abs-body w.0.0, w.0.1)

-- interfaces that make a good environment do so with that of a good module in it
pub more-ok : (under : List Interface) (x : Name) (M : Module) → OkEnv (env_of under) → OkModule (kinds (env_of under)) M → OkEnv (env_of (under ++ (x, sig_in M) ∷ []))
more-ok under x M h w = subst OkEnv (sym (env-more under x (sig_in M))) (interface-ok (env_of under) x M h w)

-- the kinds of an environment with one interface more
pub kinds-interface : (g : Env) (x : Name) (M : Module) → kinds (with_interface g x (sig_in M)) ≡ extend (kinds g) (hidden_in M)
kinds-interface g x (made f (Abs.Ex ks s) ts e) = kinds-type_vars g ks

-- interfaces of well formed signatures

scope-ok : (g : Env) (x : Name) (y : Abs) → OkEnv g → OkAbs (kinds g) y → OkEnv (with_interface g x y)
scope-ok g x (Abs.Ex ks s) h w = good-module g ks x s h (abs-body w.0, w.1)

scopes-ok : (g : Env) (under : List Interface) → OkEnv g → OkInterfaces g under → OkEnv (with_interfaces g under)
scopes-ok g [] h w = h
scopes-ok g (i ∷ under) h w = scopes-ok (with_interface g i.0 i.1) under (scope-ok g i.0 i.1 h w.0) w.1

-- interfaces of well formed signatures give a good environment
pub interfaces-give-scopes : InterfacesGiveScopes
interfaces-give-scopes under w = scopes-ok [] under tt w

-- well formed interfaces with one more are well formed
pub interfaces-ok-more : (g : Env) (under : List Interface) (i : Interface) → OkInterfaces g under → OkAbs (kinds (with_interfaces g under)) i.1 → OkInterfaces g (under ++ i ∷ [])
interfaces-ok-more g [] i w v = (v, tt)
interfaces-ok-more g (j ∷ under) i w v = (w.0, interfaces-ok-more (with_interface g j.0 j.1) under i w.1 v)

-- the signature of a good module is good
pub sig-ok : {ctx : List Kind} (M : Module) → OkModule ctx M → OkAbs ctx (sig_in M)
sig-ok (made f (Abs.Ex ks s) ts e) w = w.0
