-- Interfaces of units: their names and signatures, and the environment that these give.
use Rattle.std.specs.Prelude.{List, [], ◌∷◌}
use Rattle.omega_kinds.specs.Kind.{Kind}
use Rattle.omega_kinds.specs.Name.{Name}
use Rattle.omega_kinds.specs.declared.effect.Effect.{Effect}
use Rattle.sig_definitions.specs.Signatures.Sig.{Abs, Module, made}
use Rattle.sig_definitions.specs.Env.{Env, kinds, with_module}
use Rattle.sig_laws.specs.Good.{OkAbs}

abbrev pub Interface : Type 0
Interface = Name × Abs

abbrev pub sig_in : Module → Abs
sig_in (made f x ts e) = x

abbrev pub effect_in : Module → Effect
effect_in (made f x ts e) = f

-- the kinds of the types that a module's signature hides
abbrev pub hidden_in : Module → List Kind
hidden_in (made f (Abs.Ex ks s) ts e) = ks

-- the name of a signature, after the types that the signature hides
abbrev pub with_interface : Env → Name → Abs → Env
with_interface g x (Abs.Ex ks s) = with_module g ks x s

-- interfaces one after the other, the first being the outermost
abbrev pub with_interfaces : Env → List Interface → Env
with_interfaces g [] = g
with_interfaces g (i ∷ rest) = with_interfaces (with_interface g i.0 i.1) rest

-- the environment in which a unit under these interfaces stands
abbrev pub env_of : List Interface → Env
env_of under = with_interfaces [] under

-- each signature is well formed, and of normal types, under the interfaces before it
abbrev pub OkInterfaces : Env → List Interface → Type 0
OkInterfaces g [] = Unit {0}
OkInterfaces g (i ∷ rest) = OkAbs (kinds g) i.1 × OkInterfaces (with_interface g i.0 i.1) rest
