-- Linking: the module that the rules of bindings give for names bound to modules in order (Rossberg, Russo, Dreyer, F-ing
-- modules, sections 4 and 7), and the units that do not fit together.
use Rattle.std.specs.Prelude.{ℕ, List, [], ◌∷◌, ◌++◌, ◌≡◌, ◌≢◌, ◌<◌, length, map}
use Rattle.omega_kinds.specs.declared.effect.Effect.TheVariants.{Pure}
use Rattle.omega_kinds.specs.Name.{Name}
use Rattle.omega_terms.specs.Term.{Term, TermRow}
use Rattle.sig_definitions.specs.Signatures.Sig.{Sig, Abs, SigRow, Module, made}
use Rattle.sig_definitions.specs.Signatures.FieldOrder.{with_name}
use Rattle.sig_definitions.specs.Env.{Env, kinds}
use Rattle.sig_laws.specs.Good.{OkModule}
use Rattle.module_judgments.specs.Sequence.{Seq, Collected}
use Rattle.unit_judgments.specs.Interfaces.{Interface, sig_in, with_interface, env_of}

-- a name bound to a module
abbrev pub Named : Type 0
Named = Name × Module

-- names bound to modules in order, after bindings of the names before, and then the end of the structure
pub data LinkGives : Env → List Name → List Named → Module → Type 0 where
  end : {g : Env} {before : List Name} {fs : SigRow} {es : TermRow}
      → Collected g before fs es
      → LinkGives g before [] (made Pure (Abs.Ex [] (Sig.Str fs)) [] (Term.Fields es))
  next : {g : Env} {before : List Name} {x : Name} {ms : List Named} {first rest whole : Module}
      → LinkGives (with_interface g x (sig_in first)) (with_name x before) ms rest
      → Seq (kinds g) first rest whole
      → LinkGives g before ((x, first) ∷ ms) whole

-- a unit that was elaborated apart: the interfaces under which it stands, its name and its module
pub data UnitModule : Type 0 where
  UnitUnder : (under : List Interface) (name : Name) (what : Module) → UnitModule

abbrev pub under_of : UnitModule → List Interface
under_of (UnitUnder under x m) = under

abbrev pub interface_of : UnitModule → Interface
interface_of (UnitUnder under x m) = (x, sig_in m)

abbrev pub named : UnitModule → Named
named (UnitUnder under x m) = (x, m)

abbrev pub what_of : UnitModule → Module
what_of (UnitUnder under x m) = m

-- the names of units as a structure has them, after those before
abbrev pub names_after : List Name → List UnitModule → List Name
names_after before [] = before
names_after before (u ∷ us) = names_after (with_name (interface_of u).0 before) us

-- the unit of this index stands under other interfaces than those of the units before it
pub data Differs (us : List UnitModule) (n : ℕ) : Type 0 where
  differs : (front : List UnitModule) (u : UnitModule) (back : List UnitModule)
      → us ≡ front ++ u ∷ back
      → length front ≡ n
      → under_of u ≢ map interface_of front
      → Differs us n

-- it is the first such
abbrev pub Foreign : List UnitModule → ℕ → Type 0
Foreign us n = Differs us n × ((m : ℕ) → m < n → Differs us m → ⊥)

-- each unit stands under the interfaces of those before it, and the rules of bindings give this module
pub data Links (us : List UnitModule) (m : Module) : Type 0 where
  links : ((n : ℕ) → Differs us n → ⊥) → LinkGives [] [] (map named us) m → Links us m

-- each unit's module is good where the unit stands
abbrev pub OkUnit : UnitModule → Type 0
OkUnit (UnitUnder under x m) = OkModule (kinds (env_of under)) m

abbrev pub OkUnits : List UnitModule → Type 0
OkUnits [] = Unit {0}
OkUnits (u ∷ us) = OkUnit u × OkUnits us

-- two units of one interface under the same interfaces
pub record Replaces (u v : UnitModule) : Type 0 where
  pub under : under_of u ≡ under_of v
  pub shown : interface_of u ≡ interface_of v
