-- The theorems.
use Rattle.std.specs.Prelude.{List, [], ◌≡◌, ◌⊎◌}
use Rattle.omega_terms.specs.Term.{Term}
use Rattle.sig_definitions.specs.Signatures.Sig.{Module}
use Rattle.sig_definitions.specs.Env.{Env}
use Rattle.sig_definitions.specs.Packing.{Packed}
use Rattle.refusal_reasons.specs.Refusal.{Refusal}
use Rattle.fing_syntax.specs.Phrase.{Span, SpanName, Mod, SigEx}
use Rattle.sig_laws.specs.Good.{OkEnv}
use Rattle.elab_judgments.specs.Refusals.Task.{a_mod}
use Rattle.elab_exact.specs.Claims.{Exactly}
use Rattle.unit_judgments.specs.Interfaces.{Interface, env_of, OkInterfaces}
use Rattle.unit_judgments.specs.Link.{UnitModule, Links, OkUnits}
use Rattle.fing_syntax.specs.Units.{UnitTree, UnitAt}
use Rattle.unit_laws.specs.Units.{unit_mod}
use Rattle.unit_laws.specs.Derived.{UnitMeans, UnitSig, DerivedUnder, UnitsMean, FirstRefused, DerivesUnits, RefusesUnits}

-- units that are derived apart have one link: what their program means, with its packed term; and the program means
-- nothing else and is not refused
pub record Linked (us : List UnitTree) (ms : List UnitModule) : Type 0 where
  pub whole : Module
  pub packed : Term
  pub fits : OkUnits ms
  pub links : Links ms whole
  pub only_link : (m : Module) → Links ms m → m ≡ whole
  pub packs : Packed [] whole packed
  pub means : DerivesUnits us whole packed
  pub only : (m : Module) (e : Term) → DerivesUnits us m e → (m ≡ whole) × (e ≡ packed)
  pub unrefused : (r : Refusal) → RefusesUnits us r → ⊥

abbrev pub LinkedIsDerived : Type 0
LinkedIsDerived = (us : List UnitTree) (ms : List UnitModule) → UnitsMean [] us ms → Linked us ms

-- a program that means something is the link of units that are derived apart, and of no others
abbrev pub DerivedIsLinked : Type 0
DerivedIsLinked = (us : List UnitTree) (m : Module) (e : Term) → DerivesUnits us m e → (ms : List UnitModule) × UnitsMean [] us ms × Links ms m × ((ns : List UnitModule) → UnitsMean [] us ns → ns ≡ ms)

-- the first refusal is that of the program, which has no other and means nothing
abbrev pub FirstIsRefused : Type 0
FirstIsRefused = (us : List UnitTree) (r : Refusal) → FirstRefused [] us r → RefusesUnits us r × ((q : Refusal) → RefusesUnits us q → q ≡ r) × ((m : Module) (e : Term) → DerivesUnits us m e → ⊥)

abbrev pub RefusedIsFirst : Type 0
RefusedIsFirst = (us : List UnitTree) (r : Refusal) → RefusesUnits us r → FirstRefused [] us r

-- each unit of a list is derived, or one is the first that is refused
abbrev pub EachList : Type 0
EachList = (us : List UnitTree) → ((ms : List UnitModule) × UnitsMean [] us ms) ⊎ ((r : Refusal) × FirstRefused [] us r)

-- interfaces of derived units are well formed and give an environment that is good, in which a unit means one module or
-- has one refusal
abbrev pub DerivedUnderIsGood : Type 0
DerivedUnderIsGood = (under : List Interface) → DerivedUnder under → OkInterfaces [] under × OkEnv (env_of under) × ((u : UnitTree) → Exactly (env_of under) (a_mod (unit_mod u)))

abbrev pub SigOfUnit : Type 0
SigOfUnit = (g : Env) (at : Span) (x : SpanName) (a : SigEx) (b : Mod) (m : Module) → UnitMeans g (UnitAt at x a b) m → UnitSig g at x a b m
