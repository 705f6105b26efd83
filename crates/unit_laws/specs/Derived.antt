-- What units mean under interfaces, how they are refused, and what their program means.
use Rattle.std.specs.Prelude.{List, [], ◌∷◌, ◌++◌, ◌≡◌}
use Rattle.omega_kinds.specs.Kind.{Kind}
use Rattle.omega_kinds.specs.declared.effect.Effect.{Effect}
use Rattle.omega_types.specs.Ty.{Ty}
use Rattle.omega_terms.specs.Term.{Term}
use Rattle.sig_definitions.specs.Signatures.Sig.{Sig, Abs, Module, made}
use Rattle.sig_definitions.specs.Env.{Env, with_module}
use Rattle.fing_syntax.specs.Phrase.{Span, SpanName, Mod, SigEx}
use Rattle.refusal_reasons.specs.Refusal.{Refusal}
use Rattle.elab_judgments.specs.Judgments.Meaning.{SigMeans, ModMeans}
use Rattle.elab_judgments.specs.Judgments.Program.{ProgramMeans, ProgramRefused}
use Rattle.elab_judgments.specs.Refusals.Task.{a_mod}
use Rattle.elab_judgments.specs.Refusals.Refused.{Refused}
use Rattle.unit_judgments.specs.Interfaces.{Interface, sig_in, effect_in, env_of}
use Rattle.unit_judgments.specs.Link.{UnitModule, UnitUnder}
use Rattle.fing_syntax.specs.Units.{UnitTree}
use Rattle.unit_laws.specs.Units.{unit_name, unit_mod, sealing_name, program_of}

-- the module of a unit, and its refusal
abbrev pub UnitMeans : Env → UnitTree → Module → Type 0
UnitMeans g u m = ModMeans g (unit_mod u) m

abbrev pub UnitRefused : Env → UnitTree → Refusal → Type 0
UnitRefused g u r = Refused g (a_mod (unit_mod u)) r

-- the signature of a unit's module is the one that is written, before whose quantifiers stand those of the types that the
-- body hides; its effect is that of the body. The written one stands in the scope of the body, which has a hidden name there
pub data UnitSig (g : Env) (at : Span) (x : SpanName) (a : SigEx) (b : Mod) (m : Module) : Type 0 where
  unit_sig : {f : Effect} {ks js : List Kind} {s t : Sig} {ts : List Ty} {e : Term}
      → ModMeans g b (made f (Abs.Ex ks s) ts e)
      → SigMeans (with_module g ks sealing_name s) a (Abs.Ex js t)
      → sig_in m ≡ Abs.Ex (ks ++ js) t
      → effect_in m ≡ f
      → UnitSig g at x a b m

-- interfaces of units that are derived, each under those before it
pub data DerivedUnder : List Interface → Type 0 where
  nothing : DerivedUnder []
  more : {under : List Interface} (u : UnitTree) (m : Module)
      → DerivedUnder under
      → UnitMeans (env_of under) u m
      → DerivedUnder (under ++ (unit_name u, sig_in m) ∷ [])

-- units that are derived, each under the interfaces before the list and those of the units before it
pub data UnitsMean : List Interface → List UnitTree → List UnitModule → Type 0 where
  none : {under : List Interface} → UnitsMean under [] []
  next : {under : List Interface} {u : UnitTree} {us : List UnitTree} {m : Module} {ms : List UnitModule}
      → UnitMeans (env_of under) u m
      → UnitsMean (under ++ (unit_name u, sig_in m) ∷ []) us ms
      → UnitsMean under (u ∷ us) (UnitUnder under (unit_name u) m ∷ ms)

-- the refusal of the first unit that is refused, those before it being derived
pub data FirstRefused : List Interface → List UnitTree → Refusal → Type 0 where
  here : {under : List Interface} {u : UnitTree} {us : List UnitTree} {r : Refusal}
      → UnitRefused (env_of under) u r
      → FirstRefused under (u ∷ us) r
  later : {under : List Interface} {u : UnitTree} {us : List UnitTree} {m : Module} {r : Refusal}
      → UnitMeans (env_of under) u m
      → FirstRefused (under ++ (unit_name u, sig_in m) ∷ []) us r
      → FirstRefused under (u ∷ us) r

-- what the program of units means, and how it is refused
abbrev pub DerivesUnits : List UnitTree → Module → Term → Type 0
DerivesUnits us m whole = ProgramMeans (program_of us) m whole

abbrev pub RefusesUnits : List UnitTree → Refusal → Type 0
RefusesUnits us r = ProgramRefused (program_of us) r
