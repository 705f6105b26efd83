-- What is answered for a separate unit in an environment: its one meaning, or its one refusal.
use Rattle.std.specs.Prelude.{◌≡◌}
use Rattle.sig_definitions.specs.Env.{Env}
use Rattle.sig_definitions.specs.Signatures.Sig.{Module}
use Rattle.fing_syntax.specs.Units.{UnitTree}
use Rattle.refusal_reasons.specs.Refusal.{Refusal}
use Rattle.unit_laws.specs.Derived.{UnitMeans, UnitRefused}

-- the unit means this module and nothing else, and it is not refused
pub record MeansUnit (g : Env) (u : UnitTree) (m : Module) : Type 0 where
  pub derived : UnitMeans g u m
  pub only : (n : Module) → UnitMeans g u n → n ≡ m
  pub unrefused : (r : Refusal) → UnitRefused g u r → ⊥

-- the unit is refused so and in no other way, and it means nothing
pub record UnitIsRefused (g : Env) (u : UnitTree) (r : Refusal) : Type 0 where
  pub refused : UnitRefused g u r
  pub only : (q : Refusal) → UnitRefused g u q → q ≡ r
  pub meaningless : (m : Module) → UnitMeans g u m → ⊥
