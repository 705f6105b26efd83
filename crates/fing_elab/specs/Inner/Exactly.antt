-- What is answered for a program: its one meaning, or its one refusal.
use Rattle.std.specs.Prelude.{◌≡◌}
use Rattle.omega_terms.specs.Term.{Term}
use Rattle.sig_definitions.specs.Signatures.Sig.{Module, made}
use Rattle.fing_syntax.specs.Phrase.{Binds}
use Rattle.refusal_reasons.specs.Refusal.{Refusal}
use Rattle.elab_judgments.specs.Judgments.Program.{ProgramMeans, ProgramRefused}
use Rattle.fing_elab.specs.declared.whole.Elaborated.{Elaborated}

-- the module that is answered
abbrev pub module_in : Elaborated → Module
module_in o = made o.effect o.sig o.types o.term

-- the program means what is answered and nothing else, and it is not refused
pub record Means (bs : Binds) (o : Elaborated) : Type 0 where
  pub derived : ProgramMeans bs (module_in o) o.whole
  pub only : (m : Module) (whole : Term) → ProgramMeans bs m whole → (m ≡ module_in o) × (whole ≡ o.whole)
  pub unrefused : (r : Refusal) → ProgramRefused bs r → ⊥

-- the program is refused so and in no other way, and it means nothing
pub record IsRefused (bs : Binds) (r : Refusal) : Type 0 where
  pub refused : ProgramRefused bs r
  pub only : (q : Refusal) → ProgramRefused bs q → q ≡ r
  pub meaningless : (m : Module) (whole : Term) → ProgramMeans bs m whole → ⊥
