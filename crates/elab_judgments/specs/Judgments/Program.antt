-- Whole programs: what a program means, and how it is refused (Rossberg, Russo, Dreyer, F-ing modules, section 4; refusals
-- are own).
use Rattle.std.specs.Prelude.{[]}
use Rattle.omega_terms.specs.Term.{Term}
use Rattle.sig_definitions.specs.Signatures.Sig.{Module}
use Rattle.sig_definitions.specs.Packing.{Packed}
use Rattle.fing_syntax.specs.Phrase.{Binds}
use Rattle.elab_judgments.specs.Judgments.Meaning.{BindsMean}
use Rattle.refusal_reasons.specs.Refusal.{Refusal}
use Rattle.elab_judgments.specs.Refusals.Task.{Task}
use Rattle.elab_judgments.specs.Refusals.Refused.{Refused}

-- a program is a structure in the empty environment; its whole term has its hidden types packed
pub data ProgramMeans (bs : Binds) (m : Module) (whole : Term) : Type 0 where
  program : BindsMean [] [] bs m → Packed [] m whole → ProgramMeans bs m whole

abbrev pub ProgramRefused : Binds → Refusal → Type 0
ProgramRefused bs r = Refused [] (Task.binds [] bs) r
