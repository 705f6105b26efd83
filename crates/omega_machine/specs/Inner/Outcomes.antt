-- What `run` answers, and the laws that hold of each run.
use Rattle.std.specs.Prelude.{ℕ, ◌≡◌, []}
use Rattle.omega_types.specs.Ty.{Ty}
use Rattle.omega_terms.specs.Term.{Term}
use Rattle.omega_terms.specs.Typing.{HasType, IsPackedRecord}
use Rattle.omega_terms.specs.Steps.{IsValue, PacksFields, Fault, Reaches, Stuck, End, Ends, Result, Outcome}
use Rattle.omega_machine.specs.declared.outcome.Arith.{Arith}
use Rattle.omega_machine.specs.declared.outcome.Arith.TheVariants as arith
use Rattle.omega_machine.specs.declared.outcome.End.{End as Answer}
use Rattle.omega_machine.specs.declared.outcome.End.TheVariants as answer
use Rattle.omega_terms.specs.ValueText.{value_text}

abbrev pub fault_of : Arith → Fault
fault_of arith.Overflow = Fault.Overflow
fault_of arith.DivideByZero = Fault.DivideByZero

-- the answer tells the outcome of the term within the budget, a value by its text
abbrev pub Tells : (e : Term) (budget : ℕ) → Answer → Type 0
Tells e budget (answer.Value shown steps) = (v : Term) × Outcome e budget (Result.ended (End.the_value v) steps) × (shown ≡ value_text v)
Tells e budget (answer.Fault fault steps) = Outcome e budget (Result.ended (End.the_fault (fault_of fault)) steps)
Tells e budget answer.Spent = Outcome e budget Result.spent

-- after as many steps as the budget the term has come to no value, nor to a fault before
abbrev pub StillGoes : (e : Term) (budget : ℕ) → Type 0
StillGoes e budget = (d : Term) × Reaches e budget d × (IsValue d → ⊥)

-- no term that is reached is stuck
abbrev pub NeverStuck : Term → Type 0
NeverStuck e = (n : ℕ) (d : Term) → Reaches e n d → Stuck d → ⊥

abbrev pub HasOneOutcome : (e : Term) (budget : ℕ) → Type 0
HasOneOutcome e budget = (r s : Result) → Outcome e budget r → Outcome e budget s → r ≡ s

-- a value that is come to has the type, and is a record of values inside packages where the type is one
abbrev pub ValuesFit : Term → Ty → Type 0
ValuesFit e t = (n : ℕ) (v : Term) → Ends e n (End.the_value v) → HasType [] [] v t × (IsPackedRecord t → PacksFields v)
