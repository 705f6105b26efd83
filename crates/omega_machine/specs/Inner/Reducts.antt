-- What a redex is reduced to.
use Rattle.omega_terms.specs.Term.{Term}
use Rattle.omega_terms.specs.Steps.{Step, Faults}
use Rattle.omega_machine.specs.declared.redexes.Step.{Step as Reduct}
use Rattle.omega_machine.specs.declared.redexes.Step.TheVariants as reduct
use Rattle.omega_machine.specs.Inner.Contexts.{term_in}
use Rattle.omega_machine.specs.Inner.Moves.{IsSoundFocus}
use Rattle.omega_machine.specs.Inner.Outcomes.{fault_of}

-- the term steps to what stands in its place, or has the fault
abbrev pub Reduces : Term → Reduct → Type 0
Reduces e (reduct.To x) = Step e (term_in x) × IsSoundFocus x
Reduces e (reduct.Fault x) = Faults e (fault_of x)
