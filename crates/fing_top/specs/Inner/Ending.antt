-- The status and the text of what a run comes to.
use Rattle.std.specs.Prelude.{ℕ, List, codes}
use Rattle.omega_machine.specs.Inner.Outcomes.{fault_of}
use Rattle.omega_machine.specs.declared.outcome.End.{End}
use Rattle.omega_machine.specs.declared.outcome.End.TheVariants as end
use Rattle.fing_top.specs.Counts.{counts_line}
use Rattle.fing_top.specs.Refusing.{numbered}
use Rattle.fing_top.specs.Reply.{fault_line}
use Rattle.fing_top.specs.declared.status.Status.{Status}
use Rattle.fing_top.specs.declared.status.Status.TheVariants as status

abbrev pub ending_status : End → Status
ending_status (end.Value shown steps) = status.Ok
ending_status (end.Fault fault steps) = status.Faulted
ending_status end.Spent = status.Spent

abbrev pub ending_text : (budget : ℕ) → End → List ℕ
ending_text budget (end.Value shown steps) = shown
ending_text budget (end.Fault fault steps) = fault_line (fault_of fault)
ending_text budget end.Spent = numbered (codes "spent ") budget

-- what `gen` writes of a program of so many bindings and nodes: its counts, or what `run` writes
abbrev pub counted_text : (budget bindings nodes : ℕ) → End → List ℕ
counted_text budget b n (end.Value shown steps) = counts_line b n steps
counted_text budget b n (end.Fault fault steps) = ending_text budget (end.Fault fault steps)
counted_text budget b n end.Spent = ending_text budget end.Spent
