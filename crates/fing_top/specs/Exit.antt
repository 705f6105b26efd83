-- The number with which the program ends at each answer.
use Rattle.std.specs.Prelude.{ℕ}
use Rattle.fing_top.specs.declared.status.Status.{Status}
use Rattle.fing_top.specs.declared.status.Status.TheVariants as status

abbrev pub exit_number : Status → ℕ
exit_number status.Ok = 0
exit_number status.Refused = 1
exit_number status.Words = 2
exit_number status.Faulted = 3
exit_number status.Spent = 4
exit_number status.ReadFault = 5
exit_number status.WriteFault = 6
exit_number status.NoMemory = 7
exit_number status.TooLong = 8
