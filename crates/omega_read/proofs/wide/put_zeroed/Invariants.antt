use Rattle.std.proofs.Common.{◌≡◌, ◌≤◌, ◌++◌, [], drop}
use Rattle.omega_spelling.specs.Refusals.{Outside, zeroed_from}
use Rattle.omega_read.specs.Inner.Scan.{place_of}
use Rattle.omega_read.proofs.Items.{part}
use Rattle.omega_read.proofs.wide.put_zeroed.Given as goal

abbrev pub invariant-loop-i : goal.invariant-loop-i
invariant-loop-i l =
    (l.start ≤ l.i) × (l.out.items ++ zeroed_from (place_of l.spot) (part l.start l.i l.bytes) (drop l.i l.bytes) ≡ l.initial.out.items ++ zeroed_from Outside [] l.bytes)
