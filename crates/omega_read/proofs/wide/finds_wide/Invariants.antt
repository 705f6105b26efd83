use Rattle.std.proofs.Common.{◌≡◌, ◌≤◌, [], drop}
use Rattle.omega_spelling.specs.Refusals.{Outside, wide_from}
use Rattle.omega_read.specs.Inner.Scan.{place_of}
use Rattle.omega_read.proofs.Items.{part}
use Rattle.omega_read.proofs.wide.finds_wide.Given as goal

abbrev pub invariant-loop-i : goal.invariant-loop-i
invariant-loop-i l =
    (l.start ≤ l.i) × (wide_from (place_of l.spot) (part l.start l.i l.bytes) (drop l.i l.bytes) ≡ wide_from Outside [] l.bytes)
