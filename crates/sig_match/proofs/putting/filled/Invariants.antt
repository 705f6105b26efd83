use Rattle.std.proofs.Common.{◌≡◌, map, take}
use Rattle.omega_kinds.specs.View.{kind_tree}
use Rattle.sig_match.specs.Inner.Put.{filled}
use Rattle.sig_match.proofs.putting.filled.Given as goal

abbrev pub invariant-loop-i : goal.invariant-loop-i
invariant-loop-i l = l.types ≡ take l.i (filled (map kind_tree l.kinds) l.found)
