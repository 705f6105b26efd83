use Rattle.std.proofs.Common.{◌≡◌, ◌++◌}
use Rattle.fing_gen.specs.Source.{opening, sealed_from}
use Rattle.fing_gen.proofs.source.source_of.Given as goal

abbrev pub invariant-loop-before : goal.invariant-loop-before
invariant-loop-before l = l.text.items ≡ opening ++ sealed_from 1 l.before
