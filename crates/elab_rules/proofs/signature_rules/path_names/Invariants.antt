use Rattle.std.proofs.Common.{◌≡◌, ◌∷◌, ◌++◌, drop, map}
use Rattle.fing_syntax.specs.Inner.Leaves.{spelled}
use Rattle.elab_judgments.specs.Operators.{names_of}
use Rattle.elab_rules.proofs.signature_rules.path_names.Given as goal

abbrev pub invariant-loop-part : goal.invariant-loop-part
invariant-loop-part l = l.names ++ names_of (map spelled (drop l.part-index l.rest)) ≡ names_of (spelled l.first ∷ map spelled l.rest)
