use Rattle.std.proofs.Common.{◌≡◌, map, take}
use Rattle.sig_definitions.specs.Explicit.SigPath.{Item}
use Rattle.sig_rules.proofs.refinement.parts.Given as goal

abbrev pub invariant-loop-name : goal.invariant-loop-name
invariant-loop-name l = l.path ≡ map Item.Part (take l.name-index l.names)
