use Rattle.std.proofs.Common.{◌≡◌}
use Rattle.sig_definitions.specs.Signatures.FieldOrder.{in_order}
use Rattle.module_rules.proofs.Rising.{put_all}
use Rattle.module_rules.proofs.bindings.sorted.Given as goal

abbrev pub invariant-loop-name : goal.invariant-loop-name
invariant-loop-name l = put_all l.name-iterator.iter.rest.now l.set ≡ in_order l.names
