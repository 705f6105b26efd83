use Rattle.std.proofs.Common.{◌≡◌, ◌++◌}
use Rattle.core_rules.specs.Inner.Records.{labelled}
use Rattle.core_rules.proofs.records.type_row.Given as goal

abbrev pub invariant-loop-name : goal.invariant-loop-name
invariant-loop-name l = l.fields ++ labelled (λ t. t) l.name-iterator ≡ labelled (λ t. t) l.parts.entries
