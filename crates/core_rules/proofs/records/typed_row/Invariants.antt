use Rattle.std.proofs.Common.{◌≡◌, ◌++◌}
use Rattle.core_rules.specs.Inner.Records.{labelled}
use Rattle.core_rules.proofs.records.typed_row.Given as goal

abbrev pub invariant-loop-name : goal.invariant-loop-name
invariant-loop-name l = l.fields ++ labelled (λ e. e.ty) l.name-iterator ≡ labelled (λ e. e.ty) l.parts.entries
