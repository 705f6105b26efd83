use Rattle.std.proofs.Common.{◌≡◌, max, drop}
use Rattle.omega_terms.specs.Inner.Bound.{row_type_bound}
use Rattle.omega_terms.specs.Fields.{term_row}
use Rattle.omega_terms.proofs.tree.TermFields.type_bound.Given as goal

abbrev pub invariant-loop-field : goal.invariant-loop-field
invariant-loop-field l =
    max l.most (row_type_bound (term_row (drop l.field-index l.field-items))) ≡ row_type_bound (term_row l.field-items)
