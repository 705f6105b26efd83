use Rattle.std.proofs.Common.{◌≡◌, ◌≤◌, drop}
use Rattle.omega_terms.specs.Fields.{term_row}
use Rattle.omega_terms.specs.Inner.Size.{pairs_size}
use Rattle.omega_scopes.specs.Inner.Scoped.{term_row_scoped}
use Rattle.omega_scopes.proofs.scopes.+terms.Given as goal

abbrev pub invariant-fits_term_fields-loop-field : goal.invariant-fits_term_fields-loop-field
invariant-fits_term_fields-loop-field l =
    (term_row_scoped l.types l.terms (term_row (drop l.field-index l.field-items)) ≡ term_row_scoped l.types l.terms (term_row l.field-items)) × (pairs_size (drop l.field-index l.field-items) ≤ pairs_size l.field-items)
