-- The fields of a record of terms, or the branches of a case, as a list of labels with their terms, and as the row of the plain tree.
use Rattle.std.specs.Prelude.{List, [], ◌∷◌}
use Rattle.omega_kinds.specs.declared.label.Label.{Label}
use Rattle.omega_terms.specs.Term.{Term, TermRow}

abbrev pub TermPairs : Type 0
TermPairs = List (Label × Term)

abbrev pub term_row : TermPairs → TermRow
term_row [] = TermRow.End
term_row (x ∷ xs) = TermRow.More x.0 x.1 (term_row xs)
