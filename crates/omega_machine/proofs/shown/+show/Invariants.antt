use Rattle.std.proofs.Common.{◌≡◌, ◌≤◌, ◌+◌, ◌*◌, ◌++◌, [], codes, drop}
use Rattle.omega_terms.specs.Fields.{term_row}
use Rattle.omega_terms.specs.Inner.Size.{term_size, pairs_size}
use Rattle.omega_terms.specs.ValueText.{shown_fields, mark_at}
use Rattle.omega_machine.proofs.shown.+show.Given as goal

abbrev pub decreases-show : goal.decreases-show
decreases-show l = 4 * term_size l.value.now

abbrev pub decreases-show_record : goal.decreases-show_record
decreases-show_record l = 4 * pairs_size l.fields.now + 3

abbrev pub decreases-show_single : goal.decreases-show_single
decreases-show_single l = 4 * pairs_size l.fields.now + 2

abbrev pub decreases-show_fields : goal.decreases-show_fields
decreases-show_fields l = 4 * pairs_size l.fields.now + 1

abbrev pub decreases-show_field : goal.decreases-show_field
decreases-show_field l = 4 * term_size l.value.now + 1

abbrev pub decreases-show_injected : goal.decreases-show_injected
decreases-show_injected l = 4 * term_size l.part.now + 1

abbrev pub decreases-show_rolled : goal.decreases-show_rolled
decreases-show_rolled l = 4 * term_size l.part.now + 1

abbrev pub invariant-show_fields-loop-place : goal.invariant-show_fields-loop-place
invariant-show_fields-loop-place l =
    record {
      text : l.out.items ++ shown_fields (mark_at l.place) (term_row (drop l.place l.field-items)) ≡ (l.fn.out.items ++ codes "{") ++ shown_fields [] (term_row l.field-items);
      size : pairs_size (drop l.place l.field-items) ≤ pairs_size l.field-items;
    }
