use Rattle.std.proofs.Common.{◌≡◌, ◌+◌, ◌*◌, ◌-◌, None}
use Rattle.omega_terms.specs.Term.{End, More}
use Rattle.omega_spelling.specs.Reading.{fields_at}
use Rattle.omega_spelling.specs.TermReading.{term_at}
use Rattle.omega_read.specs.Inner.Onto.{last_of, with_front}
use Rattle.omega_read.proofs.terms.+terms.Given as goal

abbrev pub decreases-term_of : goal.decreases-term_of
decreases-term_of l = 6 * l.depth

abbrev pub decreases-node_of : goal.decreases-node_of
decreases-node_of l = 6 * l.depth + 5

abbrev pub decreases-later_node_of : goal.decreases-later_node_of
decreases-later_node_of l = 6 * l.depth + 4

abbrev pub decreases-case_of : goal.decreases-case_of
decreases-case_of l = 6 * l.depth + 3

abbrev pub decreases-record_of : goal.decreases-record_of
decreases-record_of l = 6 * l.depth + 3

abbrev pub decreases-fields_of : goal.decreases-fields_of
decreases-fields_of l = 6 * l.depth + 2

abbrev pub decreases-field_of : goal.decreases-field_of
decreases-field_of l = 6 * l.depth + 1

abbrev pub decreases-lam_of : goal.decreases-lam_of
decreases-lam_of l = 6 * l.depth + 1

abbrev pub decreases-call_of : goal.decreases-call_of
decreases-call_of l = 6 * l.depth + 1

abbrev pub decreases-ty_lam_of : goal.decreases-ty_lam_of
decreases-ty_lam_of l = 6 * l.depth + 1

abbrev pub decreases-inst_of : goal.decreases-inst_of
decreases-inst_of l = 6 * l.depth + 1

abbrev pub decreases-get_of : goal.decreases-get_of
decreases-get_of l = 6 * l.depth + 1

abbrev pub decreases-pack_of : goal.decreases-pack_of
decreases-pack_of l = 6 * l.depth + 1

abbrev pub decreases-unpack_of : goal.decreases-unpack_of
decreases-unpack_of l = 6 * l.depth + 1

abbrev pub decreases-if_of : goal.decreases-if_of
decreases-if_of l = 6 * l.depth + 1

abbrev pub decreases-fix_of : goal.decreases-fix_of
decreases-fix_of l = 6 * l.depth + 1

abbrev pub decreases-inj_of : goal.decreases-inj_of
decreases-inj_of l = 6 * l.depth + 1

abbrev pub decreases-roll_of : goal.decreases-roll_of
decreases-roll_of l = 6 * l.depth + 1

abbrev pub decreases-unroll_of : goal.decreases-unroll_of
decreases-unroll_of l = 6 * l.depth + 1

abbrev pub decreases-arith_of : goal.decreases-arith_of
decreases-arith_of l = 6 * l.depth + 1

abbrev pub invariant-fields_of-loop : goal.invariant-fields_of-loop
invariant-fields_of-loop l =
    with_front More l.fields (fields_at End More (term_at l.version l.depth l.types l.terms) (l.turns - l.counter) (last_of l.fields) l.left.rest.now) ≡ fields_at End More (term_at l.version l.depth l.types l.terms) l.turns None l.initial.left.rest.now
