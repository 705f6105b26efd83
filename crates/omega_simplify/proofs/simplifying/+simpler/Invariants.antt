use Rattle.std.proofs.Common.{◌≡◌, ◌≤◌, ◌+◌, ◌*◌, take, drop, true}
use Rattle.omega_terms.specs.Inner.Size.{term_size, pairs_size}
use Rattle.omega_terms.proofs.OneIndex.{map_terms}
use Rattle.omega_simplify_laws.specs.Simplified.{simplified}
use Rattle.omega_simplify.proofs.RowSteps.{same_terms}
use Rattle.omega_simplify.proofs.simplifying.+simpler.Given as goal

abbrev pub decreases-simpler : goal.decreases-simpler
decreases-simpler l = 4 * term_size l.term.now

abbrev pub decreases-simpler_function : goal.decreases-simpler_function
decreases-simpler_function l = 4 * term_size l.e.now + 3

abbrev pub decreases-simpler_call : goal.decreases-simpler_call
decreases-simpler_call l = 4 * (term_size l.f.now + term_size l.a.now) + 3

abbrev pub decreases-simpler_type_function : goal.decreases-simpler_type_function
decreases-simpler_type_function l = 4 * term_size l.e.now + 3

abbrev pub decreases-simpler_inst : goal.decreases-simpler_inst
decreases-simpler_inst l = 4 * term_size l.e.now + 3

abbrev pub decreases-simpler_record : goal.decreases-simpler_record
decreases-simpler_record l = 4 * pairs_size l.fields.now + 3

abbrev pub decreases-simpler_get : goal.decreases-simpler_get
decreases-simpler_get l = 4 * term_size l.e.now + 3

abbrev pub decreases-simpler_package : goal.decreases-simpler_package
decreases-simpler_package l = 4 * term_size l.e.now + 3

abbrev pub decreases-simpler_opened : goal.decreases-simpler_opened
decreases-simpler_opened l = 4 * (term_size l.p.now + term_size l.e.now) + 3

abbrev pub decreases-simpler_choice : goal.decreases-simpler_choice
decreases-simpler_choice l = 4 * (term_size l.a.now + term_size l.b.now + term_size l.c.now) + 3

abbrev pub decreases-simpler_arith : goal.decreases-simpler_arith
decreases-simpler_arith l = 4 * (term_size l.a.now + term_size l.b.now) + 3

abbrev pub decreases-simpler_fix : goal.decreases-simpler_fix
decreases-simpler_fix l = 4 * term_size l.e.now + 3

abbrev pub decreases-simpler_injected : goal.decreases-simpler_injected
decreases-simpler_injected l = 4 * term_size l.e.now + 3

abbrev pub decreases-simpler_case : goal.decreases-simpler_case
decreases-simpler_case l = 4 * (term_size l.e.now + pairs_size l.branches.now) + 3

abbrev pub decreases-simpler_rolled : goal.decreases-simpler_rolled
decreases-simpler_rolled l = 4 * term_size l.e.now + 3

abbrev pub decreases-simpler_unrolled : goal.decreases-simpler_unrolled
decreases-simpler_unrolled l = 4 * term_size l.e.now + 3

abbrev pub decreases-simpler_row : goal.decreases-simpler_row
decreases-simpler_row l = 4 * pairs_size l.fields.now + 2

abbrev pub invariant-simpler_row-loop-field : goal.invariant-simpler_row-loop-field
invariant-simpler_row-loop-field l =
    (l.row ≡ map_terms simplified (take l.field-index l.field-items))
    × (l.stays ≡ true → l.row ≡ same_terms (take l.field-index l.field-items))
    × (pairs_size (drop l.field-index l.field-items) ≤ pairs_size l.field-items)
