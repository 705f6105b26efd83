use Rattle.std.proofs.Common.{◌≡◌, ◌≤◌, ◌+◌, ◌*◌, take, drop}
use Rattle.omega_terms.specs.Inner.Size.{term_size, pairs_size}
use Rattle.omega_terms.proofs.OneIndex.{map_terms}
use Rattle.omega_terms.specs.Inner.Walk.{walked}
use Rattle.omega_terms.proofs.walking.+walk.Given as goal

abbrev pub decreases-walk : goal.decreases-walk
decreases-walk g l = 4 * term_size l.term.now

abbrev pub decreases-walk_function : goal.decreases-walk_function
decreases-walk_function g l = 4 * term_size l.e.now + 3

abbrev pub decreases-walk_call : goal.decreases-walk_call
decreases-walk_call g l = 4 * (term_size l.f.now + term_size l.a.now) + 3

abbrev pub decreases-walk_type_function : goal.decreases-walk_type_function
decreases-walk_type_function g l = 4 * term_size l.e.now + 3

abbrev pub decreases-walk_inst : goal.decreases-walk_inst
decreases-walk_inst g l = 4 * term_size l.e.now + 3

abbrev pub decreases-walk_record : goal.decreases-walk_record
decreases-walk_record g l = 4 * pairs_size l.fields.now + 3

abbrev pub decreases-walk_get : goal.decreases-walk_get
decreases-walk_get g l = 4 * term_size l.e.now + 3

abbrev pub decreases-walk_package : goal.decreases-walk_package
decreases-walk_package g l = 4 * term_size l.e.now + 3

abbrev pub decreases-walk_opened : goal.decreases-walk_opened
decreases-walk_opened g l = 4 * (term_size l.p.now + term_size l.e.now) + 3

abbrev pub decreases-walk_choice : goal.decreases-walk_choice
decreases-walk_choice g l = 4 * (term_size l.a.now + term_size l.b.now + term_size l.c.now) + 3

abbrev pub decreases-walk_arith : goal.decreases-walk_arith
decreases-walk_arith g l = 4 * (term_size l.a.now + term_size l.b.now) + 3

abbrev pub decreases-walk_fix : goal.decreases-walk_fix
decreases-walk_fix g l = 4 * term_size l.e.now + 3

abbrev pub decreases-walk_injected : goal.decreases-walk_injected
decreases-walk_injected g l = 4 * term_size l.e.now + 3

abbrev pub decreases-walk_case : goal.decreases-walk_case
decreases-walk_case g l = 4 * (term_size l.e.now + pairs_size l.branches.now) + 3

abbrev pub decreases-walk_rolled : goal.decreases-walk_rolled
decreases-walk_rolled g l = 4 * term_size l.e.now + 3

abbrev pub decreases-walk_unrolled : goal.decreases-walk_unrolled
decreases-walk_unrolled g l = 4 * term_size l.e.now + 3

abbrev pub decreases-walk_row : goal.decreases-walk_row
decreases-walk_row g l = 4 * pairs_size l.fields.now + 2

abbrev pub invariant-walk_row-loop-field : goal.invariant-walk_row-loop-field
invariant-walk_row-loop-field g l =
    (l.walked ≡ map_terms (walked (g.C.Change.type_at l.change) (g.C.Change.variable_at l.change) l.inner.types l.inner.terms) (take l.field-index l.field-items)) × (pairs_size (drop l.field-index l.field-items) ≤ pairs_size l.field-items)
