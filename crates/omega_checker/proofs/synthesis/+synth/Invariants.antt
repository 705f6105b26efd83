use Rattle.std.proofs.Common.{◌≤◌, ◌+◌, ◌*◌, drop}
use Rattle.omega_terms.specs.Inner.Size.{term_size, pairs_size}
use Rattle.omega_node_laws.proofs.BranchSteps.{FieldsSoFar, BranchesSoFar}
use Rattle.omega_checker.proofs.synthesis.+synth.Given as goal

abbrev pub decreases-synth : goal.decreases-synth
decreases-synth l = 6 * term_size l.term.now

abbrev pub decreases-synth_call : goal.decreases-synth_call
decreases-synth_call l = 6 * (term_size l.function.now + term_size l.arg.now) + 5

abbrev pub decreases-synth_let : goal.decreases-synth_let
decreases-synth_let l = 6 * term_size l.body.now + 5

abbrev pub decreases-synth_applied : goal.decreases-synth_applied
decreases-synth_applied l = 6 * term_size l.function.now + 1

abbrev pub decreases-synth_body : goal.decreases-synth_body
decreases-synth_body l = 6 * term_size l.body.now + 2

abbrev pub decreases-synth_bound : goal.decreases-synth_bound
decreases-synth_bound l = 6 * term_size l.body.now + 1

abbrev pub decreases-synth_function : goal.decreases-synth_function
decreases-synth_function l = 6 * term_size l.body.now + 3

abbrev pub decreases-synth_type_function : goal.decreases-synth_type_function
decreases-synth_type_function l = 6 * term_size l.body.now + 2

abbrev pub decreases-synth_under : goal.decreases-synth_under
decreases-synth_under l = 6 * term_size l.body.now + 1

abbrev pub decreases-synth_instance : goal.decreases-synth_instance
decreases-synth_instance l = 6 * term_size l.body.now + 1

abbrev pub decreases-synth_fields : goal.decreases-synth_fields
decreases-synth_fields l = 6 * pairs_size l.fields.now + 1

abbrev pub invariant-synth_fields-loop-field : goal.invariant-synth_fields-loop-field
invariant-synth_fields-loop-field l =
    record {
      so_far : FieldsSoFar l.initial.scope l.scope l.field-items l.parts.items l.field-index;
      size : pairs_size (drop l.field-index l.field-items) ≤ pairs_size l.field-items;
    }

abbrev pub decreases-synth_field : goal.decreases-synth_field
decreases-synth_field l = 6 * term_size l.whole.now + 1

abbrev pub decreases-synth_package : goal.decreases-synth_package
decreases-synth_package l = 6 * term_size l.body.now + 1

abbrev pub decreases-synth_opened : goal.decreases-synth_opened
decreases-synth_opened l = 6 * (term_size l.whole.now + term_size l.body.now) + 3

abbrev pub decreases-synth_inside : goal.decreases-synth_inside
decreases-synth_inside l = 6 * term_size l.body.now + 2

abbrev pub decreases-synth_choice : goal.decreases-synth_choice
decreases-synth_choice l = 6 * (term_size l.test.now + term_size l.yes.now + term_size l.no.now) + 1

abbrev pub decreases-synth_arith : goal.decreases-synth_arith
decreases-synth_arith l = 6 * (term_size l.left.now + term_size l.right.now) + 1

abbrev pub decreases-synth_fix : goal.decreases-synth_fix
decreases-synth_fix l = 6 * term_size l.body.now + 3

abbrev pub decreases-synth_recursive : goal.decreases-synth_recursive
decreases-synth_recursive l = 6 * term_size l.body.now + 2

abbrev pub decreases-synth_injected : goal.decreases-synth_injected
decreases-synth_injected l = 6 * term_size l.body.now + 1

abbrev pub decreases-synth_rolled : goal.decreases-synth_rolled
decreases-synth_rolled l = 6 * term_size l.body.now + 1

abbrev pub decreases-synth_unrolled : goal.decreases-synth_unrolled
decreases-synth_unrolled l = 6 * term_size l.whole.now + 1

abbrev pub decreases-synth_case : goal.decreases-synth_case
decreases-synth_case l = 6 * (term_size l.whole.now + pairs_size l.branches.now) + 3

abbrev pub decreases-synth_branches : goal.decreases-synth_branches
decreases-synth_branches l = 6 * pairs_size l.branches.now + 2

abbrev pub invariant-synth_branches-loop-i : goal.invariant-synth_branches-loop-i
invariant-synth_branches-loop-i l =
    record {
      so_far : BranchesSoFar l.initial.scope l.scope l.terms l.parts l.target l.i;
      size : pairs_size (drop l.i l.terms) ≤ pairs_size l.terms;
    }
