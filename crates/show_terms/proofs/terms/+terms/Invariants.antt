use Rattle.std.proofs.Common.{◌≤◌, drop}
use Rattle.omega_terms.specs.Inner.Size.{pairs_size}
use Rattle.show_terms.proofs.terms.+terms.Given as goal

abbrev pub invariant-put_fields-loop-field : goal.invariant-put_fields-loop-field
invariant-put_fields-loop-field l = pairs_size (drop l.field-index l.field-items) ≤ pairs_size l.field-items

abbrev pub invariant-put_branches-loop-branch : goal.invariant-put_branches-loop-branch
invariant-put_branches-loop-branch l = pairs_size (drop l.branch-index l.branch-items) ≤ pairs_size l.branch-items
