use Rattle.sig_tests.proofs.ExampleSides.{left_t, right_t}
use Rattle.sig_tests.proofs.matching.against_itself.Goals as goal

pub sub_abs-requires-clause-left : goal.sub_abs-requires-clause-left
sub_abs-requires-clause-left c = left_t c.new-env.result c.in_ok-left.left c.new-env.ensures c.in_ok-left.ensures

pub sub_abs-requires-clause-right : goal.sub_abs-requires-clause-right
sub_abs-requires-clause-right c = right_t c.new-env.result c.in_ok-right.right c.new-env.ensures c.in_ok-right.ensures
