use Rattle.sig_tests.proofs.ExampleSides.{left_int, right_t}
use Rattle.sig_tests.proofs.matching.found.Goals as goal

pub match_sig-requires-clause-left : goal.match_sig-requires-clause-left
match_sig-requires-clause-left c = left_int c.new-env.result c.in_ok-left.left c.new-env.ensures c.in_ok-left.ensures

pub match_sig-requires-clause-right : goal.match_sig-requires-clause-right
match_sig-requires-clause-right c = right_t c.new-env.result c.in_ok-right.right c.new-env.ensures c.in_ok-right.ensures
