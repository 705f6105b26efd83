use Rattle.std.proofs.Common.{refl, map}
use Rattle.elab_rules.proofs.Newness.{new-reverse, new-unreverse, not-true}
use Rattle.elab_rules.proofs.Placing.{by-test}
use Rattle.elab_rules.proofs.naming.expect_new.Goals as goal

pub returns-then-is_new-clause-given : goal.returns-then-is_new-clause-given
returns-then-is_new-clause-given g c = new-reverse c.args.name.now.name (map (λ x. x.0) c.args.done.now) (c.if-is_new.ensures.0 refl)

pub returns-clause-refused : goal.returns-clause-refused
returns-clause-refused g c = by-test _ _ _ _ _ (λ n. not-true c.if-is_new.ensures.1 (new-unreverse c.args.name.now.name (map (λ x. x.0) c.args.done.now) n)) (rw c.in_ok-share.ensures at c.refuse.ensures)
