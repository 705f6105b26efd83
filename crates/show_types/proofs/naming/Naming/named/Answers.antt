use Rattle.std.proofs.Common.{arith}
use Rattle.show_types.proofs.NamingLaws.{added-length, one-more}
use Rattle.show_types.proofs.naming.Naming.named.Goals as goal

pub loop-name-preserved : goal.loop-name-preserved
loop-name-preserved c = omega (arith, added-length c.in_ok-add.ensures.ok, c.loop-name.invariant, one-more c.loop-name.yielded c.in-Some.name)

pub loop-preserved : goal.loop-preserved
loop-preserved c = omega (arith, added-length c.in_ok-add-2.ensures.ok, c.loop.invariant)
