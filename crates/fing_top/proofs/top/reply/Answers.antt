use Rattle.fing_top.proofs.top.reply.Goals as goal

pub returns-in-Gen : goal.returns-in-Gen
returns-in-Gen g c = rw c.in-Gen.is (c.count.ensures c.in-Gen.size)
