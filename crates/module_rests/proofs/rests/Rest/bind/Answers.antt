use Rattle.module_rests.proofs.Rows.{bind-closed, bind-more}
use Rattle.module_rests.proofs.rests.Rest.bind.Goals as goal

pub returns-then-both_pure : goal.returns-then-both_pure
returns-then-both_pure c =
    let pure = c.both_pure.ensures c.if-both_pure.true in
    bind-more c.args.self.steps.items c.push.new.self.items c.args.first c.args.self.last c.in_ok-push.ensures.items pure.0 pure.1

pub returns : goal.returns
returns c = bind-closed c.args.first c.in_ok-whole.whole c.in_ok-made.made c.args.self c.of.result c.in_ok-whole.ensures c.in_ok-made.ensures c.of.ensures
