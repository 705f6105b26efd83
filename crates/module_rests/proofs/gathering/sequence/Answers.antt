use Rattle.module_rests.proofs.Steps.{whole-put}
use Rattle.module_rests.proofs.gathering.sequence.Goals as goal

pub returns : goal.returns
returns c = whole-put c.args.steps.now c.args.last.now c.new-types.result c.put_all.new.types c.new-kinds.result c.hide_all.new.kinds c.body.result.now c.in_ok-body.body c.in_ok-sig.sig c.in_ok-term.term c.new-types.ensures c.in_ok-term.ensures c.new-kinds.ensures c.in_ok-hide_all.ensures c.body.ensures c.in_ok-body.ensures c.in_ok-sig.ensures
