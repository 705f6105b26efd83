use Rattle.module_rests.proofs.Steps.{own-put}
use Rattle.module_rests.proofs.gathering.put_own.Goals as goal

pub returns : goal.returns
returns c = own-put c.args.one.now.sig c.args.one.now.types c.args.one.now.term c.args.types.now c.items.result.now c.in_ok-own.own c.append.new.types c.in_ok-term.term c.items.ensures c.in_ok-term.ensures c.in_ok-own.ensures c.in_ok-append.ensures
