use Rattle.fing_top.proofs.EachReply.{each_replied}
use Rattle.fing_top.proofs.Replies.{one_reply}
use Rattle.fing_top.proofs.top.one_reply.Goals as goal

pub returns-clause-one : goal.returns-clause-one
returns-clause-one c = one_reply

pub returns-clause-each : goal.returns-clause-each
returns-clause-each c = each_replied
