use Rattle.omega_machine.proofs.Moved.{part-some, part-none, part-of-none}
use Rattle.omega_machine.proofs.refocus.part_at.Goals as goal
use Rattle.omega_machine.proofs.refocus.part_at.Goals.{in-Fields+in_default-get, in_default}

pub returns-in-Some : goal.returns-in-Some
returns-in-Some c =
    part-some c.node.result.now _ c.args.whole.now c.args.place c.in-Some.field.now _ c.in-Fields.is c.node.ensures c.in-Some.ensures c.in_ok-share.ensures

pub returns : goal.returns
returns c =
    elim c.match-node.branch [ in-Fields+in_default-get w ↦ part-none c.node.result.now _ c.args.whole.now c.args.place w.in-Fields.is c.node.ensures w.in_default-get.ensures | in_default w ↦ part-of-none c.node.result.now c.args.whole.now c.args.place c.node.ensures w.in_default.not-Fields ]
