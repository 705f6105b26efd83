use Rattle.std.proofs.Common.{ap, ◌∙◌}
use Rattle.omega_machine.proofs.Texts.{program-lines, program-none}
use Rattle.omega_machine.proofs.shown.show_program.Goals as goal
use Rattle.omega_machine.proofs.shown.show_program.Goals.{in-Fields+in_ok-show_lines, in_default}

pub returns : goal.returns
returns c =
    elim c.match-node.branch [ in-Fields+in_ok-show_lines w ↦ program-lines c.node.result.now _ c.unpacked.result.now c.args.value.now c.new-bytes.result.items c.match-node.bytes.items w.in-Fields.is c.node.ensures c.unpacked.ensures c.new-bytes.ensures.items (ap (λ v. v.items) w.bytes-is ∙ w.in_ok-show_lines.ensures) | in_default w ↦ program-none c.node.result.now c.unpacked.result.now c.args.value.now c.match-node.bytes.items c.node.ensures c.unpacked.ensures w.in_default.not-Fields (ap (λ v. v.items) w.bytes-is ∙ c.new-bytes.ensures.items) ]
