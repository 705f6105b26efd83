use Rattle.std.proofs.Common.{false}
use Rattle.fing_words.specs.declared.command_line.CommandLine.TheVariants as command
use Rattle.fing_top.proofs.Answering.{emission}
use Rattle.fing_top.proofs.emitting.emit.Goals as goal

pub returns : goal.returns
returns g c =
    c.put_emission.ensures (command.Emit false) c.args.bytes.now
    (emission false c.args.bytes.now c.whole.result c.whole.ensures.confirmed c.whole.ensures.refused)
