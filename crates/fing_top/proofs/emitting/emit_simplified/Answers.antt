use Rattle.std.proofs.Common.{true}
use Rattle.fing_words.specs.declared.command_line.CommandLine.TheVariants as command
use Rattle.fing_top.proofs.Answering.{emission}
use Rattle.fing_top.proofs.emitting.emit_simplified.Goals as goal

pub returns : goal.returns
returns g c =
    c.put_emission.ensures (command.Emit true) c.args.bytes.now
    (emission true c.args.bytes.now c.compile_simplified.result c.compile_simplified.ensures.confirmed c.compile_simplified.ensures.refused)
