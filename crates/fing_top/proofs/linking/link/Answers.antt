use Rattle.fing_words.specs.declared.command_line.CommandLine.TheVariants as command
use Rattle.fing_top.proofs.Answering.{link_emission}
use Rattle.fing_top.proofs.linking.link.Goals as goal

pub returns : goal.returns
returns g c =
    c.put_emission.ensures command.Link c.args.bytes.now
    (link_emission c.args.bytes.now c.linked.result c.linked.ensures.confirmed c.linked.ensures.refused)
