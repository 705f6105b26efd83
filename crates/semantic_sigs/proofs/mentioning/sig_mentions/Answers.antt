use Rattle.std.proofs.Common.{ap, ◌∙◌}
use Rattle.type_normal.specs.Inner.Least.{is_first}
use Rattle.semantic_sigs.proofs.LeastLaws.{first-mentioned}
use Rattle.semantic_sigs.proofs.mentioning.sig_mentions.Goals as goal

pub returns : goal.returns
returns c = first-mentioned c.is_first.result c.args.index c.args.sig.now (c.is_first.ensures ∙ ap is_first c.least_in_sig.ensures)
