use Rattle.std.proofs.Common.{refl}
use Rattle.fing_show.proofs.Verdicts.{no-tokens}
use Rattle.fing_show.proofs.showing.show_lexical.Goals as goal

pub returns-clause-verdict : goal.returns-clause-verdict
returns-clause-verdict c = (no-tokens c.args.source.now c.args.why c.in_default.not-Mem c.requires, refl, refl)
