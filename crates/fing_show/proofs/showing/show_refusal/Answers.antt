use Rattle.std.proofs.Common.{refl}
use Rattle.fing_show.proofs.Verdicts.{reported}
use Rattle.fing_show.proofs.showing.show_refusal.Goals as goal

pub returns-clause-verdict : goal.returns-clause-verdict
returns-clause-verdict c = (reported c.args.refusal.now c.in_default.not-Mem, refl)
