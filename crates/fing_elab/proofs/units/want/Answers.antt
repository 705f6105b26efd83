use Rattle.fing_elab.proofs.Separate.{memory-only}
use Rattle.fing_elab.proofs.units.want.Goals as goal

pub unreachable-requires : goal.unreachable-requires
unreachable-requires c = memory-only c.args.refusal c.in_default.not-Mem c.requires
