use Rattle.fing_top.proofs.Separate.{fits, no_foreign}
use Rattle.fing_top.proofs.apart.link_of.Goals as goal

pub link-requires-clause-good : goal.link-requires-clause-good
link-requires-clause-good c = fits c.requires.apart.1

pub unreachable-requires : goal.unreachable-requires
unreachable-requires c = no_foreign c.requires.apart.1 _ (rw c.in-Err-Foreign.field-0-is at c.in-Err-Foreign.ensures.foreign)
