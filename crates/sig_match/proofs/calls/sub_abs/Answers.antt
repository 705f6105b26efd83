use Rattle.std.proofs.Common.{sym}
use Rattle.sig_definitions.specs.Env.{kinds}
use Rattle.sig_match.proofs.Exact.{only-sub_abs}
use Rattle.sig_match.proofs.calls.sub_abs.Goals as goal

pub sub_abs_in-requires : goal.sub_abs_in-requires
sub_abs_in-requires c = (kinds c.args.env.now, sym c.depth-depth.ensures, c.requires.left, c.requires.right)

pub returns-clause-gives : goal.returns-clause-gives
returns-clause-gives c = c.sub_abs_in.ensures (kinds c.args.env.now) (sym c.depth-depth.ensures) c.requires.left c.requires.right

pub returns-clause-only : goal.returns-clause-only
returns-clause-only c = only-sub_abs (kinds c.args.env.now) c.args.left.now c.args.right.now c.sub_abs_in.result c.requires.left c.requires.right (c.sub_abs_in.ensures (kinds c.args.env.now) (sym c.depth-depth.ensures) c.requires.left c.requires.right)
