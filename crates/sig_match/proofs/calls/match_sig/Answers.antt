use Rattle.std.proofs.Common.{sym}
use Rattle.sig_definitions.specs.Env.{kinds}
use Rattle.sig_match.proofs.Exact.{only-match}
use Rattle.sig_match.proofs.calls.match_sig.Goals as goal

pub match_in-requires : goal.match_in-requires
match_in-requires c = (kinds c.args.env.now, sym c.depth-depth.ensures, c.requires.left, c.requires.right)

pub returns-clause-gives : goal.returns-clause-gives
returns-clause-gives c = c.match_in.ensures (kinds c.args.env.now) (sym c.depth-depth.ensures) c.requires.left c.requires.right

pub returns-clause-only : goal.returns-clause-only
returns-clause-only c = only-match (kinds c.args.env.now) c.args.left.now c.args.right.now c.match_in.result c.requires.left c.requires.right (c.match_in.ensures (kinds c.args.env.now) (sym c.depth-depth.ensures) c.requires.left c.requires.right)
