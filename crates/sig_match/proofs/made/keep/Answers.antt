use Rattle.std.proofs.Common.{refl, sym, subst}
use Rattle.sig_match.specs.Inner.Made.{AllHold}
use Rattle.sig_match.proofs.MadeSteps.{holds-for, hold-more}
use Rattle.sig_match.proofs.made.keep.Goals as goal

pub returns : goal.returns
returns c = subst AllHold (sym c.in_ok-push.ensures.items) (hold-more c.args.made.now.items _ c.requires.holds (holds-for c.args.key c.args.matched _ refl c.requires.one))
