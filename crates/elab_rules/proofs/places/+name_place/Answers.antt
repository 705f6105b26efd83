use Rattle.std.proofs.Common.{map}
use Rattle.fing_syntax.specs.Inner.Leaves.{place, spelled}
use Rattle.sig_rules.proofs.Following.{lacks}
use Rattle.elab_rules.proofs.LeftPaths.{left-here, left-last, left-next}
use Rattle.elab_rules.proofs.places.+name_place.Goals as goal

pub returns-in_default : goal.returns-in_default
returns-in_default t c = left-here c.args.sig.now (spelled c.args.first.now) (map spelled c.args.rest.now) (lacks c.args.sig.now _ c.in_default.ensures)

pub returns-in-empty : goal.returns-in-empty
returns-in-empty t c = left-last c.args.sig.now c.in-Some.inner.now c.args.first.now c.args.rest.now c.in-empty.len_below c.in-Some.ensures

pub returns-in-len1-up : goal.returns-in-len1-up
returns-in-len1-up t c =
    left-next c.args.sig.now c.in-Some.inner.now c.args.first.now c.next-item.result c.args.rest.now (place c.name_place.result) c.in-len1-up.len_at_least c.next-item.is c.in-Some.ensures c.name_place.ensures
