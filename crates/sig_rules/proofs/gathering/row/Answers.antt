use Rattle.std.proofs.lemmas.Map.Iter.{rest_more}
use Rattle.std.specs.Map.Iter.{deref_pair}
use Rattle.sig_rules.proofs.Gathered.{entry-follows}
use Rattle.sig_rules.proofs.gathering.row.Goals as goal

pub push-requires : goal.push-requires
push-requires c =
    let step = rest_more deref_pair c.loop-name.name-iterator c.next.new.self c.next.result (c.in-Some.name, c.in-Some.part) c.in-Some.is c.next.ensures.steps in
    entry-follows c.loop-name.fields c.args.parts.now.entries c.loop-name.name-iterator c.next.new.self (c.in-Some.name.now, c.in-Some.part.now) c.in_ok-share.field-0 c.into_iter-name-iterator.ensures.into_iter_gives.5 c.loop-name.invariant step c.in_ok-share.ensures
