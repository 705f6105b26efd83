use Rattle.std.proofs.Common.{ap, ◌∙◌}
use Rattle.sig_match.specs.Inner.Put.{filled}
use Rattle.sig_match.proofs.PutSteps.{filled-more, filled-whole}
use Rattle.sig_match.proofs.putting.filled.Goals as goal

pub loop-i-preserved : goal.loop-i-preserved
loop-i-preserved c = filled-more c.items-kinds.result.now c.args.found.now c.loop-i.i c.index-kinds-i.result c.in_ok-type_at.field-0 c.loop-i.types c.push.new.self c.loop-i-test.true c.index-kinds-i.is c.in_ok-type_at.ensures c.in_ok-push.ensures.ok c.loop-i.invariant

pub returns : goal.returns
returns c = c.loop-i.invariant ∙ (filled-whole c.items-kinds.result.now c.args.found.now c.loop-i.i c.loop-i-test.false ∙ ap (λ ks. filled ks c.args.found.now) c.items-kinds.ensures)
