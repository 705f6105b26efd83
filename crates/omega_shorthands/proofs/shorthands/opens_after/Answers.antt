use Rattle.std.proofs.Common.{ap, ◌∙◌}
use Rattle.omega_terms.specs.Term.{Term}
use Rattle.omega_shorthands.specs.Inner.Packed.{opened_times}
use Rattle.omega_shorthands.proofs.PackSteps.{opened-next}
use Rattle.omega_shorthands.proofs.shorthands.opens_after.Goals as goal

pub loop-left-preserved : goal.loop-left-preserved
loop-left-preserved c =
    opened-next c.loop-left.left c.loop-left.term c.in_ok-term.term (opened_times c.args.count c.args.body) c.loop-left-test.true c.loop-left.invariant (c.in_ok-term.ensures ∙ ap (λ u. Term.Unpack u c.loop-left.term) c.in_ok-variable.ensures)
