use Rattle.std.proofs.Common.{arith}
use Rattle.std.proofs.lemmas.Grind.{common_steps}
use Rattle.omega_types.specs.Normaliser.{normal}
use Rattle.omega_types.specs.Inner.Scope.{scope_of}
use Rattle.type_normal.proofs.NormalSteps.{may_follow-there, row-normal}
use Rattle.type_normal.proofs.normalising.+normalise.Goals as goal

pub normalise_fields-push-requires : goal.normalise_fields-push-requires
normalise_fields-push-requires t c =
    may_follow-there (normal (scope_of c.args.scope.now.items)) c.loop-field.found c.items-field-items.result.now c.loop-field.field-index c.field-item.result c.in_ok-share.field-0 c.loop-field.invariant.1 c.in_ok-share.ensures c.field-item.is c.loop-field-test.true c.items-field-items.ensures.rising

pub normalise_fields-returns-clause-value : goal.normalise_fields-returns-clause-value
normalise_fields-returns-clause-value t c = grind (arith, common_steps, row-normal)
