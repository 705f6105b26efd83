use Rattle.elab_exact.proofs.elaboration_is_exact.Goals as goal
use Rattle.elab_exact.proofs.GoodRefusals.{refusals_are_good}
use Rattle.elab_exact.proofs.Theorems.{steps-say-the-rules, each-answered, outcomes-equal, exclusive, refusals-equal, total, each-program, answers-exact}

pub returns-clause-rules : goal.returns-clause-rules
returns-clause-rules c = steps-say-the-rules

pub returns-clause-answered : goal.returns-clause-answered
returns-clause-answered c = each-answered

pub returns-clause-outcomes : goal.returns-clause-outcomes
returns-clause-outcomes c = outcomes-equal

pub returns-clause-exclusive : goal.returns-clause-exclusive
returns-clause-exclusive c = exclusive

pub returns-clause-refusals : goal.returns-clause-refusals
returns-clause-refusals c = refusals-equal

pub returns-clause-total : goal.returns-clause-total
returns-clause-total c = total

pub returns-clause-programs : goal.returns-clause-programs
returns-clause-programs c = each-program

pub returns-clause-answers : goal.returns-clause-answers
returns-clause-answers c = answers-exact

pub returns-clause-good : goal.returns-clause-good
returns-clause-good c = refusals_are_good
