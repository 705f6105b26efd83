use Rattle.parse_grammar.specs.Program.{units}
use Rattle.fing_parser.proofs.Played.{told_is, told_some}
use Rattle.fing_parser.proofs.parser.units.Goals as goal

pub unreachable-requires : goal.unreachable-requires
unreachable-requires c = told_some c.in_ok-steps.ensures.steps (c.in-Err-Misfit.ensures.misfit c.in-Err-Misfit.field-0-is)

pub returns-in-Ok-clause-units : goal.returns-in-Ok-clause-units
returns-in-Ok-clause-units c = told_is c.in_ok-steps.ensures.steps c.in-Ok.ensures.built

pub recognise-requires-clause-start : goal.recognise-requires-clause-start
recognise-requires-clause-start c = units
