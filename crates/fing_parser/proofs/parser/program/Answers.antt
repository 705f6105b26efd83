use Rattle.parse_grammar.specs.Program.{programs}
use Rattle.fing_parser.proofs.Played.{told_is, told_some}
use Rattle.fing_parser.proofs.parser.program.Goals as goal

pub unreachable-requires : goal.unreachable-requires
unreachable-requires c = told_some c.in_ok-steps.ensures.steps (c.in-Err-Misfit.ensures.misfit c.in-Err-Misfit.field-0-is)

pub returns-in-Ok-clause-program : goal.returns-in-Ok-clause-program
returns-in-Ok-clause-program c = told_is c.in_ok-steps.ensures.steps c.in-Ok.ensures.built

pub recognise-requires-clause-start : goal.recognise-requires-clause-start
recognise-requires-clause-start c = programs
