use Rattle.fing_top.specs.Inner.Compiled.{IsRefused}
use Rattle.fing_top.specs.Meaning.{one_program}
use Rattle.fing_top.proofs.Answering.{is_compiled, program_refused}
use Rattle.fing_top.proofs.compiling.compile.Goals as goal
use Rattle.elab_rules.proofs.Given.{exit}

pub returns-in_err-found-clause-refused : goal.returns-in_err-found-clause-refused
returns-in_err-found-clause-refused c =
    exit (IsRefused one_program c.args.bytes.now) c.from_residual-in_err-found.result _ c.from_residual-in_err-found.ensures.1
    (program_refused c.args.bytes.now c.in_ok-program.program c.in_err-found.field-0.0 c.in_ok-program.ensures.spelled c.in_err-found.ensures.refused)

pub returns-clause-compiled : goal.returns-clause-compiled
returns-clause-compiled c =
    is_compiled c.args.bytes.now c.in_ok-program.program c.bind_total-bindings.result c.in_ok-found.found c.in_ok-checked.checked
    c.in_ok-program.ensures.spelled c.bind_total-bindings.ensures c.in_ok-found.ensures.means c.in_ok-checked.ensures
