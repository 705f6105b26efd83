use Rattle.elab_rules.proofs.Given.{exit}
use Rattle.fing_top.specs.Inner.Compiled.{IsRefused}
use Rattle.fing_top.specs.Meaning.{one_program}
use Rattle.fing_top.proofs.Answering.{program_refused}
use Rattle.fing_top.proofs.Simplest.{is_simplified, typed_simplified}
use Rattle.fing_top.proofs.compiling.compile_simplified.Goals as goal

pub returns-in_err-meant-clause-refused : goal.returns-in_err-meant-clause-refused
returns-in_err-meant-clause-refused c =
    exit (IsRefused one_program c.args.bytes.now) c.from_residual-in_err-meant.result _ c.from_residual-in_err-meant.ensures.1
    (program_refused c.args.bytes.now c.in_ok-program.program c.in_err-meant.field-0.0 c.in_ok-program.ensures.spelled c.in_err-meant.ensures.refused)

pub confirm-requires : goal.confirm-requires
confirm-requires c = typed_simplified c.in_ok-term.ensures c.in_ok-meant.ensures.typed

pub returns-clause-confirmed : goal.returns-clause-confirmed
returns-clause-confirmed c =
    is_simplified c.args.bytes.now c.in_ok-program.program c.in_ok-meant.meant c.in_ok-term.term _
    c.in_ok-program.ensures.spelled c.in_ok-meant.ensures.means c.in_ok-term.ensures c.in_ok-confirm.ensures
