use Rattle.std.proofs.Common.{refl}
use Rattle.fing_top.specs.Inner.Ending.{ending_status, ending_text}
use Rattle.fing_top.specs.Reply.{ProgramReplies}
use Rattle.fing_words.specs.declared.command_line.CommandLine.TheVariants as command
use Rattle.fing_top.specs.declared.status.Status.TheVariants as status
use Rattle.fing_top.proofs.Answering.{of_ending, outcome_told, wrote_reply}
use Rattle.fing_top.proofs.running.run.Goals as goal

pub returns-in-Ok : goal.returns-in-Ok
returns-in-Ok g c =
    let found = c.in-Ok.found in
    let end = c.in-Ok.end in
    let budget = c.args.budget in
    wrote_reply (command.Run budget) c.args.bytes.now (ending_status end) (ending_text budget end) _ _ _ c.write_end-wrote.result c.status_of.result (of_ending end)
    (outcome_told c.args.bytes.now budget found end c.in-Ok.ensures.compiled c.in-Ok.ensures.told) refl c.write_end-wrote.ensures (rw c.status_at.ensures at c.status_of.ensures)

pub returns-in-Err : goal.returns-in-Err
returns-in-Err g c =
    wrote_reply (command.Run c.args.budget) c.args.bytes.now status.Refused _ _ _ _ c.write_line.result c.status_of-in-Err.result tt
    (ProgramReplies.refuses (c.in-Err.ensures.refused (c.if-has_short_line.ensures refl))) refl c.write_line.ensures c.status_of-in-Err.ensures
