use Rattle.std.proofs.Common.{refl}
use Rattle.fing_words.specs.declared.command_line.CommandLine.TheVariants as command
use Rattle.fing_top.specs.Counts.{most_steps, node_count}
use Rattle.fing_top.specs.Inner.Ending.{ending_status, counted_text}
use Rattle.fing_top.specs.Reply.{ProgramReplies}
use Rattle.fing_top.specs.declared.status.Status.TheVariants as status
use Rattle.fing_top.proofs.Answering.{of_ending, counts_told, wrote_reply}
use Rattle.fing_top.proofs.counting.count.Goals as goal

pub returns-in-Ok : goal.returns-in-Ok
returns-in-Ok g c = λ size.
    let found = c.in-Ok.found in
    let end = c.in-Ok.end in
    wrote_reply (command.Gen size) c.args.bytes.now (ending_status end) (counted_text most_steps found.bindings (node_count found.checked.term) end) _ _ _ c.write_counts-wrote.result c.status_of.result (of_ending end)
    (counts_told c.args.bytes.now most_steps found end c.in-Ok.ensures.compiled c.in-Ok.ensures.told) refl c.write_counts-wrote.ensures (rw c.status_at.ensures at c.status_of.ensures)

pub returns-in-Err : goal.returns-in-Err
returns-in-Err g c = λ size.
    wrote_reply (command.Gen size) c.args.bytes.now status.Refused _ _ _ _ c.write_line.result c.status_of-in-Err.result tt
    (ProgramReplies.refuses (c.in-Err.ensures.refused (c.if-has_short_line.ensures refl))) refl c.write_line.ensures c.status_of-in-Err.ensures
