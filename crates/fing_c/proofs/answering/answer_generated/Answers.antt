use Rattle.std.proofs.Common.{◌≤◌, List, ℕ, length, take, sym, subst, ◌∙◌}
use Rattle.fing_gen.proofs.Length.{short_source}
use Rattle.fing_top.specs.Answer.{limit}
use Rattle.fing_words.specs.declared.command_line.CommandLine.TheVariants as command
use Rattle.fing_c.specs.Inner.Returns.{Replied}
use Rattle.fing_c.proofs.answering.answer_generated.Goals as goal

pub answer_bytes-requires : goal.answer_bytes-requires
answer_bytes-requires c = subst (λ (l : List ℕ). length l ≤ limit) (sym (c.deref.ensures.value ∙ c.in-Ok.ensures)) (short_source c.args.size c.requires)

pub returns-in-Ok-clause-replied : goal.returns-in-Ok-clause-replied
returns-in-Ok-clause-replied c =
    subst (λ (l : List ℕ). Replied (command.Gen c.args.size) l (length c.args.page.now) (take c.answer_bytes.result.written c.answer_bytes.new.page) c.answer_bytes.result.status) (c.deref.ensures.value ∙ c.in-Ok.ensures) c.answer_bytes.ensures.replied
