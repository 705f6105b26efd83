use Rattle.std.proofs.Common.{◌∙◌, map, length, take, refl, ap, subst}
use Rattle.std.specs.String.{string_bytes}
use Rattle.std.specs.Str.Lines.{lines}
use Rattle.fing_top.specs.declared.status.Status.TheVariants as status
use Rattle.fing_c.specs.Inner.Returns.{Returns, ReturnsNumber}
use Rattle.fing_c.proofs.answering.answer_lines.Goals as goal

pub returns-in_default-clause-returns : goal.returns-in_default-clause-returns
returns-in_default-clause-returns c = ReturnsNumber.not_utf8 c.in_default.ensures.cases.0 refl

pub returns-in_default-words_of-clause-returns : goal.returns-in_default-words_of-clause-returns
returns-in_default-words_of-clause-returns c = ReturnsNumber.answered status.NoMemory c.in-Ok.ensures.cases.1 refl

pub returns-clause-returns : goal.returns-clause-returns
returns-clause-returns c =
    ReturnsNumber.answered c.answer_words.result.status c.in-Ok.ensures.cases.1
    (subst (λ words. Returns words c.args.source.now (length c.args.page.now) (take c.answer_words.result.written c.answer_words.new.page) c.answer_words.result.status)
    (ap (map string_bytes) c.deref.ensures.value ∙ c.in-Ok-words_of.ensures ∙ ap lines c.in-Ok.ensures.cases.0) c.answer_words.ensures.returns)
