use Rattle.std.specs.Prelude.{map}
use Rattle.std.proofs.lemmas.Result.{IfOk-weaker}
use Rattle.semantic_sigs.specs.Inner.Made.{module_of}
use Rattle.module_rests.specs.Inner.Gathering.{PutsAll}
use Rattle.module_rests.proofs.Steps.{step-given}
use Rattle.module_rests.proofs.gathering.+put_all.Goals as goal

pub returns : goal.returns
returns t c =
    IfOk-weaker c.let_in.result _ (λ e. PutsAll (map module_of c.args.steps.now) (module_of c.args.last.now) c.args.types.now c.put_all.new.types e)
    (λ e h. step-given c.args.steps.now c.in-Some.rest.now c.in-Some.first.now c.args.last.now c.args.types.now c.items.result.now c.put_own-2.new.types c.put_all.new.types c.in_ok-at.at c.in_ok-from.from c.in_ok-term.term c.in_ok-inner.inner e c.in-Some.ensures.cases.0 c.in_ok-term.ensures c.items.ensures c.in_ok-at.ensures.value c.in_ok-from.ensures c.in_ok-inner.ensures h)
    c.let_in.ensures
