use Rattle.std.proofs.Common.{◌∷◌, ◌-◌, [], take, sym, ap, ◌∙◌}
use Rattle.std.proofs.lemmas.Result.{IfOk-weaker}
use Rattle.sig_definitions.specs.Env.{first_kind}
use Rattle.semantic_sigs.specs.Inner.Entries.{entry_of}
use Rattle.semantic_sigs.specs.Inner.Slots.{with_slots}
use Rattle.semantic_sigs.proofs.FoundSteps.{before-place, first-other}
use Rattle.semantic_sigs.proofs.env.kind_before.Goals as goal

pub returns-in-TypeVar : goal.returns-in-TypeVar
returns-in-TypeVar c =
    IfOk-weaker c.share.result _ _ (λ k h. h ∙ sym (ap first_kind (before-place c.args.slots.now c.args.at c.index-slots-at.result c.if-at-eq0.false c.requires ∙ ap (λ e. entry_of e ∷ with_slots [] (take (c.args.at - 1) c.args.slots.now)) c.in-TypeVar.is))) c.share.ensures

pub returns-in_default : goal.returns-in_default
returns-in_default c =
    first-other _ (with_slots [] (take (c.args.at - 1) c.args.slots.now)) c.in_default.not-TypeVar ∙ sym (ap first_kind (before-place c.args.slots.now c.args.at c.index-slots-at.result c.if-at-eq0.false c.requires))
