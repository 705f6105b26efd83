use Rattle.std.proofs.Common.{◌∷◌, sym, ap, ◌∙◌}
use Rattle.std.specs.Ordering.{is_lt}
use Rattle.module_rules.proofs.Rising.{rise-next, rise-not, rise-done}
use Rattle.module_rules.proofs.bindings.rise_from.Goals as goal

pub returns-then-not-is_lt : goal.returns-then-not-is_lt
returns-then-not-is_lt c =
    rise-not (c.args.first.now ∷ c.args.rest.now) c.loop-name.last.now c.name-item.result c.args.rest.now c.loop-name.name-index c.loop-name-test.true c.name-item.is
    (ap is_lt (sym c.cmp.ensures) ∙ (sym c.is_lt.ensures ∙ c.if-not-is_lt.true)) c.loop-name.invariant

pub loop-name-preserved : goal.loop-name-preserved
loop-name-preserved c =
    rise-next (c.args.first.now ∷ c.args.rest.now) c.loop-name.last.now c.name-item.result c.args.rest.now c.loop-name.name-index c.loop-name-test.true c.name-item.is
    (ap is_lt (sym c.cmp.ensures) ∙ (sym c.is_lt.ensures ∙ c.if-not-is_lt.false)) c.loop-name.invariant

pub returns : goal.returns
returns c = rise-done (c.args.first.now ∷ c.args.rest.now) c.loop-name.last.now c.args.rest.now c.loop-name.name-index c.loop-name-test.false c.loop-name.invariant
