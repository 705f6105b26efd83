use Rattle.std.proofs.Common.{refl}
use Rattle.omega_machine.proofs.Texts.{lines-more, lines-end}
use Rattle.omega_machine.proofs.shown.show_lines.Goals as goal

pub loop-field-init : goal.loop-field-init
loop-field-init c = refl

pub loop-field-preserved : goal.loop-field-preserved
loop-field-preserved c = lines-more c.loop-field.out.items c.show_line.new.out.items _ c.loop-field.field-index c.items-field-items.result.now c.field-item.result c.loop-field.invariant c.loop-field-test.true c.field-item.is c.in_ok-show_line.ensures

pub returns : goal.returns
returns c = lines-end c.loop-field.out.items c.args.out.now.items c.loop-field.field-index c.items-field-items.result.now c.args.fields.now c.loop-field.invariant c.loop-field-test.false c.items-field-items.ensures.value
