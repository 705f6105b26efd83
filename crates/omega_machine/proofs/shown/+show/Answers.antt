use Rattle.std.proofs.lemmas.Result.{on_ok_weaker}
use Rattle.omega_terms.specs.KindText.{label_text}
use Rattle.omega_terms.proofs.OneIndex.{left-smaller}
use Rattle.omega_terms.specs.ValueText.{shown}
use Rattle.omega_machine.proofs.Texts.{injected-text, rolled-text, field-text, fields-first, fields-more, fields-end, single-val, single-other, record-many}
use Rattle.omega_machine.proofs.shown.+show.Goals as goal

pub show_field-returns : goal.show_field-returns
show_field-returns t c =
    on_ok_weaker c.show.result (λ e. field-text c.args.out.now.items c.add.new.out.items c.add-2.new.out.items c.show.new.out.items c.label_bytes.result.now (label_text c.args.label.now) (shown c.args.value.now) c.in_ok-add.ensures c.label_bytes.ensures c.in_ok-add-2.ensures e) c.show.ensures

pub show_fields-loop-place-init : goal.show_fields-loop-place-init
show_fields-loop-place-init t c =
    record { text = fields-first c.args.out.now.items c.add.new.out.items c.items-field-items.result.now c.in_ok-add.ensures; size = left-smaller 0 c.items-field-items.result.now }

pub show_fields-loop-place-preserved : goal.show_fields-loop-place-preserved
show_fields-loop-place-preserved t c =
    record {
      text = fields-more c.loop-place.out.items c.add-in-loop-place.new.out.items c.show_field.new.out.items _ c.mark.result.now c.loop-place.place c.items-field-items.result.now c.field-item.result c.loop-place.invariant.text c.loop-place-test.true c.field-item.is c.mark.ensures c.in_ok-add-2.ensures c.in_ok-show_field.ensures;
      size = left-smaller _ _;
    }

pub show_fields-returns : goal.show_fields-returns
show_fields-returns t c =
    on_ok_weaker c.add-2.result (λ e. fields-end c.loop-place.out.items c.args.out.now.items c.add-2.new.out.items _ c.loop-place.place c.items-field-items.result.now c.args.fields.now c.loop-place.invariant.text c.loop-place-test.false c.items-field-items.ensures.value e) c.add-2.ensures

pub show_single-returns-in-Val : goal.show_single-returns-in-Val
show_single-returns-in-Val t c =
    on_ok_weaker c.show.result (λ e. single-val c.args.out.now.items c.show.new.out.items c.args.fields.now c.args.field.now c.requires c.in-Val.is e) c.show.ensures

pub show_single-returns-in_default : goal.show_single-returns-in_default
show_single-returns-in_default t c =
    on_ok_weaker c.show_fields.result (λ e. single-other c.args.out.now.items c.show_fields.new.out.items c.args.fields.now c.args.field.now c.requires c.in_default.not-Val c.in_default.not-Typ c.in_default.not-Sig e) c.show_fields.ensures

pub show_record-returns-else-items-eq1 : goal.show_record-returns-else-items-eq1
show_record-returns-else-items-eq1 t c =
    on_ok_weaker c.show_fields.result (λ e. record-many c.args.out.now.items c.show_fields.new.out.items _ c.args.fields.now c.items-items.ensures.value c.if-items-eq1.false e) c.show_fields.ensures

pub show_injected-returns : goal.show_injected-returns
show_injected-returns t c =
    on_ok_weaker c.add-4.result (λ e. injected-text c.args.out.now.items c.add.new.out.items c.add-2.new.out.items c.add-3.new.out.items c.show.new.out.items c.add-4.new.out.items c.label_bytes.result.now (label_text c.args.label.now) (shown c.args.part.now) c.in_ok-add.ensures c.label_bytes.ensures c.in_ok-add-2.ensures c.in_ok-add-3.ensures c.in_ok-show.ensures e) c.add-4.ensures

pub show_rolled-returns : goal.show_rolled-returns
show_rolled-returns t c =
    on_ok_weaker c.add-2.result (λ e. rolled-text c.args.out.now.items c.add.new.out.items c.show.new.out.items c.add-2.new.out.items (shown c.args.part.now) c.in_ok-add.ensures c.in_ok-show.ensures e) c.add-2.ensures
