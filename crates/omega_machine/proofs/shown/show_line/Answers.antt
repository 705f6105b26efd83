use Rattle.std.proofs.lemmas.Result.{on_ok_weaker}
use Rattle.omega_terms.specs.KindText.{label_text}
use Rattle.omega_terms.specs.ValueText.{shown}
use Rattle.omega_machine.proofs.Texts.{line-text}
use Rattle.omega_machine.proofs.shown.show_line.Goals as goal

pub returns : goal.returns
returns c =
    on_ok_weaker c.add.result (λ e. line-text c.args.out.now.items c.show_field.new.out.items c.add.new.out.items (label_text c.args.label.now) (shown c.args.value.now) c.in_ok-show_field.ensures e) c.add.ensures
