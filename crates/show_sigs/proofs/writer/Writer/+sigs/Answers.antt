use Rattle.std.proofs.Common.{◌≡◌, ◌<◌, All, subst, sym}
use Rattle.semantic_sigs.specs.Inner.Size.{sig_nodes, sig_pairs_nodes}
use Rattle.show_sigs.proofs.ShownBelow.{shown_below}
use Rattle.show_sigs.proofs.writer.Writer.+sigs.Goals as goal

pub put_fields-loop-field-init : goal.put_fields-loop-field-init
put_fields-loop-field-init t c = subst (λ shown. All (λ f. sig_nodes f.now.1 < sig_pairs_nodes c.args.fields.now) shown) (sym c.deref-field-items.ensures.value) (subst (λ fields. All (λ f. sig_nodes f.now.1 < sig_pairs_nodes fields) c.in_ok-shown.shown.items) c.items.ensures.value (shown_below _ _ _ c.in_ok-shown.ensures))
