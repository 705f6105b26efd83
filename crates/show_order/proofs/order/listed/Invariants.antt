use Rattle.std.proofs.Common.{◌≡◌, map, take}
use Rattle.show_order.proofs.order.listed.Given as goal

abbrev pub invariant-loop-field : goal.invariant-loop-field
invariant-loop-field g l = map (λ f. f.now) l.shown.items ≡ take l.field-index l.fields
