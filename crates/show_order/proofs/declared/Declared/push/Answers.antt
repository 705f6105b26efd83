use Rattle.std.proofs.Common.{[], ◌∷◌, ◌++◌, length, ap, ◌∙◌}
use Rattle.show_order.proofs.PlaceLaws.{pushed}
use Rattle.show_order.proofs.declared.Declared.push.Goals as goal

pub invariant_of-self-2 : goal.invariant_of-self-2
invariant_of-self-2 c =
    pushed c.self.inside.places c.insert.new.self c.self.inside.list.items c.push.new.self.items (c.args.name, c.args.component) _ _ (c.in_ok-push.ensures.items ∙ ap (λ items. items ++ (c.args.name, c.args.component) ∷ []) c.reserve.ensures.items) c.in_ok-share.ensures (ap length c.as_slice-list.ensures.value ∙ ap length c.reserve.ensures.items) c.in_ok-insert.ensures.updates c.self.invariant
