use Rattle.std.proofs.Common.{map, refl, sym, ◌∙◌}
use Rattle.semantic_sigs.specs.Inner.Items.{item_of}
use Rattle.sig_roots.specs.Inner.Rooted.{rooted}
use Rattle.sig_roots.proofs.WalkLaws.{type-barred, type-none}
use Rattle.sig_roots.proofs.walk.Walk.visit_type.Goals as goal

pub returns-in_default-clause-found : goal.returns-in_default-clause-found
returns-in_default-clause-found c =
    let walk = c.args.self.now in
    type-barred (map item_of walk.steps.items) c.args.bar (rooted c.args.depth c.args.ty.now) c.in-Some.own walk.found.items walk.found.items (sym c.in_ok-own.ensures ∙ c.in-Some.is) (sym c.is_open.ensures ∙ c.if-is_open.false) refl

pub returns-in_default-2-clause-found : goal.returns-in_default-2-clause-found
returns-in_default-2-clause-found c =
    let walk = c.args.self.now in
    type-none (map item_of walk.steps.items) c.args.bar (rooted c.args.depth c.args.ty.now) walk.found.items walk.found.items (sym c.in_ok-own.ensures ∙ c.in_default.is) refl
