use Rattle.std.proofs.Common.{ap₂, ◌∙◌}
use Rattle.type_store.specs.Inner.Low.{low_at}
use Rattle.type_store.specs.Trees.{bound_at, trees}
use Rattle.type_store.proofs.LowSteps.{low-is}
use Rattle.type_store.proofs.TreeLaws.{bound-is}
use Rattle.type_store.proofs.store.Store.add.Goals as goal

pub insert-requires-clause-bound : goal.insert-requires-clause-bound
insert-requires-clause-bound c =
    bound-is (trees c.self.inside.nodes.keys) c.self.inside.bounds.items c.args.node c.in_ok-bound.bound c.self.invariant.1
    (c.in_ok-bound.ensures ∙ ap₂ bound_at c.as_slice.ensures.value c.form.ensures)

pub insert-requires-clause-low : goal.insert-requires-clause-low
insert-requires-clause-low c =
    low-is (trees c.self.inside.nodes.keys) c.self.inside.lows.items c.args.node c.low_of-low.result c.self.invariant.2
    (c.low_of-low.ensures ∙ ap₂ low_at c.as_slice-2.ensures.value c.form-2.ensures)
