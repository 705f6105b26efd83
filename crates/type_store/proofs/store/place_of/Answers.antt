use Rattle.std.proofs.Common.{sym, ◌∙◌}
use Rattle.type_store.proofs.TreeLaws.{placed}
use Rattle.type_store.proofs.store.place_of.Goals as goal

pub returns : goal.returns
returns c = placed c.args.nodes.now.keys c.args.node.now c.in_ok-number.number c.requires.store (sym c.get_index_of.ensures.index ∙ c.in_ok-number.was)
