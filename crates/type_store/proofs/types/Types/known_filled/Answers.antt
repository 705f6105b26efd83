use Rattle.type_store.proofs.MemoSteps.{known-filled}
use Rattle.type_store.proofs.types.Types.known_filled.Goals as goal

pub returns : goal.returns
returns c =
    known-filled c.self.inside.store c.args.self.now c.self.inside.fills
    (c.args.body, c.args.index, c.args.arg) c.get.result c.self.invariant.1 c.self.view_is c.get.ensures
