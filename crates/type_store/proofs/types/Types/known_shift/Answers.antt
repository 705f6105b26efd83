use Rattle.type_store.proofs.MemoSteps.{known-shift}
use Rattle.type_store.proofs.types.Types.known_shift.Goals as goal

pub returns : goal.returns
returns c =
    known-shift c.self.inside.store c.args.self.now c.self.inside.shifts
    (c.args.number, c.args.from, c.args.by) c.get.result c.self.invariant.0 c.self.view_is c.get.ensures
