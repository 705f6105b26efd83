use Rattle.type_store.proofs.MemoSteps.{memos-more}
use Rattle.type_store.proofs.types.Types.put.Goals as goal

pub invariant_of-self : goal.invariant_of-self
invariant_of-self c = memos-more c.self.inside.store c.put.new.self c.self.inside.shifts c.self.inside.fills c.put.ensures.grows c.self.invariant
