use Rattle.std.proofs.Common.{sym, subst}
use Rattle.type_store.specs.Inner.Memo.{IsShift, Key}
use Rattle.type_store.proofs.MemoSteps.{noted}
use Rattle.type_store.proofs.types.Types.note_shift.Goals as goal

pub invariant_of-self : goal.invariant_of-self
invariant_of-self c =
    let key : Key = (c.args.number, c.args.from, c.args.by) in
    let right : IsShift c.args.self.now key c.args.shifted = record { within = c.requires.within; value = c.requires.right } in (
      noted IsShift c.self.inside.store c.self.inside.shifts c.insert.new.self key c.args.shifted c.self.invariant.0
          (subst (λ ts. IsShift ts key c.args.shifted) (sym c.self.view_is) right) c.insert.ensures,
      c.self.invariant.1,
    )
