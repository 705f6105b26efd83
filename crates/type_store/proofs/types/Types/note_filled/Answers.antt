use Rattle.std.proofs.Common.{sym, subst}
use Rattle.type_store.specs.Inner.Memo.{IsFilled, Key}
use Rattle.type_store.proofs.MemoSteps.{noted}
use Rattle.type_store.proofs.types.Types.note_filled.Goals as goal

pub invariant_of-self : goal.invariant_of-self
invariant_of-self c =
    let key : Key = (c.args.body, c.args.index, c.args.arg) in
    let right : IsFilled c.args.self.now key c.args.whole = record { within = c.requires.within; arg_within = c.requires.arg; value = c.requires.right } in (
      c.self.invariant.0,
      noted IsFilled c.self.inside.store c.self.inside.fills c.insert.new.self key c.args.whole c.self.invariant.1
          (subst (λ ts. IsFilled ts key c.args.whole) (sym c.self.view_is) right) c.insert.ensures,
    )
