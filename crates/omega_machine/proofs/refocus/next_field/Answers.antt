use Rattle.omega_machine.proofs.Moved.{next-part, no-part}
use Rattle.omega_machine.proofs.refocus.next_field.Goals as goal

pub returns-in-Some : goal.returns-in-Some
returns-in-Some c =
    next-part c.args.whole c.args.done c.items.result.now c.in_ok-part.field-0 c.in-Some.part c.requires c.items.ensures.value c.in_ok-part.ensures c.in-Some.is

pub returns-in_ok-make-in-None : goal.returns-in_ok-make-in-None
returns-in_ok-make-in-None c =
    no-part c.args.whole c.args.done c.items.result.now c.in_ok-part.field-0 c.in_ok-make-in-None.field-0 c.requires c.items.ensures.value c.in_ok-part.ensures c.in-None.is c.in_ok-make-in-None.ensures
