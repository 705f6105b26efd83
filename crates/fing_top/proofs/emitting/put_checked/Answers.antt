use Rattle.fing_top.proofs.Scopes.{confirmed-term, confirmed-type}
use Rattle.fing_top.proofs.emitting.put_checked.Goals as goal

pub put_omega-requires-clause-ty : goal.put_omega-requires-clause-ty
put_omega-requires-clause-ty g c =
    confirmed-type c.args.checked.now c.ty-ty.result.now c.extent.result.height c.ty-ty.ensures.ty c.ty-ty.ensures.typed c.extent.ensures.height c.extent.ensures.high

pub put_omega-requires-clause-term : goal.put_omega-requires-clause-term
put_omega-requires-clause-term g c =
    confirmed-term c.args.checked.now c.term-term.result.now c.extent-2.result.height c.term-term.ensures.term c.term-term.ensures.typed c.extent-2.ensures.height c.extent-2.ensures.high
