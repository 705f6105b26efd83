use Rattle.applicative_functors.proofs.Lifted.{functor-made}
use Rattle.applicative_functors.proofs.functors.pure_functor.Goals as goal

pub returns : goal.returns
returns c =
    functor-made c.args.body.effect c.args.param.now c.args.body.sig c.in_ok-lift.field-0 c.kinds-kinds.result.now c.body.result.now c.body-2.result.now c.args.body.types c.in_ok-lift_witness.field-0 c.items.result.now c.args.body.term c.in_ok-result.result c.in_ok-function.function c.in_ok-ty_lam_over.field-0 c.in_ok-from.from c.kinds-kinds.ensures c.body.ensures c.body-2.ensures c.in_ok-result.ensures c.in_ok-from.ensures c.in_ok-function.ensures c.in_ok-ty_lam_over.ensures c.in_ok-lift_witness.ensures.value c.items.ensures c.in_ok-lift.ensures
