use Rattle.std.proofs.Common.{◌≡◌}
use Rattle.std.proofs.lemmas.Result.{IfOk-weaker}
use Rattle.sig_definitions.specs.Signatures.Sig.{Sig}
use Rattle.packages.specs.Inner.Normed.{functor_in_order}
use Rattle.packages.proofs.Steps.{functor-ordered}
use Rattle.packages.proofs.norms.impure_functor.Goals as goal

pub returns : goal.returns
returns c =
    IfOk-weaker _ _ (λ (f : Sig). f ≡ functor_in_order c.args.kinds.now c.args.from.now c.args.to.now)
    (λ f e. functor-ordered c.args.kinds.now c.in_ok-order.order.kinds c.args.from.now c.in_ok-moved_from.moved_from f c.args.to.now c.in_ok-moved_to.moved_to c.in_ok-order.order.places.items c.as_slice-places.result.now c.in_ok-order.ensures c.as_slice-places.ensures.value c.in_ok-moved_from.ensures c.in_ok-moved_to.ensures e) c.make.ensures
