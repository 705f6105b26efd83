use Rattle.std.proofs.Common.{List}
use Rattle.std.proofs.lemmas.Result.{IfOk-weaker}
use Rattle.omega_kinds.specs.Kind.{Kind}
use Rattle.omega_types.specs.Binders.{extend}
use Rattle.sig_definitions.specs.Lifting.{Lift}
use Rattle.sig_definitions.specs.Signatures.Alike.{NormalAbs, NormalSig}
use Rattle.sig_definitions.specs.Signatures.Sig.{Abs}
use Rattle.applicative_functors.proofs.Lifted.{is-lifted}
use Rattle.applicative_functors.proofs.lifting.lift.Goals as goal

pub returns : goal.returns
returns c =
    IfOk-weaker _ _ (λ (y : Abs). (ctx : List Kind) → NormalSig (extend ctx c.args.kinds.now) c.args.param.now → NormalAbs (extend ctx c.args.kinds.now) c.args.body.now → Lift ctx c.args.kinds.now c.args.param.now c.args.body.now y)
    (λ y e. is-lifted c.args.kinds.now c.kinds-hidden.result.now c.in_ok-lifted.lifted c.args.param.now c.in_ok-target.target c.in_ok-functor.functor c.args.body.now y c.kinds-hidden.ensures c.in_ok-target.ensures c.in_ok-functor.ensures c.in_ok-lifted.ensures e) c.make.ensures
