use Rattle.std.proofs.Common.{length}
use Rattle.std.proofs.lemmas.Result.{IfOk-weaker}
use Rattle.omega_types.specs.Index.{bump}
use Rattle.sig_definitions.specs.Signatures.Sig.{Sig}
use Rattle.sig_definitions.specs.Signatures.SigSubst.{rename_abs}
use Rattle.applicative_functors.specs.Inner.LiftedVars.{lifted_vars, Put}
use Rattle.applicative_functors.proofs.Lifted.{put-given}
use Rattle.applicative_functors.proofs.lifting.lifted_result.Goals as goal

pub returns : goal.returns
returns c =
    IfOk-weaker _ _ (λ (s : Sig). Put (rename_abs (bump (length c.args.hidden.now) (length c.args.kinds.now)) c.args.body.now) (lifted_vars c.args.kinds.now c.args.hidden.now) s)
    (λ s e. put-given c.args.body.now c.in_ok-raised.raised c.args.kinds.now c.args.hidden.now c.items.result.now c.items-2.result.now c.in_ok-types.types c.items-3.result.now s c.items.ensures c.items-2.ensures c.in_ok-raised.ensures.value c.in_ok-types.ensures c.items-3.ensures e) c.instantiate.ensures.normal
