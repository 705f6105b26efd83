use Rattle.std.proofs.Common.{IsTrue}
use Rattle.std.proofs.lemmas.Result.{IfOk-weaker}
use Rattle.sig_match.specs.Inner.Alike.{AreAlike}
use Rattle.sig_match.proofs.AlikeSteps.{norms-alike}
use Rattle.sig_match.proofs.alike.are_alike.Goals as goal

pub returns : goal.returns
returns c =
    IfOk-weaker c.same_encoding-2.result _ (λ b. IsTrue b → AreAlike c.args.left.now c.args.right.now)
    (λ b h t. norms-alike c.args.left.now c.args.right.now c.in_ok-left.left c.in_ok-right.right c.in_ok-left.ensures.value c.in_ok-right.ensures.value (h.0 t)) c.same_encoding-2.ensures
