use Rattle.std.proofs.lemmas.Result.{IfOk-weaker}
use Rattle.type_normal.proofs.Claims.{lowered-raised, lowered-normal}
use Rattle.type_normal.proofs.lowering.lower.Goals as goal

pub returns-clause-raised : goal.returns-clause-raised
returns-clause-raised c =
    IfOk-weaker c.lower_from.result _ _ (λ t e. lowered-raised c.args.by t c.args.ty.now e) c.lower_from.ensures

pub returns-clause-normal : goal.returns-clause-normal
returns-clause-normal c =
    IfOk-weaker c.lower_from.result _ _ (λ t e. lowered-normal c.args.by t c.args.ty.now e) c.lower_from.ensures
