use Rattle.std.proofs.lemmas.Result.{IfOk-weaker}
use Rattle.semantic_sigs.proofs.HeadLaws.{instantiated, instantiated-value}
use Rattle.semantic_sigs.proofs.changing.instantiate.Goals as goal

pub returns-clause-value : goal.returns-clause-value
returns-clause-value c =
    IfOk-weaker _ _ _ (λ s e. instantiated-value c.args.abs.now c.args.types.now c.body.result.now s c.body.ensures e) c.changed_sig.ensures

pub returns-clause-normal : goal.returns-clause-normal
returns-clause-normal c =
    IfOk-weaker _ _ _ (λ s e. instantiated c.args.abs.now c.args.types.now c.body.result.now s c.body.ensures e) c.changed_sig.ensures
