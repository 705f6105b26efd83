use Rattle.std.proofs.lemmas.Result.{IfOk-weaker}
use Rattle.semantic_sigs.proofs.HeadLaws.{instantiated-abs}
use Rattle.semantic_sigs.proofs.changing.instantiate_abs.Goals as goal

pub returns-clause-normal : goal.returns-clause-normal
returns-clause-normal c = IfOk-weaker _ _ _ (λ x e. instantiated-abs c.args.abs.now c.args.types.now x e) c.changed_abs.ensures
