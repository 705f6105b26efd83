use Rattle.functor_judgments.proofs.pure_functors.Goals as goal
use Rattle.functor_judgments.proofs.Verdicts.{one_pure_functor}

pub returns : goal.returns
returns c = one_pure_functor
