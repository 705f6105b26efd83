use Rattle.std.proofs.Common.{subst}
use Rattle.std.proofs.lemmas.Result.{IfOk-weaker}
use Rattle.semantic_sigs.specs.Inner.View.{kinds_of, body_of}
use Rattle.sig_match.proofs.PutSteps.{InstAt, put-at, put-size}
use Rattle.sig_match.proofs.putting.at_types.Goals as goal

pub returns-clause-size : goal.returns-clause-size
returns-clause-size c =
    IfOk-weaker _ _ _ (λ s h. put-size (kinds_of c.args.abs.now) (body_of c.args.abs.now) s c.args.types.now c.requires (put-at c.args.abs.now c.args.types.now s (subst (λ ts. InstAt c.args.abs.now ts s) c.items.ensures h))) c.instantiate.ensures.normal
