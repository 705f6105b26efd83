use Rattle.std.proofs.lemmas.Result.{IfOk-weaker}
use Rattle.omega_types.specs.Inner.Scope.{scope_of}
use Rattle.omega_types.proofs.KindsFound.{kind_means}
use Rattle.omega_types.proofs.kinding.kind_of.Goals as goal

pub returns : goal.returns
returns c = IfOk-weaker _ _ _ (λ o e. kind_means (scope_of c.args.ctx.now) c.args.ty.now o (rw (← c.in_ok-scope.ensures) e)) c.find_kind.ensures.kind
