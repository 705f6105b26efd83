use Rattle.std.proofs.lemmas.Result.{IfOk-weaker}
use Rattle.omega_types.specs.Inner.Scope.{scope_of}
use Rattle.omega_node_laws.proofs.ForCode.{kind-is}
use Rattle.omega_checker.proofs.naming.find_kind.Goals as goal

pub returns : goal.returns
returns c = IfOk-weaker _ _ _ (λ o h. kind-is (scope_of c.args.ctx.now) c.args.ty.now o h) c.kind_of.ensures
