use Rattle.std.proofs.Common.{length}
use Rattle.omega_types.specs.Inner.Scope.{scope_of}
use Rattle.omega_node_laws.proofs.ScopeSteps.{same-test}
use Rattle.omega_checker.proofs.scope.Scope.same.Goals as goal

pub returns : goal.returns
returns c =
    let s = c.self.inside in
    same-test s.types (scope_of s.kinds.items) (length s.kinds.items) s.vars.items c.args.left c.args.right c.same.result c.self.view_is c.same.ensures
