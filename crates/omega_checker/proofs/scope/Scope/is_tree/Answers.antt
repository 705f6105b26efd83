use Rattle.std.proofs.Common.{length}
use Rattle.omega_types.specs.Inner.Scope.{scope_of}
use Rattle.omega_node_laws.proofs.ScopeSteps.{tree-test}
use Rattle.omega_checker.proofs.scope.Scope.is_tree.Goals as goal

pub returns : goal.returns
returns c =
    let s = c.self.inside in
    tree-test s.types (scope_of s.kinds.items) (length s.kinds.items) s.vars.items c.args.number c.args.ty.now c.is_tree.result c.self.view_is c.is_tree.ensures
