use Rattle.std.proofs.Common.{◌≡◌, ◌↔◌, IsTrue, length, subst}
use Rattle.omega_types.specs.Inner.Scope.{scope_of}
use Rattle.omega_node_laws.proofs.ScopeSteps.{filled-test}
use Rattle.type_store.specs.Trees.{at}
use Rattle.type_store.proofs.FillSteps.{filled-outermost}
use Rattle.omega_checker.proofs.scope.Scope.is_filled.Goals as goal

pub returns : goal.returns
returns c =
    let s = c.self.inside in
    filled-test s.types (scope_of s.kinds.items) (length s.kinds.items) s.vars.items c.args.inner c.args.hidden c.args.whole c.is_filled.result c.self.view_is
    (subst (λ u. IsTrue c.is_filled.result ↔ u ≡ at s.types c.args.whole)
    (filled-outermost (at s.types c.args.hidden) (at s.types c.args.inner)) c.is_filled.ensures)
