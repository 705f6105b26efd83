use Rattle.std.proofs.Common.{Some, length}
use Rattle.std.proofs.lemmas.Result.{IfOk-weaker}
use Rattle.omega_types.specs.Inner.Scope.{scope_of}
use Rattle.type_store.specs.Trees.{at}
use Rattle.omega_node_laws.specs.Found.{lowered}
use Rattle.omega_node_laws.proofs.ScopeSteps.{wrapped-find}
use Rattle.omega_checker.proofs.scope.Scope.lower.Goals as goal

pub returns : goal.returns
returns c =
    let s = c.self.inside in
    IfOk-weaker c.lower.result _ _ (λ o h. wrapped-find (λ r. lowered (Some (at r.types c.args.number))) s.types c.lower.new.self (scope_of s.kinds.items)
    (length s.kinds.items) s.vars.items o c.self.view_is c.self.invariant c.lower.ensures.grows h) c.lower.ensures.number
