use Rattle.std.proofs.Common.{length}
use Rattle.std.proofs.lemmas.Result.{IfOk-weaker}
use Rattle.omega_types.specs.Inner.Scope.{scope_of}
use Rattle.omega_node_laws.proofs.ScopeSteps.{wrapped}
use Rattle.omega_checker.proofs.scope.Scope.put.Goals as goal

pub returns : goal.returns
returns c =
    let s = c.self.inside in
    IfOk-weaker c.put.result _ _ (λ n h. wrapped (λ ts. c.args.ty.now) s.types c.put.new.self (scope_of s.kinds.items)
    (length s.kinds.items) s.vars.items n c.self.view_is c.self.invariant c.put.ensures.grows h) c.put.ensures.number
