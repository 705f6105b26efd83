use Rattle.std.proofs.Common.{length}
use Rattle.std.proofs.lemmas.Result.{IfOk-weaker}
use Rattle.omega_types.specs.Inner.Scope.{scope_of}
use Rattle.omega_types.specs.Index.{shift}
use Rattle.type_store.specs.Trees.{at}
use Rattle.omega_node_laws.proofs.ScopeSteps.{wrapped}
use Rattle.omega_checker.proofs.scope.Scope.raise.Goals as goal

pub returns : goal.returns
returns c =
    let s = c.self.inside in
    IfOk-weaker c.shift.result _ _ (λ n h. wrapped (λ ts. shift 1 0 (at ts c.args.number)) s.types c.shift.new.self (scope_of s.kinds.items)
    (length s.kinds.items) s.vars.items n c.self.view_is c.self.invariant c.shift.ensures.grows h) c.shift.ensures.number
