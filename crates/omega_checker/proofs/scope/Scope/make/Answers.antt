use Rattle.std.proofs.Common.{length}
use Rattle.std.proofs.lemmas.Result.{IfOk-weaker}
use Rattle.omega_types.specs.Inner.Scope.{scope_of}
use Rattle.type_store.specs.Inner.View.{shape_of}
use Rattle.type_store.specs.Trees.{tree_at}
use Rattle.omega_node_laws.proofs.ScopeSteps.{wrapped}
use Rattle.omega_checker.proofs.scope.Scope.make.Goals as goal

pub returns : goal.returns
returns c =
    let s = c.self.inside in
    IfOk-weaker c.make.result _ _ (λ n h. wrapped (λ ts. tree_at ts (shape_of c.args.form)) s.types c.make.new.self (scope_of s.kinds.items)
    (length s.kinds.items) s.vars.items n c.self.view_is c.self.invariant c.make.ensures.grows h) c.make.ensures.number
