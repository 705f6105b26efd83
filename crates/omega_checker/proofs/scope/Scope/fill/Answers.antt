use Rattle.std.proofs.Common.{length}
use Rattle.std.proofs.lemmas.Result.{IfOk-weaker}
use Rattle.omega_kinds.specs.View.{kind_tree}
use Rattle.omega_types.specs.Inner.Scope.{scope_of}
use Rattle.omega_types.specs.Normaliser.{hsubst}
use Rattle.type_store.specs.Trees.{at}
use Rattle.omega_node_laws.proofs.ScopeSteps.{wrapped}
use Rattle.omega_checker.proofs.scope.Scope.fill.Goals as goal

pub returns : goal.returns
returns c =
    let s = c.self.inside in
    IfOk-weaker c.fill.result _ _ (λ n h. wrapped (λ ts. hsubst (kind_tree c.args.kind.now) 0 (at ts c.args.arg) (at ts c.args.body)) s.types c.fill.new.self
    (scope_of s.kinds.items) (length s.kinds.items) s.vars.items n c.self.view_is c.self.invariant c.fill.ensures.grows h) c.fill.ensures.number
