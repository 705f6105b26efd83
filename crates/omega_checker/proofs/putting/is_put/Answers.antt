use Rattle.std.proofs.Common.{refl}
use Rattle.std.proofs.lemmas.Result.{IfOk-weaker}
use Rattle.omega_kinds.specs.View.{kind_tree}
use Rattle.omega_node_laws.proofs.Trees.{test-is}
use Rattle.omega_checker.proofs.PutSteps.{same-if, put-outermost}
use Rattle.omega_checker.proofs.putting.is_put.Goals as goal

pub returns : goal.returns
returns c =
    IfOk-weaker c.puts.result _ _ (λ b h. test-is b _ _
    (same-if h (put-outermost (kind_tree c.args.kind.now) c.args.arg.now _ c.args.body.now c.plain.ensures) refl)) c.puts.ensures
