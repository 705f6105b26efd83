use Rattle.std.proofs.Common.{sym, ap, subst}
use Rattle.std.proofs.lemmas.Result.{IfOk-weaker}
use Rattle.omega_kinds.specs.View.{kind_tree}
use Rattle.omega_types.specs.Normaliser.{hsubst}
use Rattle.type_store.specs.Trees.{Holds, at}
use Rattle.type_store.proofs.FillSteps.{filled-outermost}
use Rattle.type_store.proofs.types.Types.fill.Goals as goal

pub returns-in-Star-clause-number : goal.returns-in-Star-clause-number
returns-in-Star-clause-number c =
    IfOk-weaker c.put_in.result _ _
    (λ n h.
    subst (λ k. Holds c.put_in.new.self n (hsubst k 0 (at c.args.self.now c.args.arg) (at c.args.self.now c.args.body))) (sym (ap kind_tree c.in-Star.is))
    (subst (Holds c.put_in.new.self n) (filled-outermost (at c.args.self.now c.args.arg) (at c.args.self.now c.args.body)) h))
    c.put_in.ensures.number
