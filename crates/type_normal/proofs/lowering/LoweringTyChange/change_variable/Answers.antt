use Rattle.std.proofs.Common.{◌≡◌, ◌+◌, IfOk, sym, ap, ◌∙◌, subst}
use Rattle.omega_types.specs.Ty.{Ty}
use Rattle.type_normal.proofs.LiftedSteps.{lower-var_below, lower-var_above}
use Rattle.type_normal.proofs.lowering.LoweringTyChange.change_variable.Goals as goal

pub returns-then-index-depth : goal.returns-then-index-depth
returns-then-index-depth c =
    subst (λ (u : Ty). IfOk c.make.result (λ t. t ≡ u)) (sym (lower-var_below c.args.self.now.by c.args.depth c.args.index c.if-index-depth.true)) c.make.ensures

pub returns : goal.returns
returns c =
    let e = ap (λ n. Ty.Var (c.args.depth + n)) c.saturating_sub-outer.ensures ∙ sym (lower-var_above c.args.self.now.by c.args.depth c.args.index c.if-index-depth.false) in
    subst (λ (u : Ty). IfOk c.make-2.result (λ t. t ≡ u)) e c.make-2.ensures
