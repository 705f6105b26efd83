use Rattle.std.proofs.Common.{◌≡◌, ℕ, Option, IfOk, ap, sym, ◌∙◌, subst, arith}
use Rattle.omega_kinds.specs.View.{kind_tree}
use Rattle.omega_types.specs.Inner.View.{ty_of}
use Rattle.sig_roots.proofs.RootedLaws.{lam-step, apply-step}
use Rattle.sig_roots.proofs.variables.+rooted.Goals as goal

pub rooted-returns-in_ok-next_level-in-Lam : goal.rooted-returns-in_ok-next_level-in-Lam
rooted-returns-in_ok-next_level-in-Lam t c =
    subst (λ (u : Option ℕ). IfOk c.rooted.result (λ own. own ≡ u)) (lam-step c.args.ty.now c.in-Lam.body (kind_tree c.in-Lam.field-0) c.in_ok-next_level-in-Lam.field-0 c.args.count (sym c.node.ensures ∙ ap ty_of c.in-Lam.is) c.in_ok-next_level-in-Lam.ensures) c.rooted.ensures

pub spine-returns-in-Some : goal.spine-returns-in-Some
spine-returns-in-Some t c =
    subst (λ (u : Option ℕ). IfOk c.spine.result (λ own. own ≡ u)) (apply-step c.args.ty.now c.in-Apply.operator c.in-Apply.arg c.args.next c.args.left c.in-Some.index c.in_ok-index-in-Apply.field-0 (sym c.node.ensures ∙ ap ty_of c.in-Apply.is) (omega (arith, c.if-left-gt0.true)) c.in_ok-index-in-Apply.ensures c.in-Some.is c.if-index-next.true) c.spine.ensures
