use Rattle.std.proofs.Common.{◌≤◌, subst, sym, ◌∙◌}
use Rattle.omega_types.specs.Index.{shift}
use Rattle.omega_kinds.specs.View.{kind_tree}
use Rattle.omega_checker.proofs.PutSteps.{unchanged}
use Rattle.omega_checker.proofs.putting.made.Goals as goal

pub returns-then-bound-at : goal.returns-then-bound-at
returns-then-bound-at c =
    let h = c.is_tree.ensures in
    let u =
    unchanged (kind_tree c.args.kind.now) c.args.at (shift c.args.depth 0 c.args.arg.now) c.args.body.now
    (subst (λ n. n ≤ c.args.at) c.bound.ensures c.if-bound-at.true) in
    (λ y. u ∙ sym (h.0 y), λ y. h.1 (sym y ∙ u))
