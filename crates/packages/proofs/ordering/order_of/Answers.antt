use Rattle.std.proofs.Common.{sym, ap, length, ◌∙◌}
use Rattle.std.proofs.lemmas.List.{length-map}
use Rattle.omega_kinds.specs.View.{kind_tree}
use Rattle.packages.proofs.SweepLaws.{swept-all}
use Rattle.packages.proofs.ordering.order_of.Goals as goal

pub returns-then-branch : goal.returns-then-branch
returns-then-branch c =
    swept-all c.args.body.now (sym (length-map c.items.result.now kind_tree) ∙ ap length c.items.ensures) c.in_ok-new.ensures.kinds c.in_ok-new.ensures.places (c.in_ok-through.ensures.swept c.if-branch.true)
