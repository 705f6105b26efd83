use Rattle.std.proofs.Common.{◌≡◌, sym, ap, ◌∙◌}
use Rattle.omega_types.specs.Fields.{row}
use Rattle.omega_types.specs.Ty.{Ty}
use Rattle.omega_types.specs.Inner.View.{ty_of}
use Rattle.core_rules.proofs.Forms.{no-sum}
use Rattle.core_rules.proofs.SumRules.{sum-given, sum-refused}
use Rattle.core_rules.proofs.sums.is_sum.Goals as goal

pub returns-in-Sum-clause-given : goal.returns-in-Sum-clause-given
returns-in-Sum-clause-given c =
    let whole = c.args.whole.now.ty in
    let form : whole ≡ Ty.Sum (row c.in-Sum.field-0) = sym c.plain.ensures ∙ (sym c.node.ensures ∙ ap ty_of c.in-Sum.is) in
    (row c.in-Sum.field-0, sum-given whole (row c.in-Sum.field-0) form)

pub returns-in_ok-share-in_default : goal.returns-in_ok-share-in_default
returns-in_ok-share-in_default c =
    record { given = tt; refused = sum-refused c.args.whole.now.ty c.in_ok-share-in_default.field-0 c.in_ok-share-in_default.ensures (no-sum c.node.result.now c.plain.result.now c.args.whole.now.ty c.node.ensures c.plain.ensures c.in_default.not-Sum) }
