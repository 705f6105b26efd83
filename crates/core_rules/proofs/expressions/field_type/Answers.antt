use Rattle.std.proofs.Common.{sym, subst}
use Rattle.omega_types.specs.Fields.{row}
use Rattle.omega_types.specs.Ty.{Ty}
use Rattle.omega_terms.specs.Typing.{HasPart}
use Rattle.omega_terms.proofs.AtLabel.{no-part, part-found}
use Rattle.core_rules.proofs.expressions.field_type.Goals as goal

pub returns-in_ok-part-in-Some : goal.returns-in_ok-part-in-Some
returns-in_ok-part-in-Some c =
    let has = part-found c.args.fields.now c.args.label.now c.in-Some.ty.now (sym c.in-Some.ensures) in
    subst (λ (t : Ty). HasPart (row c.args.fields.now) c.args.label.now t) (sym c.in_ok-part-in-Some.ensures) has

pub returns-in-None : goal.returns-in-None
returns-in-None c = no-part c.args.fields.now c.args.label.now (sym c.in-None.ensures)
