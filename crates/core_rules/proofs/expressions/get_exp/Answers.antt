use Rattle.std.proofs.Common.{◌≡◌, sym, ap, ◌∙◌, subst}
use Rattle.omega_kinds.specs.Name.{Name}
use Rattle.omega_kinds.specs.declared.label.Label.{Label}
use Rattle.omega_types.specs.Fields.{row}
use Rattle.omega_types.specs.Ty.{Ty, Row}
use Rattle.omega_types.specs.Inner.View.{ty_of}
use Rattle.omega_terms.specs.Term.{Term}
use Rattle.omega_terms.specs.Typing.{HasPart}
use Rattle.core_rules.proofs.Conclusions.{none-case, some-case, get-missing, get-given}
use Rattle.core_rules.proofs.Forms.{not-record}
use Rattle.core_rules.proofs.expressions.get_exp.Goals as goal

pub returns-in_default : goal.returns-in_default
returns-in_default c =
    record { given = tt; refused = not-record c.node.result.now c.plain.result.now c.args.whole.ty c.in_ok-share.field-0 c.args.name.now c.node.ensures c.plain.ensures c.in_default.not-Fields c.in_ok-share.ensures }

pub returns-in_default-2-clause-refused : goal.returns-in_default-2-clause-refused
returns-in_default-2-clause-refused c =
    let whole = c.args.whole.ty in
    let parts : Row = row c.in-Fields.fields in
    let shared = c.in_ok-share-2.field-0 in
    let form : whole ≡ Ty.Fields parts = sym c.plain.ensures ∙ (sym c.node.ensures ∙ ap ty_of c.in-Fields.is) in
    let none = none-case c.in_ok-ty.field-0 ((t : Ty) → HasPart parts (Label.Name shared) t → ⊥) (λ t. HasPart parts (Label.Name shared) t) c.in_default-2.not-Some c.in_ok-ty.ensures in
    get-missing whole parts c.args.name.now c.in_ok-share-3.field-0 form c.in_ok-share-3.ensures (subst (λ (l : Name). (t : Ty) → HasPart parts (Label.Name l) t → ⊥) c.in_ok-share-2.ensures none)

pub returns-clause-given : goal.returns-clause-given
returns-clause-given c =
    let whole = c.args.whole in
    let parts : Row = row c.in-Fields.fields in
    let shared = c.in_ok-share-2.field-0 in
    let t = c.in-Some.ty in
    let form : whole.ty ≡ Ty.Fields parts = sym c.plain.ensures ∙ (sym c.node.ensures ∙ ap ty_of c.in-Fields.is) in
    let has = some-case c.in_ok-ty.field-0 ((u : Ty) → HasPart parts (Label.Name shared) u → ⊥) (λ u. HasPart parts (Label.Name shared) u) t c.in-Some.is c.in_ok-ty.ensures in
    get-given whole.ty t parts c.args.name.now whole.term c.in_ok-term.term form (subst (λ (l : Name). HasPart parts (Label.Name l) t) c.in_ok-share-2.ensures has) (c.in_ok-term.ensures ∙ ap (λ l. Term.Get whole.term (Label.Name l)) c.in_ok-share-2.ensures)
