use Rattle.std.proofs.Common.{◌≡◌, sym, ap, ◌∙◌}
use Rattle.std.proofs.lemmas.Bool.{false≢true}
use Rattle.omega_kinds.specs.View.{kind_tree}
use Rattle.omega_types.specs.Ty.{Ty}
use Rattle.omega_types.specs.Inner.View.{ty_of}
use Rattle.omega_terms.specs.Term.{Term}
use Rattle.core_rules.proofs.Conclusions.{instance-kind, instance-given}
use Rattle.core_rules.proofs.Forms.{not-all}
use Rattle.core_rules.proofs.expressions.inst_exp.Goals as goal

pub returns-in_default : goal.returns-in_default
returns-in_default c =
    record { given = tt; refused = not-all c.node.result.now c.plain.result.now c.args.function.ty c.args.arg.now.ty c.in_ok-share.field-0 (kind_tree c.args.arg.now.kind) c.node.ensures c.plain.ensures c.in_default.not-All c.in_ok-share.ensures }

pub returns-then-not-same_kind-clause-refused : goal.returns-then-not-same_kind-clause-refused
returns-then-not-same_kind-clause-refused c =
    let function = c.args.function.ty in
    let arg = c.args.arg.now in
    let kind = kind_tree c.in-All.kind in
    let form : function ≡ Ty.All kind c.in-All.body = sym c.plain.ensures ∙ (sym c.node.ensures ∙ ap ty_of c.in-All.is) in
    instance-kind function arg.ty c.in-All.body kind (kind_tree arg.kind) (kind_tree c.in_ok-share-2.field-0) (kind_tree c.in_ok-share-3.field-0) form (λ p. false≢true (sym c.if-not-same_kind.true ∙ c.same_kind.ensures.same.1 p)) c.in_ok-share-2.ensures c.in_ok-share-3.ensures

pub returns-clause-given : goal.returns-clause-given
returns-clause-given c =
    let function = c.args.function in
    let arg = c.args.arg.now in
    let kind = kind_tree c.in-All.kind in
    let form : function.ty ≡ Ty.All kind c.in-All.body = sym c.plain.ensures ∙ (sym c.node.ensures ∙ ap ty_of c.in-All.is) in
    let term = c.in_ok-term.ensures ∙ ap (Term.Inst function.term) (c.in_ok-share-4.ensures ∙ c.plain-2.ensures) in
    λ ctx n m. instance-given ctx function.ty arg.ty c.in-All.body c.in_ok-part.field-0 c.in_ok-ty.ty kind (kind_tree arg.kind) function.term c.in_ok-term.term form c.in_ok-part.ensures (c.same_kind.ensures.same.0 c.if-not-same_kind.false) c.in_ok-ty.ensures.value term n m
