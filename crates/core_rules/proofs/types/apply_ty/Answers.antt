use Rattle.std.proofs.Common.{sym, ap, ◌∙◌}
use Rattle.std.proofs.lemmas.Bool.{false≢true}
use Rattle.omega_kinds.specs.View.{kind_tree}
use Rattle.core_judgments.specs.TypeRules.{AppliedRefuses}
use Rattle.core_rules.proofs.Conclusions.{applied-given, applied-kind}
use Rattle.core_rules.proofs.types.apply_ty.Goals as goal

pub returns-in-Star-clause-refused : goal.returns-in-Star-clause-refused
returns-in-Star-clause-refused c = rw (c.in-Star.is) AppliedRefuses.no_operator

pub returns-then-not-same_kind-clause-refused : goal.returns-then-not-same_kind-clause-refused
returns-then-not-same_kind-clause-refused c =
    let operator = c.args.operator.now in
    let arg = c.args.arg.now in
    applied-kind operator.ty arg.ty (kind_tree operator.kind) (kind_tree c.in-Arrow.to.value) (kind_tree arg.kind) (kind_tree c.in-Arrow.from.value) (kind_tree c.in_ok-share-in-Arrow.field-0) (kind_tree c.in_ok-share-in-Arrow-2.field-0) (ap kind_tree c.in-Arrow.is) (λ p. false≢true (sym c.if-not-same_kind.true ∙ c.same_kind.ensures.same.1 (p ∙ sym (ap kind_tree c.deref.ensures)))) c.in_ok-share-in-Arrow.ensures (c.in_ok-share-in-Arrow-2.ensures ∙ ap kind_tree c.deref-then-not-same_kind.ensures)

pub returns-in_ok-share-in-Arrow-3-clause-given : goal.returns-in_ok-share-in-Arrow-3-clause-given
returns-in_ok-share-in-Arrow-3-clause-given c =
    let operator = c.args.operator.now in
    let arg = c.args.arg.now in
    λ ctx n m. applied-given ctx operator.ty arg.ty c.in_ok-applied-in-Arrow.field-0 (kind_tree operator.kind) (kind_tree c.in-Arrow.to.value) (kind_tree arg.kind) (kind_tree c.in-Arrow.from.value) (ap kind_tree c.in-Arrow.is) (c.same_kind.ensures.same.0 c.if-not-same_kind.false ∙ ap kind_tree c.deref.ensures) (kind_tree c.in_ok-share-in-Arrow-3.field-0) (c.in_ok-share-in-Arrow-3.ensures ∙ ap kind_tree c.deref-in-Arrow.ensures) c.in_ok-applied-in-Arrow.ensures n m
