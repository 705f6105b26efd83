use Rattle.std.proofs.Common.{◌≡◌, length, arith, refl, sym, ap, subst, ◌∙◌}
use Rattle.omega_kinds.specs.View.{kind_tree}
use Rattle.omega_types.specs.Ty.{Ty}
use Rattle.type_store.specs.Inner.Memo.{filled}
use Rattle.type_store.specs.Shape.{Shape}
use Rattle.type_store.specs.Trees.{ArePartsBelow, IsBelow, at, tree_at}
use Rattle.type_store.specs.Inner.View.{shape_of}
use Rattle.type_store.proofs.CheckSteps.{at-apply, filled-all, filled-apart, filled-apply, filled-ex, filled-lam, filled-long, filled-mu, filled-raised}
use Rattle.type_store.proofs.CheckSteps.{no-apply}
use Rattle.type_store.proofs.TreeLaws.{parts_below-more}
use Rattle.type_store.proofs.types.Types.+is_filled.Goals as goal

pub are_filled-returns-then-parts-wholes : goal.are_filled-returns-then-parts-wholes
are_filled-returns-then-parts-wholes t c = (
  λ h. cc,
  λ h. absurd (c.if-parts-wholes.true
      (filled-long c.args.index (at c.args.self.now c.args.arg) c.args.self.now c.args.parts.now c.args.wholes.now h)),
)

pub is_filled-returns-then-is_raised : goal.is_filled-returns-then-is_raised
is_filled-returns-then-is_raised t c = (
  λ h. filled-raised c.args.index (at c.args.self.now c.args.arg) (at c.args.self.now c.args.whole) (at c.args.self.now c.args.body) c.if-index-eq0.true
      (c.is_raised.ensures c.if-is_raised.true),
  λ h. refl,
)

pub is_filled-returns-then-same_kind : goal.is_filled-returns-then-same_kind
is_filled-returns-then-same_kind t c =
    let e : Ty.All (kind_tree c.in-All-All.j) (at c.args.self.now c.in-All-All.a) ≡ at c.args.self.now c.args.body =
    sym (ap (λ f. tree_at c.args.self.now (shape_of f)) c.in-All-All.is-0) ∙ c.form.ensures.value in
    let f : Ty.All (kind_tree c.in-All-All.k) (at c.args.self.now c.in-All-All.b) ≡ at c.args.self.now c.args.whole =
    sym (ap (λ f. tree_at c.args.self.now (shape_of f)) c.in-All-All.is-1) ∙ c.form-form.ensures.value in
    filled-all c.args.index (at c.args.self.now c.args.arg) c.is_filled-then-same_kind.result (kind_tree c.in-All-All.j) (kind_tree c.in-All-All.k)
    (at c.args.self.now c.in-All-All.a) (at c.args.self.now c.in-All-All.b) (at c.args.self.now c.args.body) (at c.args.self.now c.args.whole) e f
    (c.same_kind.ensures.same.0 c.if-same_kind.true) c.is_filled-then-same_kind.ensures

pub is_filled-returns-then-same_kind-2 : goal.is_filled-returns-then-same_kind-2
is_filled-returns-then-same_kind-2 t c =
    let e : Ty.Ex (kind_tree c.in-Ex-Ex.j) (at c.args.self.now c.in-Ex-Ex.a) ≡ at c.args.self.now c.args.body =
    sym (ap (λ f. tree_at c.args.self.now (shape_of f)) c.in-Ex-Ex.is-0) ∙ c.form.ensures.value in
    let f : Ty.Ex (kind_tree c.in-Ex-Ex.k) (at c.args.self.now c.in-Ex-Ex.b) ≡ at c.args.self.now c.args.whole =
    sym (ap (λ f. tree_at c.args.self.now (shape_of f)) c.in-Ex-Ex.is-1) ∙ c.form-form.ensures.value in
    filled-ex c.args.index (at c.args.self.now c.args.arg) c.is_filled-then-same_kind-2.result (kind_tree c.in-Ex-Ex.j) (kind_tree c.in-Ex-Ex.k)
    (at c.args.self.now c.in-Ex-Ex.a) (at c.args.self.now c.in-Ex-Ex.b) (at c.args.self.now c.args.body) (at c.args.self.now c.args.whole) e f
    (c.same_kind-in-Ex-Ex.ensures.same.0 c.if-same_kind-2.true) c.is_filled-then-same_kind-2.ensures

pub is_filled-returns-then-same_kind-3 : goal.is_filled-returns-then-same_kind-3
is_filled-returns-then-same_kind-3 t c =
    let e : Ty.Lam (kind_tree c.in-Lam-Lam.j) (at c.args.self.now c.in-Lam-Lam.a) ≡ at c.args.self.now c.args.body =
    sym (ap (λ f. tree_at c.args.self.now (shape_of f)) c.in-Lam-Lam.is-0) ∙ c.form.ensures.value in
    let f : Ty.Lam (kind_tree c.in-Lam-Lam.k) (at c.args.self.now c.in-Lam-Lam.b) ≡ at c.args.self.now c.args.whole =
    sym (ap (λ f. tree_at c.args.self.now (shape_of f)) c.in-Lam-Lam.is-1) ∙ c.form-form.ensures.value in
    filled-lam c.args.index (at c.args.self.now c.args.arg) c.is_filled-then-same_kind-3.result (kind_tree c.in-Lam-Lam.j) (kind_tree c.in-Lam-Lam.k)
    (at c.args.self.now c.in-Lam-Lam.a) (at c.args.self.now c.in-Lam-Lam.b) (at c.args.self.now c.args.body) (at c.args.self.now c.args.whole) e f
    (c.same_kind-in-Lam-Lam.ensures.same.0 c.if-same_kind-3.true) c.is_filled-then-same_kind-3.ensures

pub is_filled-returns-in-Mu-Mu : goal.is_filled-returns-in-Mu-Mu
is_filled-returns-in-Mu-Mu t c =
    let e : Ty.Mu (at c.args.self.now c.in-Mu-Mu.a) ≡ at c.args.self.now c.args.body =
    sym (ap (λ f. tree_at c.args.self.now (shape_of f)) c.in-Mu-Mu.is-0) ∙ c.form.ensures.value in
    let f : Ty.Mu (at c.args.self.now c.in-Mu-Mu.b) ≡ at c.args.self.now c.args.whole =
    sym (ap (λ f. tree_at c.args.self.now (shape_of f)) c.in-Mu-Mu.is-1) ∙ c.form-form.ensures.value in
    filled-mu c.args.index (at c.args.self.now c.args.arg) c.is_filled-in-Mu-Mu.result (at c.args.self.now c.in-Mu-Mu.a) (at c.args.self.now c.in-Mu-Mu.b)
    (at c.args.self.now c.args.body) (at c.args.self.now c.args.whole) e f c.is_filled-in-Mu-Mu.ensures

pub is_filled-returns-then-is_filled-2 : goal.is_filled-returns-then-is_filled-2
is_filled-returns-then-is_filled-2 t c =
    let e : Ty.Apply (at c.args.self.now c.in-Apply-Apply.a) (at c.args.self.now c.in-Apply-Apply.b) ≡ at c.args.self.now c.args.body =
    sym (ap (λ f. tree_at c.args.self.now (shape_of f)) c.in-Apply-Apply.is-0) ∙ c.form.ensures.value in
    let f : Ty.Apply (at c.args.self.now c.in-Apply-Apply.c) (at c.args.self.now c.in-Apply-Apply.d) ≡ at c.args.self.now c.args.whole =
    sym (ap (λ f. tree_at c.args.self.now (shape_of f)) c.in-Apply-Apply.is-1) ∙ c.form-form.ensures.value in
    filled-apply c.args.index (at c.args.self.now c.args.arg) c.is_filled-then-is_filled-2.result (at c.args.self.now c.in-Apply-Apply.a)
    (at c.args.self.now c.in-Apply-Apply.b) (at c.args.self.now c.in-Apply-Apply.c) (at c.args.self.now c.in-Apply-Apply.d) (at c.args.self.now c.args.body)
    (at c.args.self.now c.args.whole) e f (c.is_filled-in-Apply-Apply.ensures.0 c.if-is_filled-2.true) c.is_filled-then-is_filled-2.ensures

pub is_filled-returns-else-is_filled-2 : goal.is_filled-returns-else-is_filled-2
is_filled-returns-else-is_filled-2 t c =
    let e : Ty.Apply (at c.args.self.now c.in-Apply-Apply.a) (at c.args.self.now c.in-Apply-Apply.b) ≡ at c.args.self.now c.args.body =
    sym (ap (λ f. tree_at c.args.self.now (shape_of f)) c.in-Apply-Apply.is-0) ∙ c.form.ensures.value in
    let f : Ty.Apply (at c.args.self.now c.in-Apply-Apply.c) (at c.args.self.now c.in-Apply-Apply.d) ≡ at c.args.self.now c.args.whole =
    sym (ap (λ f. tree_at c.args.self.now (shape_of f)) c.in-Apply-Apply.is-1) ∙ c.form-form.ensures.value in
    filled-apart c.args.index (at c.args.self.now c.args.arg) c.is_filled-in-Apply-Apply.result (at c.args.self.now c.in-Apply-Apply.a)
    (at c.args.self.now c.in-Apply-Apply.b) (at c.args.self.now c.in-Apply-Apply.c) (at c.args.self.now c.in-Apply-Apply.d) (at c.args.self.now c.args.body)
    (at c.args.self.now c.args.whole) e f c.if-is_filled-2.false c.is_filled-in-Apply-Apply.ensures

pub is_filled-returns-in_default-2 : goal.is_filled-returns-in_default-2
is_filled-returns-in_default-2 t c =
    let e : Ty.Apply (at c.args.self.now c.in_default.field-0-0) (at c.args.self.now c.in_default.field-1-0) ≡ at c.args.self.now c.args.body =
    sym (ap (λ f. tree_at c.args.self.now (shape_of f)) c.in_default.is-0) ∙ c.form.ensures.value in
    let a = at c.args.self.now c.args.arg in (
      λ h. cc,
      λ h. absurd (no-apply c.args.self.now c.form-form.result.now (filled c.args.index a (at c.args.self.now c.in_default.field-0-0))
          (filled c.args.index a (at c.args.self.now c.in_default.field-1-0))
          (c.form-form.ensures.value ∙ (sym h ∙ at-apply c.args.index a (at c.args.self.now c.in_default.field-0-0) (at c.args.self.now c.in_default.field-1-0)
          (at c.args.self.now c.args.body) e)) c.in_default.not-Apply-1),
    )

pub is_filled-are_filled-requires : goal.is_filled-are_filled-requires
is_filled-are_filled-requires t c =
    let low : IsBelow c.args.body (Shape.Fields c.in-Fields-Fields.p.items) =
    subst (IsBelow c.args.body) (ap shape_of c.in-Fields-Fields.is-0) c.form.ensures.below in
    let high : IsBelow c.args.whole (Shape.Fields c.in-Fields-Fields.q.items) =
    subst (IsBelow c.args.whole) (ap shape_of c.in-Fields-Fields.is-1) c.form-form.ensures.below in
    let all : ArePartsBelow (length c.args.self.now) c.in-Fields-Fields.q.items =
    parts_below-more c.args.whole (length c.args.self.now) c.in-Fields-Fields.q.items (omega (arith, c.requires)) high.0 in (
      omega (arith, c.decreases),
      (
        subst (ArePartsBelow c.args.body) (sym c.as_slice.ensures.value)
            low.0,
        (c.requires.body, (c.requires.arg, subst (ArePartsBelow (length c.args.self.now)) (sym c.as_slice-in-Fields-Fields.ensures.value) all)),
      ),
    )

pub is_filled-are_filled-requires-in-Sum-Sum : goal.is_filled-are_filled-requires-in-Sum-Sum
is_filled-are_filled-requires-in-Sum-Sum t c =
    let low : IsBelow c.args.body (Shape.Sum c.in-Sum-Sum.p.items) = subst (IsBelow c.args.body) (ap shape_of c.in-Sum-Sum.is-0) c.form.ensures.below in
    let high : IsBelow c.args.whole (Shape.Sum c.in-Sum-Sum.q.items) = subst (IsBelow c.args.whole) (ap shape_of c.in-Sum-Sum.is-1) c.form-form.ensures.below in
    let all : ArePartsBelow (length c.args.self.now) c.in-Sum-Sum.q.items =
    parts_below-more c.args.whole (length c.args.self.now) c.in-Sum-Sum.q.items (omega (arith, c.requires)) high.0 in (
      omega (arith, c.decreases),
      (
        subst (ArePartsBelow c.args.body) (sym c.as_slice-in-Sum-Sum.ensures.value)
            low.0,
        (c.requires.body, (c.requires.arg, subst (ArePartsBelow (length c.args.self.now)) (sym c.as_slice-in-Sum-Sum-2.ensures.value) all)),
      ),
    )
