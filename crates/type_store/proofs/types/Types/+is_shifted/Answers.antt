use Rattle.std.proofs.Common.{◌≡◌, length, arith, sym, ap, subst, ◌∙◌}
use Rattle.omega_kinds.specs.View.{kind_tree}
use Rattle.omega_types.specs.Ty.{Ty}
use Rattle.type_store.specs.Shape.{Shape}
use Rattle.type_store.specs.Trees.{ArePartsBelow, IsBelow, at, tree_at}
use Rattle.type_store.specs.Inner.View.{shape_of}
use Rattle.type_store.proofs.CheckSteps.{shifted-all, shifted-ex, shifted-lam, shifted-long, shifted-mu}
use Rattle.type_store.proofs.TreeLaws.{parts_below-more}
use Rattle.type_store.proofs.types.Types.+is_shifted.Goals as goal

pub are_shifted-returns-then-parts-wholes : goal.are_shifted-returns-then-parts-wholes
are_shifted-returns-then-parts-wholes t c =
    (λ h. cc, λ h. absurd (c.if-parts-wholes.true (shifted-long c.args.by c.args.from c.args.self.now c.args.parts.now c.args.wholes.now h)))

pub is_shifted-returns-then-same_kind : goal.is_shifted-returns-then-same_kind
is_shifted-returns-then-same_kind t c =
    let e : Ty.All (kind_tree c.in-All-All.j) (at c.args.self.now c.in-All-All.a) ≡ at c.args.self.now c.args.number =
    sym (ap (λ f. tree_at c.args.self.now (shape_of f)) c.in-All-All.is-0) ∙ c.form.ensures.value in
    let f : Ty.All (kind_tree c.in-All-All.k) (at c.args.self.now c.in-All-All.b) ≡ at c.args.self.now c.args.whole =
    sym (ap (λ f. tree_at c.args.self.now (shape_of f)) c.in-All-All.is-1) ∙ c.form-2.ensures.value in
    shifted-all c.args.by c.args.from c.is_shifted-then-same_kind.result (kind_tree c.in-All-All.j) (kind_tree c.in-All-All.k)
    (at c.args.self.now c.in-All-All.a) (at c.args.self.now c.in-All-All.b) (at c.args.self.now c.args.number) (at c.args.self.now c.args.whole) e f
    (c.same_kind.ensures.same.0 c.if-same_kind.true) c.is_shifted-then-same_kind.ensures

pub is_shifted-returns-then-same_kind-2 : goal.is_shifted-returns-then-same_kind-2
is_shifted-returns-then-same_kind-2 t c =
    let e : Ty.Ex (kind_tree c.in-Ex-Ex.j) (at c.args.self.now c.in-Ex-Ex.a) ≡ at c.args.self.now c.args.number =
    sym (ap (λ f. tree_at c.args.self.now (shape_of f)) c.in-Ex-Ex.is-0) ∙ c.form.ensures.value in
    let f : Ty.Ex (kind_tree c.in-Ex-Ex.k) (at c.args.self.now c.in-Ex-Ex.b) ≡ at c.args.self.now c.args.whole =
    sym (ap (λ f. tree_at c.args.self.now (shape_of f)) c.in-Ex-Ex.is-1) ∙ c.form-2.ensures.value in
    shifted-ex c.args.by c.args.from c.is_shifted-then-same_kind-2.result (kind_tree c.in-Ex-Ex.j) (kind_tree c.in-Ex-Ex.k) (at c.args.self.now c.in-Ex-Ex.a)
    (at c.args.self.now c.in-Ex-Ex.b) (at c.args.self.now c.args.number) (at c.args.self.now c.args.whole) e f
    (c.same_kind-in-Ex-Ex.ensures.same.0 c.if-same_kind-2.true) c.is_shifted-then-same_kind-2.ensures

pub is_shifted-returns-then-same_kind-3 : goal.is_shifted-returns-then-same_kind-3
is_shifted-returns-then-same_kind-3 t c =
    let e : Ty.Lam (kind_tree c.in-Lam-Lam.j) (at c.args.self.now c.in-Lam-Lam.a) ≡ at c.args.self.now c.args.number =
    sym (ap (λ f. tree_at c.args.self.now (shape_of f)) c.in-Lam-Lam.is-0) ∙ c.form.ensures.value in
    let f : Ty.Lam (kind_tree c.in-Lam-Lam.k) (at c.args.self.now c.in-Lam-Lam.b) ≡ at c.args.self.now c.args.whole =
    sym (ap (λ f. tree_at c.args.self.now (shape_of f)) c.in-Lam-Lam.is-1) ∙ c.form-2.ensures.value in
    shifted-lam c.args.by c.args.from c.is_shifted-then-same_kind-3.result (kind_tree c.in-Lam-Lam.j) (kind_tree c.in-Lam-Lam.k)
    (at c.args.self.now c.in-Lam-Lam.a) (at c.args.self.now c.in-Lam-Lam.b) (at c.args.self.now c.args.number) (at c.args.self.now c.args.whole) e f
    (c.same_kind-in-Lam-Lam.ensures.same.0 c.if-same_kind-3.true) c.is_shifted-then-same_kind-3.ensures

pub is_shifted-returns-in-Mu-Mu : goal.is_shifted-returns-in-Mu-Mu
is_shifted-returns-in-Mu-Mu t c =
    let e : Ty.Mu (at c.args.self.now c.in-Mu-Mu.a) ≡ at c.args.self.now c.args.number =
    sym (ap (λ f. tree_at c.args.self.now (shape_of f)) c.in-Mu-Mu.is-0) ∙ c.form.ensures.value in
    let f : Ty.Mu (at c.args.self.now c.in-Mu-Mu.b) ≡ at c.args.self.now c.args.whole =
    sym (ap (λ f. tree_at c.args.self.now (shape_of f)) c.in-Mu-Mu.is-1) ∙ c.form-2.ensures.value in
    shifted-mu c.args.by c.args.from c.is_shifted-in-Mu-Mu.result (at c.args.self.now c.in-Mu-Mu.a) (at c.args.self.now c.in-Mu-Mu.b)
    (at c.args.self.now c.args.number) (at c.args.self.now c.args.whole) e f c.is_shifted-in-Mu-Mu.ensures

pub is_shifted-are_shifted-requires : goal.is_shifted-are_shifted-requires
is_shifted-are_shifted-requires t c =
    let low : IsBelow c.args.number (Shape.Fields c.in-Fields-Fields.p.items) =
    subst (IsBelow c.args.number) (ap shape_of c.in-Fields-Fields.is-0) c.form.ensures.below in
    let high : IsBelow c.args.whole (Shape.Fields c.in-Fields-Fields.q.items) =
    subst (IsBelow c.args.whole) (ap shape_of c.in-Fields-Fields.is-1) c.form-2.ensures.below in
    let all : ArePartsBelow (length c.args.self.now) c.in-Fields-Fields.q.items =
    parts_below-more c.args.whole (length c.args.self.now) c.in-Fields-Fields.q.items (omega (arith, c.requires)) high.0 in (
      omega (arith, c.decreases),
      (
        subst (ArePartsBelow c.args.number) (sym c.as_slice.ensures.value)
            low.0,
        (c.requires.number, subst (ArePartsBelow (length c.args.self.now)) (sym c.as_slice-in-Fields-Fields.ensures.value) all),
      ),
    )

pub is_shifted-are_shifted-requires-in-Sum-Sum : goal.is_shifted-are_shifted-requires-in-Sum-Sum
is_shifted-are_shifted-requires-in-Sum-Sum t c =
    let low : IsBelow c.args.number (Shape.Sum c.in-Sum-Sum.p.items) = subst (IsBelow c.args.number) (ap shape_of c.in-Sum-Sum.is-0) c.form.ensures.below in
    let high : IsBelow c.args.whole (Shape.Sum c.in-Sum-Sum.q.items) = subst (IsBelow c.args.whole) (ap shape_of c.in-Sum-Sum.is-1) c.form-2.ensures.below in
    let all : ArePartsBelow (length c.args.self.now) c.in-Sum-Sum.q.items =
    parts_below-more c.args.whole (length c.args.self.now) c.in-Sum-Sum.q.items (omega (arith, c.requires)) high.0 in (
      omega (arith, c.decreases),
      (
        subst (ArePartsBelow c.args.number) (sym c.as_slice-in-Sum-Sum.ensures.value)
            low.0,
        (c.requires.number, subst (ArePartsBelow (length c.args.self.now)) (sym c.as_slice-in-Sum-Sum-2.ensures.value) all),
      ),
    )
