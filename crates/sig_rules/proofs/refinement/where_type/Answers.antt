use Rattle.std.proofs.Common.{◌<◌, length, map, sym, ◌∙◌}
use Rattle.std.proofs.lemmas.Bool.{false≢true}
use Rattle.omega_kinds.specs.View.{kind_tree}
use Rattle.sig_rules.specs.Inner.Hidden.{IsOwn, NotOwn}
use Rattle.sig_rules.proofs.Fixing.{kind-refuses, kind_at-shared, leaves-refuses, mapped, not_own-refuses, refined-by, when-none, when-some}
use Rattle.sig_rules.proofs.refinement.where_type.Goals as goal

pub returns-in-Err-clause-refused : goal.returns-in-Err-clause-refused
returns-in-Err-clause-refused c = leaves-refuses c.args.sig.now c.body.result.now c.args.path.now c.args.ty.now.ty (kind_tree c.args.ty.now.kind) c.in-Err.name.now c.in_ok-share-in-Err.field-0 c.body.ensures c.in-Err.ensures c.in_ok-share-in-Err.ensures

pub returns-in_default-clause-refused : goal.returns-in_default-clause-refused
returns-in_default-clause-refused c =
    let items = c.items-kinds.result.now in
    let ks = map kind_tree items in
    let shown = c.in-Ok.shown.now in
    let none = when-none c.in_ok-place.field-0 (NotOwn ks shown) (λ p. (p < length items) × IsOwn ks p shown) c.in_default.is c.in_ok-place.ensures in
    not_own-refuses c.args.sig.now c.body.result.now ks shown c.args.path.now c.args.ty.now.ty (kind_tree c.args.ty.now.kind) c.in_ok-parts.field-0 c.body.ensures (c.items-kinds.ensures ∙ c.kinds.ensures) c.in-Ok.ensures none c.in_ok-parts.ensures

pub returns-then-not-same_kind-clause-refused : goal.returns-then-not-same_kind-clause-refused
returns-then-not-same_kind-clause-refused c =
    let items = c.items-kinds.result.now in
    let ks = map kind_tree items in
    let shown = c.in-Ok.shown.now in
    let p = c.in-Some.place in
    let own = c.index-kinds-place.result in
    let w = when-some c.in_ok-place.field-0 p (NotOwn ks shown) (λ q. (q < length items) × IsOwn ks q shown) c.in-Some.is c.in_ok-place.ensures in
    kind-refuses c.args.sig.now c.body.result.now ks p shown c.args.path.now c.args.ty.now.ty (kind_tree c.args.ty.now.kind) (kind_tree own) (kind_tree c.in_ok-share.field-0) (kind_tree c.in_ok-share-2.field-0) c.body.ensures (c.items-kinds.ensures ∙ c.kinds.ensures) (mapped items p w.0) c.in-Ok.ensures w.1 (kind_at-shared items p own w.0 c.index-kinds-place.is) (λ e. false≢true (sym c.if-not-same_kind.true ∙ c.same_kind.ensures.same.1 e)) c.in_ok-share.ensures c.in_ok-share-2.ensures

pub returns-clause-given : goal.returns-clause-given
returns-clause-given c =
    let items = c.items-kinds.result.now in
    let ks = map kind_tree items in
    let shown = c.in-Ok.shown.now in
    let p = c.in-Some.place in
    let own = c.index-kinds-place.result in
    let w = when-some c.in_ok-place.field-0 p (NotOwn ks shown) (λ q. (q < length items) × IsOwn ks q shown) c.in-Some.is c.in_ok-place.ensures in
    λ ctx n m. refined-by ctx c.args.sig.now c.body.result.now ks p shown c.args.path.now c.args.ty.now.ty (kind_tree c.args.ty.now.kind) (kind_tree own) c.in_ok-fixed.field-0 c.body.ensures (c.items-kinds.ensures ∙ c.kinds.ensures) (mapped items p w.0) c.in-Ok.ensures w.1 (kind_at-shared items p own w.0 c.index-kinds-place.is) (c.same_kind.ensures.same.0 c.if-not-same_kind.false) c.in_ok-fixed.ensures n m
