use Rattle.std.proofs.Common.{◌≡◌, refl, sym, ap, ap₂, ◌∙◌, subst}
use Rattle.std.proofs.lemmas.Result.{IfOk-weaker}
use Rattle.omega_types.specs.Index.{bump}
use Rattle.semantic_sigs.specs.declared.tree.Abs.{Abs as CodeAbs}
use Rattle.semantic_sigs.specs.declared.tree.SigNode.{SigNode}
use Rattle.semantic_sigs.specs.declared.tree.SigNode.TheVariants as node
use Rattle.semantic_sigs.specs.Inner.View.{sig_of}
use Rattle.sig_definitions.specs.Signatures.Sig.{Sig, Abs}
use Rattle.sig_definitions.specs.Signatures.SigSize.{size_abs}
use Rattle.sig_definitions.specs.Signatures.SigSubst.{rename_abs}
use Rattle.sig_match.specs.Inner.Put.{EachPutUnder}
use Rattle.sig_match.proofs.PutSteps.{held-by, result-put, result-held, result-size}
use Rattle.sig_match.proofs.putting.result_at.Goals as goal

no-meta : (n : SigNode) → ((x : CodeAbs) → n ≡ node.Meta x → ⊥) → (y : Abs) → sig_of n ≡ Sig.Meta y → ⊥
no-meta (node.Val t) h y e = cc
no-meta (node.Typ t k) h y e = cc
no-meta (node.Meta x) h y e = h x refl
no-meta (node.Str fs) h y e = cc
no-meta (node.Fun e ks s x) h y g = cc

pub unreachable-requires : goal.unreachable-requires
unreachable-requires c =
    let f = c.args.functor.now in
    let e = c.in_ok-raised.ensures.value ∙ ap (rename_abs (bump c.args.by 0)) (c.in_ok-abs.ensures ∙ ap₂ Abs.Ex c.in_ok-share-2.ensures (c.in_ok-held.ensures ∙ ap Sig.Meta c.in_ok-share.ensures)) in
    let h = held-by c.args.by f.kinds.now f.target.now c.in_ok-raised.raised c.args.types.now c.items.result.now c.in_ok-at.at e c.items.ensures c.in_ok-at.ensures.normal in
    result-held c.args.by f.kinds.now f.target.now c.args.types.now c.in_ok-at.at c.requires h (λ y g. no-meta c.node.result.now c.in_default.not-Meta y (c.node.ensures ∙ g))

pub returns-clause-at : goal.returns-clause-at
returns-clause-at c =
    let f = c.args.functor.now in
    let e = c.in_ok-raised.ensures.value ∙ ap (rename_abs (bump c.args.by 0)) (c.in_ok-abs.ensures ∙ ap₂ Abs.Ex c.in_ok-share-2.ensures (c.in_ok-held.ensures ∙ ap Sig.Meta c.in_ok-share.ensures)) in
    let h = held-by c.args.by f.kinds.now f.target.now c.in_ok-raised.raised c.args.types.now c.items.result.now c.in_ok-at.at e c.items.ensures c.in_ok-at.ensures.normal in
    let g = result-put c.args.by f.kinds.now f.target.now c.in-Meta.target c.args.types.now c.in_ok-at.at h (sym c.node.ensures ∙ ap sig_of c.in-Meta.is) in
    IfOk-weaker _ _ _ (λ y q. subst (EachPutUnder c.args.by f.kinds.now f.target.now c.args.types.now) (sym q) g) c.share-in-Meta.ensures

pub returns-clause-size : goal.returns-clause-size
returns-clause-size c =
    let f = c.args.functor.now in
    let e = c.in_ok-raised.ensures.value ∙ ap (rename_abs (bump c.args.by 0)) (c.in_ok-abs.ensures ∙ ap₂ Abs.Ex c.in_ok-share-2.ensures (c.in_ok-held.ensures ∙ ap Sig.Meta c.in_ok-share.ensures)) in
    let h = held-by c.args.by f.kinds.now f.target.now c.in_ok-raised.raised c.args.types.now c.items.result.now c.in_ok-at.at e c.items.ensures c.in_ok-at.ensures.normal in
    let g = result-put c.args.by f.kinds.now f.target.now c.in-Meta.target c.args.types.now c.in_ok-at.at h (sym c.node.ensures ∙ ap sig_of c.in-Meta.is) in
    let s = result-size c.args.by f.kinds.now f.target.now c.in-Meta.target c.args.types.now c.requires g in
    IfOk-weaker c.share-in-Meta.result (λ y. y ≡ c.in-Meta.target) (λ y. size_abs y ≡ size_abs f.target.now) (λ y q. ap size_abs q ∙ s) c.share-in-Meta.ensures
