use Rattle.std.proofs.Common.{◌≡◌, ◌-◌, length, map, take, inl, inr, refl, sym, ap, ◌∙◌, arith}
use Rattle.std.proofs.lemmas.Grind.{common_steps}
use Rattle.sig_definitions.specs.Explicit.SigPath.{Item}
use Rattle.sig_definitions.specs.Signatures.Sig.{Sig}
use Rattle.semantic_sigs.specs.Inner.Items.{item_of}
use Rattle.semantic_sigs.specs.Inner.View.{sig_of}
use Rattle.semantic_sigs.specs.declared.path.Item.TheVariants as step
use Rattle.sig_roots.proofs.WalkLaws.{sig-none, fields-step, fields-end, result-step}
use Rattle.sig_roots.proofs.walk.Walk.+visit.Goals as goal

pub visit-returns-in-Impure-clause-found : goal.visit-returns-in-Impure-clause-found
visit-returns-in-Impure-clause-found t c =
    let walk = c.args.self.now in
    sig-none (map item_of walk.steps.items) c.args.bar c.args.depth c.args.sig.now _ walk.found.items (sym c.node.ensures ∙ (ap sig_of c.in-Fun.is ∙ ap (λ e. Sig.Fun e c.in-Fun.kinds c.in-Fun.param c.in-Fun.result) c.in-Impure.is)) (λ own. refl)

pub visit-returns-in-Val-clause-found : goal.visit-returns-in-Val-clause-found
visit-returns-in-Val-clause-found t c =
    let walk = c.args.self.now in
    elim c.in-Val.is [
      | inl p ↦ sig-none (map item_of walk.steps.items) c.args.bar c.args.depth c.args.sig.now _ walk.found.items (sym c.node.ensures ∙ ap sig_of p.1) (λ own. refl)
      | inr p ↦ sig-none (map item_of walk.steps.items) c.args.bar c.args.depth c.args.sig.now _ walk.found.items (sym c.node.ensures ∙ ap sig_of p.1) (λ own. refl)
    ]

pub visit-returns-in-Val-2-clause-found : goal.visit-returns-in-Val-2-clause-found
visit-returns-in-Val-2-clause-found t c =
    let walk = c.args.self.now in
    elim c.in-Val.is [
      | inl p ↦ sig-none (map item_of walk.steps.items) c.args.bar c.args.depth c.args.sig.now _ walk.found.items (sym c.node.ensures ∙ ap sig_of p.1) (λ own. refl)
      | inr p ↦ sig-none (map item_of walk.steps.items) c.args.bar c.args.depth c.args.sig.now _ walk.found.items (sym c.node.ensures ∙ ap sig_of p.1) (λ own. refl)
    ]

pub visit_fields-loop-field-preserved : goal.visit_fields-loop-field-preserved
visit_fields-loop-field-preserved t c =
    let count : c.visit.new.self.steps.len ≡ length c.visit.new.self.steps.items = omega (arith, c.visit.new.self.steps.ok) in
    let q = fields-step c.args.self.now.steps.items c.loop-field.self.steps.items c.push.new.self.items c.visit.new.self.steps.items c.pop.new.self.items (step.Part c.in_ok-share.field-0) c.args.bar c.args.depth c.items-field-items.result.now c.loop-field.field-index c.field-item.result c.loop-field.self.found.items c.visit.new.self.found.items _ c.loop-field.invariant.0 c.in_ok-push.ensures.items (ap Item.Part c.in_ok-share.ensures) c.in_ok-visit.ensures.steps (c.pop.ensures.rest ∙ ap (λ n. take (n - 1) c.visit.new.self.steps.items) count) c.loop-field-test.true c.field-item.is c.in_ok-visit.ensures.found c.loop-field.invariant.1 in
    (q.0, q.1, grind (arith, common_steps, c.loop-field.invariant.2))

pub visit_fields-returns-clause-found : goal.visit_fields-returns-clause-found
visit_fields-returns-clause-found t c =
    let walk = c.args.self.now in
    fields-end (map item_of walk.steps.items) c.args.bar c.args.depth c.items-field-items.result.now c.args.fields.now c.loop-field.field-index walk.found.items c.loop-field.self.found.items c.loop-field-test.false c.items-field-items.ensures.value c.loop-field.invariant.1

pub visit_result-returns-clause-found : goal.visit_result-returns-clause-found
visit_result-returns-clause-found t c =
    let walk = c.args.self.now in
    let count : c.visit.new.self.steps.len ≡ length c.visit.new.self.steps.items = omega (arith, c.visit.new.self.steps.ok) in
    (result-step walk.steps.items c.push.new.self.items c.visit.new.self.steps.items c.pop.new.self.items step.Res c.args.bar c.args.depth c.args.target.now c.body.result.now walk.found.items c.visit.new.self.found.items c.in_ok-push.ensures.items refl c.in_ok-visit.ensures.steps (c.pop.ensures.rest ∙ ap (λ n. take (n - 1) c.visit.new.self.steps.items) count) c.body.ensures c.in_ok-visit.ensures.found).1
