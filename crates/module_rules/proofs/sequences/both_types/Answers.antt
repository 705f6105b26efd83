use Rattle.std.proofs.Common.{sym, ◌∙◌, ap, append-nil, map}
use Rattle.semantic_sigs.specs.Inner.Changes.{ty_in, putting}
use Rattle.module_rules.proofs.Own.{pushed-next, pushed-done}
use Rattle.module_rules.proofs.sequences.both_types.Goals as goal

pub loop-ty-init : goal.loop-ty-init
loop-ty-init c = c.in_ok-types.ensures ∙ sym (append-nil c.args.first.now)

pub loop-ty-preserved : goal.loop-ty-preserved
loop-ty-preserved c =
    pushed-next (ty_in (putting c.args.first.now)) c.args.first.now c.loop-ty.types c.push.new.self c.items-ty-items.result.now c.loop-ty.ty-index c.ty-item.result c.in_ok-put.put c.loop-ty-test.true c.ty-item.is (c.in_ok-put.ensures.value ∙ ap (λ ts. ty_in (putting ts) c.ty-item.result) c.items.ensures) c.loop-ty.invariant c.in_ok-push.ensures.ok

pub returns : goal.returns
returns c =
    pushed-done (ty_in (putting c.args.first.now)) c.args.first.now c.loop-ty.types (map (ty_in (putting c.args.first.now)) c.args.rest.now) c.items-ty-items.result.now c.loop-ty.ty-index c.loop-ty-test.false c.loop-ty.invariant (ap (map (ty_in (putting c.args.first.now))) c.items-ty-items.ensures)
