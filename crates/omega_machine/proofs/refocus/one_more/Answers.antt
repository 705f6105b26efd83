use Rattle.std.proofs.Common.{◌≡◌, sym, ◌∙◌, subst, length, get_or}
use Rattle.omega_machine.proofs.Moved.{fields-are, one-more, may-follow, not-more, at-done}
use Rattle.omega_machine.proofs.refocus.one_more.Goals as goal

pub unreachable-requires-in_default-get : goal.unreachable-requires-in_default-get
unreachable-requires-in_default-get c =
    let fs = fields-are c.node.result.now _ c.args.whole.now c.in-Fields.is c.node.ensures ∙ sym c.items.ensures.value in
    not-more c.args.whole.now c.args.done c.items.result.now c.items-2.result.now fs c.items-2.ensures.value c.requires.more c.in_default-get.ensures.lookup.3

pub push-requires : goal.push-requires
push-requires c =
    let fs = fields-are c.node.result.now _ c.args.whole.now c.in-Fields.is c.node.ensures ∙ sym c.items.ensures.value in
    let h = c.in-Some.ensures.lookup in
    let p = at-done c.args.done c.items-2.result.now c.items.result.now c.in-Some.field.now c.items-2.ensures.value h.3.0 h.1 in
    may-follow c.args.whole.now c.args.done c.items.result.now c.in-Some.field.now c.in_ok-share.field-0 c.requires.begun fs c.items.ensures.rising p.0 p.1 c.in_ok-share.ensures

pub returns : goal.returns
returns c =
    let fs = fields-are c.node.result.now _ c.args.whole.now c.in-Fields.is c.node.ensures ∙ sym c.items.ensures.value in
    let h = c.in-Some.ensures.lookup in
    let p = at-done c.args.done c.items-2.result.now c.items.result.now c.in-Some.field.now c.items-2.ensures.value h.3.0 h.1 in
    one-more c.args.whole.now c.args.done c.push.new.self c.in-Some.field.now c.in_ok-share.field-0 c.args.value c.requires.begun c.requires.more (subst (λ xs. c.in-Some.field.now ≡ get_or xs (length c.args.done) c.in-Some.field.now) (sym fs) p.1) c.in_ok-share.ensures c.requires.value c.in_ok-push.ensures.ok
