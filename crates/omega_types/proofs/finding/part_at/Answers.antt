use Rattle.std.proofs.Common.{rules, sym}
use Rattle.std.proofs.lemmas.Fn.{always_returns_same}
use Rattle.omega_kinds.specs.LabelOrder.{label_cmp}
use Rattle.omega_types.proofs.Seeking.{sought-at, sought-not}
use Rattle.omega_types.proofs.finding.part_at.Goals as goal

pub returns-in-Ok : goal.returns-in-Ok
returns-in-Ok g c =
    let xs = c.args.fields.now in
    let l = c.args.label.now in
    let d = c.index-fields-at.result in
    let found = c.in-Ok.ensures.position (λ x. label_cmp x.0 l) (always_returns_same _ _ _ (λ a r f k. search rules)) in
    sym (sought-at xs l c.in-Ok.at c.requires c.in-Ok.ensures.bound found d)

pub returns-in-Err : goal.returns-in-Err
returns-in-Err g c =
    let xs = c.args.fields.now in
    let l = c.args.label.now in
    let parted = c.in-Err.ensures.position (λ x. label_cmp x.0 l) (always_returns_same _ _ _ (λ a r f k. search rules)) in
    sym (sought-not xs l c.in-Err.field-0 c.requires parted)
