use Rattle.std.proofs.Common.{ap, map, ◌∙◌}
use Rattle.omega_kinds.specs.View.{kind_tree}
use Rattle.fing_syntax.specs.Inner.Leaves.{place, spelled}
use Rattle.fing_syntax.specs.Place.{ty_span}
use Rattle.sig_rules.specs.Inner.Plain.{plain_why}
use Rattle.elab_rules.proofs.LeftPaths.{by-where}
use Rattle.elab_rules.proofs.signature_rules.where_rule.Goals as goal

pub returns-clause-refused : goal.returns-clause-refused
returns-clause-refused c =
    let a = c.args in
    let refused = rw (c.items.ensures ∙ c.in_ok-names.ensures) at c.in-Err.ensures.refused in
    by-where (plain_why c.in-Err.why) a.env.now a.sig.now c.body.result.now (spelled a.first.now) (map spelled a.rest.now) a.by.now a.ty.now.ty (kind_tree a.ty.now.kind) (place c.where_place-at.result) (place c.by.inside.span) c.sig_refusal.result c.body.ensures (ap ty_span c.by.view_is) refused c.where_place-at.ensures c.sig_refusal.ensures
