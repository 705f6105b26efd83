use Rattle.std.proofs.Common.{Some, map, set, ap, ◌∙◌}
use Rattle.sig_definitions.specs.Explicit.SigPath.{SigPath}
use Rattle.semantic_sigs.specs.Inner.Items.{item_of}
use Rattle.sig_roots.proofs.MergeLaws.{find-put, find-kept}
use Rattle.sig_roots.proofs.walk.Walk.find.Goals as goal

pub returns-in_ok-way-clause-found : goal.returns-in_ok-way-clause-found
returns-in_ok-way-clause-found c =
    let walk = c.args.self.now in
    ap (λ (p : SigPath). set walk.found.items c.args.own (Some p)) c.in_ok-way.ensures ∙ find-put (map item_of walk.steps.items) walk.found.items c.args.own (c.lacks.ensures.0 c.if-lacks.true)

pub returns-else-lacks-clause-found : goal.returns-else-lacks-clause-found
returns-else-lacks-clause-found c =
    let walk = c.args.self.now in
    find-kept (map item_of walk.steps.items) walk.found.items c.args.own (λ e. let t = c.lacks.ensures.1 e in let f = c.if-lacks.false in cc)
