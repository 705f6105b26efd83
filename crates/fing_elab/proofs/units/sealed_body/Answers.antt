use Rattle.std.proofs.Common.{◌∙◌}
use Rattle.semantic_sigs.specs.Inner.Made.{module_of}
use Rattle.elab_rules.proofs.Given.{exit}
use Rattle.fing_syntax.specs.Inner.Leaves.{place}
use Rattle.fing_elab.proofs.Separate.{after-body, after-both, good-body, good-names, in-body, in-sealing, part-found, part-is, parts-of}
use Rattle.fing_elab.proofs.units.sealed_body.Goals as goal

pub returns-in_err-found-clause-refused : goal.returns-in_err-found-clause-refused
returns-in_err-found-clause-refused c =
    exit _ c.from_residual.result c.in_err-found.field-0.0 c.from_residual.ensures.1 (in-body (place c.args.at) c.args.by.now c.in_err-found.ensures.refused)

pub sealed_name-requires : goal.sealed_name-requires
sealed_name-requires c =
    let m = module_of c.in_ok-found.found in
    good-body c.args.body.now m (after-body c.in_ok-sealing.sealing m c.in_ok-found.ensures.same c.in_ok-sealing.ensures c.in_ok-push_interface.ensures) c.requires c.in_ok-found.ensures.given

pub returns-in_err-made-clause-refused : goal.returns-in_err-made-clause-refused
returns-in_err-made-clause-refused c =
    let m = module_of c.in_ok-found.found in
    let inner = after-body c.in_ok-sealing.sealing m c.in_ok-found.ensures.same c.in_ok-sealing.ensures c.in_ok-push_interface.ensures in
    exit _ c.from_residual-in_err-made.result c.in_err-made.field-0.0 c.from_residual-in_err-made.ensures.1
    (in-sealing c.args.body.now m c.in_ok-sealing.sealing inner c.in_ok-sealing.ensures c.in_ok-found.ensures.given c.in_err-made.ensures.refused)

pub end_of-requires : goal.end_of-requires
end_of-requires c =
    let m = module_of c.in_ok-found.found in
    let n = module_of c.in_ok-made.made in
    let inner = after-body c.in_ok-sealing.sealing m c.in_ok-found.ensures.same c.in_ok-sealing.ensures c.in_ok-push_interface.ensures in
    let outer = after-both c.args.env.now c.in_ok-target.target m n (c.in_ok-made.ensures.same ∙ inner) c.in_ok-target.ensures c.in_ok-push_interface-2.ensures in
    good-names c.args.env.now c.in_ok-share.field-0 c.in_ok-sealing.sealing m n outer (c.in_ok-share.ensures ∙ c.in_ok-target.ensures) c.in_ok-sealing.ensures

pub want-requires : goal.want-requires
want-requires c =
    let m = module_of c.in_ok-found.found in
    let n = module_of c.in_ok-made.made in
    let e = c.in_ok-end.ensures in
    let inner = after-body c.in_ok-sealing.sealing m c.in_ok-found.ensures.same c.in_ok-sealing.ensures c.in_ok-push_interface.ensures in
    let outer = after-both c.args.env.now c.in_ok-target.target m n (c.in_ok-made.ensures.same ∙ inner) c.in_ok-target.ensures c.in_ok-push_interface-2.ensures in
    let parts = parts-of c.in_ok-sealing.sealing c.in_ok-share.field-0 m n (module_of c.in_ok-end.end) e.0 e.1 c.requires c.in_ok-found.ensures.given c.in_ok-sealing.ensures inner c.in_ok-made.ensures.given (c.in_ok-share.ensures ∙ c.in_ok-target.ensures) outer e.2 e.3 in
    part-found c.in_ok-target.target c.in_ok-target.ensures parts c.in-Err.refusal c.in-Err.ensures.refused

pub returns-in-Ok-clause-given : goal.returns-in-Ok-clause-given
returns-in-Ok-clause-given c =
    let m = module_of c.in_ok-found.found in
    let n = module_of c.in_ok-made.made in
    let e = c.in_ok-end.ensures in
    let inner = after-body c.in_ok-sealing.sealing m c.in_ok-found.ensures.same c.in_ok-sealing.ensures c.in_ok-push_interface.ensures in
    let outer = after-both c.args.env.now c.in_ok-target.target m n (c.in_ok-made.ensures.same ∙ inner) c.in_ok-target.ensures c.in_ok-push_interface-2.ensures in
    let parts = parts-of c.in_ok-sealing.sealing c.in_ok-share.field-0 m n (module_of c.in_ok-end.end) e.0 e.1 c.requires c.in_ok-found.ensures.given c.in_ok-sealing.ensures inner c.in_ok-made.ensures.given (c.in_ok-share.ensures ∙ c.in_ok-target.ensures) outer e.2 e.3 in
    part-is c.in_ok-target.target c.in_ok-target.ensures parts c.in-Ok.ensures.given

pub returns-in-Ok-clause-same : goal.returns-in-Ok-clause-same
returns-in-Ok-clause-same c =
    let back = c.leave_interface.ensures c.sealed_name.new.env c.in_ok-target.target c.in_ok-push_interface-2.ensures ∙ (c.in_ok-made.ensures.same ∙ c.in_ok-push_interface.ensures) in
    c.leave_interface-2.ensures c.module_in.new.env c.in_ok-sealing.sealing back ∙ c.in_ok-found.ensures.same
