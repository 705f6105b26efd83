use Rattle.std.proofs.Common.{refl, sym}
use Rattle.std.proofs.lemmas.Result.{IfOk-weaker}
use Rattle.omega_terms.proofs.AtLabel.{field-found, no-field}
use Rattle.omega_machine.proofs.Canonical.{no-record}
use Rattle.omega_machine.proofs.Reduced.{get-step, get-field}
use Rattle.omega_machine.proofs.redexes.get.Goals as goal

pub unreachable-requires : goal.unreachable-requires
unreachable-requires c =
    no-record c.node.result.now c.args.whole.now c.args.label.now c.node.ensures c.requires.typed c.requires.whole c.in_default.not-Fields

pub returns : goal.returns
returns c =
    let fields = c.in-Fields.fields in
    let found = field-found fields c.args.label.now c.in-Some.part.now (sym c.in-Some.ensures) in
    IfOk-weaker _ _ _ (λ e g. get-step c.node.result.now fields fields c.args.whole.now c.args.label.now c.in-Some.part.now e c.in-Fields.is c.node.ensures refl c.requires.whole found g) c.share.ensures

pub unreachable-requires-in-None : goal.unreachable-requires-in-None
unreachable-requires-in-None c =
    let fields = c.in-Fields.fields in
    let part = get-field c.node.result.now fields fields c.args.whole.now c.args.label.now c.in-Fields.is c.node.ensures refl c.requires.whole c.requires.typed in
    no-field fields c.args.label.now (sym c.in-None.ensures) part.0 part.1
