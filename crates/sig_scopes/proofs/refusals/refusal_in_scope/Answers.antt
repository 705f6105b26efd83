use Rattle.std.proofs.Common.{arith}
use Rattle.fing_syntax.specs.Inner.Leaves.{place}
use Rattle.fing_refusals.specs.Inner.Plain.{plain_reason}
use Rattle.sig_scopes.proofs.SigScopes.{line-tells, line-told}
use Rattle.sig_scopes.proofs.refusals.refusal_in_scope.Goals as goal

pub returns-clause-sound : goal.returns-clause-sound
returns-clause-sound c =
    let r = c.args.refusal.now in
    line-tells (place r.at) r.types (plain_reason r.why) c.fits_reason.result (omega arith) c.fits_reason.ensures

pub returns-clause-complete : goal.returns-clause-complete
returns-clause-complete c =
    let r = c.args.refusal.now in
    line-told (place r.at) r.types (plain_reason r.why) c.fits_reason.result c.fits_reason.ensures
