use Rattle.sig_scopes.proofs.SigScopes.{abs-tells, abs-told}
use Rattle.sig_scopes.proofs.walks.abs_in_scope.Goals as goal

pub returns-clause-sound : goal.returns-clause-sound
returns-clause-sound c = abs-tells c.args.types c.args.abs.now c.fits_abs.result c.fits_abs.ensures

pub returns-clause-complete : goal.returns-clause-complete
returns-clause-complete c = abs-told c.args.types c.args.abs.now c.fits_abs.result c.fits_abs.ensures
