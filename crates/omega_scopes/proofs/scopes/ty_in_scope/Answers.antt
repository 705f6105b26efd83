use Rattle.omega_scopes.proofs.ScopeTests.{ty-tells, ty-told}
use Rattle.omega_scopes.proofs.scopes.ty_in_scope.Goals as goal

pub returns-clause-sound : goal.returns-clause-sound
returns-clause-sound c = ty-tells c.args.types c.args.ty.now c.fits_ty.result c.ranges.types.fits c.fits_ty.ensures

pub returns-clause-complete : goal.returns-clause-complete
returns-clause-complete c = ty-told c.args.types c.args.ty.now c.fits_ty.result c.fits_ty.ensures
