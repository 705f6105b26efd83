use Rattle.omega_scopes.proofs.ScopeTests.{term-tells, term-told}
use Rattle.omega_scopes.proofs.scopes.term_in_scope.Goals as goal

pub returns-clause-sound : goal.returns-clause-sound
returns-clause-sound c =
    term-tells c.args.types c.args.terms c.args.term.now c.fits_term.result c.ranges.types.fits c.ranges.terms.fits c.fits_term.ensures

pub returns-clause-complete : goal.returns-clause-complete
returns-clause-complete c =
    term-told c.args.types c.args.terms c.args.term.now c.fits_term.result c.fits_term.ensures
