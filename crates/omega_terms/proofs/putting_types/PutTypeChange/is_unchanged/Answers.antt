use Rattle.omega_terms.proofs.Puts.{puts-no_type}
use Rattle.omega_terms.proofs.putting_types.PutTypeChange.is_unchanged.Goals as goal

pub returns : goal.returns
returns c below =
    puts-no_type c.args.self.now.index c.args.self.now.arg.now c.args.inner.types c.args.inner.terms c.args.term.now (c.is_below.ensures below)
