use Rattle.omega_terms.proofs.Puts.{puts-no_term}
use Rattle.omega_terms.proofs.putting_terms.PutTermChange.is_unchanged.Goals as goal

pub returns : goal.returns
returns c below =
    puts-no_term c.args.self.now.index c.args.self.now.arg.now c.args.inner.types c.args.inner.terms c.args.term.now (c.is_below.ensures below)
