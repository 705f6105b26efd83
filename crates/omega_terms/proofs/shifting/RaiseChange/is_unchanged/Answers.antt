use Rattle.omega_terms.proofs.Raises.{raises-nothing}
use Rattle.omega_terms.proofs.shifting.RaiseChange.is_unchanged.Goals as goal

pub returns-then-is_kept : goal.returns-then-is_kept
returns-then-is_kept c kept =
    raises-nothing c.args.self.now.types c.args.self.now.terms c.args.inner.types c.args.inner.terms c.type_bound.result c.term_bound.result c.args.term.now c.type_bound.ensures c.term_bound.ensures (c.is_kept.ensures c.if-is_kept.true) (c.is_kept-then-is_kept.ensures kept)
