use Rattle.fing_syntax.specs.Inner.Leaves.{place}
use Rattle.elab_rules.proofs.Given.{err-map, ok-map}
use Rattle.fing_elab.proofs.units.sealed_name.Goals as goal

pub returns-clause-given : goal.returns-clause-given
returns-clause-given c = ok-map c.sealed_in.result c.sealed_in.ensures.given (λ m p. rw c.in_ok-name.ensures at (p (place c.args.at)))

pub returns-clause-refused : goal.returns-clause-refused
returns-clause-refused c = err-map c.sealed_in.result c.sealed_in.ensures.refused (λ e h. rw c.in_ok-name.ensures at (h (place c.args.at)))
