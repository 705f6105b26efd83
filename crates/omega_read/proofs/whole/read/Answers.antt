use Rattle.std.proofs.Common.{sym, ◌∙◌}
use Rattle.std.specs.Prelude.{Ok}
use Rattle.omega_read.proofs.Wholes.{whole_ok}
use Rattle.omega_read.proofs.Scopes.{read_scope}
use Rattle.omega_read.proofs.whole.read.Goals as goal

pub returns-in-Ok-clause-answer : goal.returns-in-Ok-clause-answer
returns-in-Ok-clause-answer c = whole_ok c.args.bytes.now c.in-Ok.read (sym c.too_deep.ensures ∙ c.if-too_deep.false) c.in-Ok.ensures

pub returns-in-Ok-clause-scope : goal.returns-in-Ok-clause-scope
returns-in-Ok-clause-scope c = read_scope c.args.bytes.now (Ok c.in-Ok.read) (whole_ok c.args.bytes.now c.in-Ok.read (sym c.too_deep.ensures ∙ c.if-too_deep.false) c.in-Ok.ensures)
