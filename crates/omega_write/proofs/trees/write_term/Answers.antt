use Rattle.std.proofs.Common.{ℕ, List, subst, arith}
use Rattle.fing_text.specs.Writes.{Wrote}
use Rattle.omega_write.proofs.CountedTexts.{term-counted}
use Rattle.omega_write.proofs.trees.write_term.Goals as goal

pub returns : goal.returns
returns g c =
    subst (λ (w : List ℕ). Wrote (g.K.Sink.told c.args.sink.now) (g.K.Sink.told c.write_expression.new.sink) w c.write_expression.result) (term-counted c.args.types c.args.terms c.args.types c.args.terms c.args.term.now (omega arith) (omega arith) c.requires) c.write_expression.ensures
