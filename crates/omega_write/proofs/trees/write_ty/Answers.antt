use Rattle.std.proofs.Common.{ℕ, List, subst, arith}
use Rattle.fing_text.specs.Writes.{Wrote}
use Rattle.omega_write.proofs.CountedTexts.{ty-counted}
use Rattle.omega_write.proofs.trees.write_ty.Goals as goal

pub returns : goal.returns
returns g c =
    subst (λ (w : List ℕ). Wrote (g.K.Sink.told c.args.sink.now) (g.K.Sink.told c.write_type.new.sink) w c.write_type.result) (ty-counted c.args.types c.args.types c.args.ty.now (omega arith) c.requires) c.write_type.ensures
