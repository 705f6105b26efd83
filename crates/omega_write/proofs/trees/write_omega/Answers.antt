use Rattle.std.proofs.Common.{ℕ, List, refl, subst, ap₂}
use Rattle.std.specs.Prelude.{codes}
use Rattle.fing_text.specs.Writes.{Wrote}
use Rattle.omega_kinds.specs.Text.{◌then◌}
use Rattle.omega_write.proofs.CountedTexts.{ty-counted, term-counted}
use Rattle.omega_write.proofs.trees.write_omega.Goals as goal

pub returns : goal.returns
returns g c =
    let lines = ap₂ (λ (v w : List ℕ). codes "omega 2\n" then v then codes "\n" then w then codes "\n") (ty-counted 0 0 c.args.ty.now refl c.requires.ty) (term-counted 0 0 0 0 c.args.term.now refl refl c.requires.term) in
    subst (λ (w : List ℕ). Wrote (g.K.Sink.told c.args.sink.now) (g.K.Sink.told c.write_pieces.new.sink) w c.write_pieces.result) lines c.write_pieces.ensures
