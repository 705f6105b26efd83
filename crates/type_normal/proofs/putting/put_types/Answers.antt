use Rattle.std.proofs.Common.{ap, ◌∙◌}
use Rattle.type_normal.specs.Inner.Heads.{putting, sunk, ty_in}
use Rattle.type_normal.proofs.HeadLaws.{ty-put}
use Rattle.type_normal.proofs.putting.put_types.Goals as goal

pub returns-clause-normal : goal.returns-clause-normal
returns-clause-normal c =
    ty-put c.args.depth c.args.types.now c.args.ty.now c.as_normal.result (c.as_normal.ensures ∙ (c.in_ok-place.ensures ∙ ap (ty_in (sunk c.args.depth (putting c.args.types.now))) c.plain.ensures))
