use Rattle.std.proofs.Common.{refl, subst}
use Rattle.fing_top.specs.Inner.Compiled.{IsEmission}
use Rattle.fing_top.specs.declared.status.Status.TheVariants as status
use Rattle.fing_top.proofs.Answering.{wrote_reply}
use Rattle.fing_top.proofs.emitting.put_emission.Goals as goal

pub returns-in-Ok : goal.returns-in-Ok
returns-in-Ok g c = λ command bytes emission.
    let reply = subst (IsEmission command bytes) c.in-Ok.is emission in
    wrote_reply command bytes status.Ok _ _ _ _ c.put_checked-wrote.result c.status_of.result tt
    reply refl c.put_checked-wrote.ensures c.status_of.ensures

pub returns-in-Err : goal.returns-in-Err
returns-in-Err g c = λ command bytes emission.
    let reply = subst (IsEmission command bytes) c.in-Err.is emission in
    wrote_reply command bytes status.Refused _ _ _ _ c.write_line.result c.status_of-in-Err.result tt
    (reply (c.if-has_short_line.ensures refl)) refl c.write_line.ensures c.status_of-in-Err.ensures
