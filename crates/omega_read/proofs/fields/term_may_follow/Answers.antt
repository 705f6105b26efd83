use Rattle.std.proofs.Common.{◌≡◌, Some, refl, ap, sym, ◌∙◌}
use Rattle.omega_read.specs.Inner.Onto.{last_of}
use Rattle.omega_read.proofs.Record.{last_get}
use Rattle.omega_read.proofs.fields.term_may_follow.Goals as goal

pub returns-in-Some : goal.returns-in-Some
returns-in-Some c =
    let last = last_get c.items.result.now c.in-Some.latest.now (sym c.in-Some.ensures.value) in
    let same : last_of c.args.fields.now ≡ Some c.in-Some.latest.now.0 = ap last_of (sym c.items.ensures.value) ∙ last in
    rw (same, c.is_lt.ensures, c.compare.ensures.value) refl
