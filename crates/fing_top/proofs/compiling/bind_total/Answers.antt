use Rattle.std.proofs.Common.{ap, arith}
use Rattle.fing_top.specs.Counts.{bind_count}
use Rattle.fing_top.proofs.Bindings.{bind_count-binds}
use Rattle.fing_top.proofs.compiling.bind_total.Goals as goal

pub returns : goal.returns
returns c =
    let items = c.program.inside.binds in
    omega (arith, c.len.ensures, items.ok.0, bind_count-binds items.items, ap bind_count c.program.view_is)
