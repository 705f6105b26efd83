use Rattle.std.proofs.Common.{arith}
use Rattle.std.proofs.lemmas.Grind.{common_steps}
use Rattle.fing_gen.proofs.Length.{short_source}
use Rattle.fing_top.proofs.top.taken.Goals as goal

pub returns-in-Gen-clause-within : goal.returns-in-Gen-clause-within
returns-in-Gen-clause-within g c =
    let short = short_source c.in-Gen.size (c.requires c.in-Gen.size c.in-Gen.is) in
    let cases = c.map_err.ensures.cases in
    grind (arith, common_steps)
