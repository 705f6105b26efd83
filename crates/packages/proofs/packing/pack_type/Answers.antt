use Rattle.std.proofs.Common.{◌∙◌}
use Rattle.packages.proofs.PackSteps.{type-shared}
use Rattle.packages.proofs.packing.pack_type.Goals as goal

pub returns-clause-shared : goal.returns-clause-shared
returns-clause-shared c ctx ok =
    type-shared c.args.abs.now c.in_ok-ordered.ordered c.as_normal.result c.in_ok-ordered.ensures.value (c.as_normal.ensures ∙ c.in_ok-encode.ensures) ctx ok
