use Rattle.std.proofs.Common.{subst}
use Rattle.sig_definitions.specs.Env.{Env}
use Rattle.semantic_sigs.specs.Inner.Made.{module_of}
use Rattle.unit_laws.specs.Derived.{UnitMeans}
use Rattle.unit_laws.specs.Units.{unit_mod}
use Rattle.unit_judgments.specs.Interfaces.{env_of}
use Rattle.elab_laws.proofs.Kept.{mod_ok}
use Rattle.elab_tests.proofs.units.apart.Goals as goal

pub returns-clause-good : goal.returns-clause-good
returns-clause-good c =
    let u = c.args.unit.now in
    let m = module_of c.in-Ok.module in
    mod_ok (env_of c.args.under) (unit_mod u) m c.requires (subst (λ (g : Env). UnitMeans g u m) c.in_ok-env.ensures c.in-Ok.ensures.means.derived)
