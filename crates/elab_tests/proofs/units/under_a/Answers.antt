use Rattle.std.proofs.Common.{List, ◌∷◌, [], subst, sym}
use Rattle.sig_laws.specs.Good.{OkEnv, OkModule}
use Rattle.sig_definitions.specs.Env.{kinds}
use Rattle.semantic_sigs.specs.Inner.Made.{module_of}
use Rattle.unit_judgments.specs.Interfaces.{Interface, env_of}
use Rattle.unit_judgments.proofs.Scopes.{more-ok}
use Rattle.elab_tests.proofs.units.under_a.Goals as goal

pub apart-requires : goal.apart-requires
apart-requires c =
    let a = c.in_ok-a.a in
    let good = subst (λ (i : List Interface). OkModule (kinds (env_of i)) (module_of a.module)) c.in_ok-a.ensures.stands c.in_ok-a.ensures.good in
    subst (λ (i : List Interface). OkEnv (env_of i)) (sym c.in_ok-under.ensures) (more-ok [] a.name (module_of a.module) tt good)
