use Rattle.std.proofs.Common.{sym, subst}
use Rattle.sig_laws.specs.Good.{OkEnv}
use Rattle.fing_top.proofs.Separate.{good_scope}
use Rattle.fing_top.proofs.apart.elaborated_under.Goals as goal

pub elab_unit-requires : goal.elab_unit-requires
elab_unit-requires c = subst OkEnv (sym c.in_ok-env.ensures) (good_scope c.args.under.now c.requires)
