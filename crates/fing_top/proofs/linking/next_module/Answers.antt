use Rattle.std.proofs.Common.{sym, subst}
use Rattle.sig_laws.specs.Good.{OkEnv}
use Rattle.fing_top.proofs.Separate.{good_scope}
use Rattle.fing_top.proofs.linking.next_module.Goals as goal

pub unit_in-requires : goal.unit_in-requires
unit_in-requires c = subst OkEnv (sym c.requires.scope) (good_scope c.args.under.now c.requires.derived)
