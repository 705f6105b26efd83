use Rattle.elab_rules.proofs.Ruled.{placed-clash}
use Rattle.elab_rules.proofs.mod_refusing.match_refusal.Goals as goal

pub returns-in-Clash : goal.returns-in-Clash
returns-in-Clash c = rw c.in-Clash.is (placed-clash c.args.at c.in-Clash.types c.in-Clash.path c.in-Clash.why)
