use Rattle.std.proofs.Common.{refl}
use Rattle.module_rules.proofs.Made.{seal-made}
use Rattle.module_rules.proofs.functors.seal.Goals as goal

pub returns : goal.returns
returns c =
    seal-made c.args.found c.args.coercion c.in_ok-term.term c.args.target.now c.in_ok-sig.sig c.args.types c.args.types c.in_ok-sig.ensures refl c.in_ok-term.ensures
