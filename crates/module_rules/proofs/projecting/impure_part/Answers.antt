use Rattle.module_rules.proofs.Made.{project-impure}
use Rattle.module_rules.proofs.projecting.impure_part.Goals as goal

pub returns : goal.returns
returns c = λ fs s f e h is.
    project-impure c.args.whole.now.effect c.args.whole.now.sig c.args.sig.now c.in_ok-sig.sig fs c.args.name.now s c.args.whole.now.types c.new-types.result c.args.whole.now.term c.in_ok-term.term f e h is c.in_ok-sig.ensures c.new-types.ensures c.in_ok-term.ensures
