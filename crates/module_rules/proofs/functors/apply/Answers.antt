use Rattle.std.proofs.Common.{sym, ap, ◌∙◌}
use Rattle.semantic_sigs.specs.Inner.View.{sig_of, body_of}
use Rattle.module_rules.proofs.Made.{no-functor, applied-at}
use Rattle.module_rules.proofs.functors.apply.Goals as goal

pub returns-in_default : goal.returns-in_default
returns-in_default c =
    record { given = tt; refused = no-functor c.node.result.now c.body.result.now (body_of c.args.functor.now.sig) c.node.ensures c.body.ensures c.in_default.not-Fun }

pub returns-clause-given : goal.returns-clause-given
returns-clause-given c =
    let f = c.in-Fun in
    applied-at c.args.functor.now.sig c.body.result.now f.param f.effect f.kinds f.result c.in_ok-sig.sig c.items.result.now c.items-2.result.now c.args.types c.new-none.result c.args.functor.now.term c.args.coercion c.args.arg c.in_ok-term.term c.body.ensures (sym c.node.ensures ∙ ap sig_of f.is) c.items.ensures c.items-2.ensures (λ ctx. c.in_ok-sig.ensures.normal ctx _) c.in_ok-term.ensures c.new-none.ensures
