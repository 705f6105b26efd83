use Rattle.std.proofs.Common.{refl, sym, ap, ◌∙◌}
use Rattle.semantic_sigs.specs.Inner.View.{sig_of}
use Rattle.module_rules.proofs.Made.{no-functor, parts-given}
use Rattle.module_rules.proofs.functors.functor_parts.Goals as goal

pub returns-in_default : goal.returns-in_default
returns-in_default c =
    record { given = tt; refused = no-functor c.node.result.now c.args.sig.now c.args.sig.now c.node.ensures refl c.in_default.not-Fun }

pub returns-clause-given : goal.returns-clause-given
returns-clause-given c =
    let f = c.in-Fun in
    parts-given c.args.sig.now f.param f.effect f.kinds c.in_ok-binders.binders c.in_ok-body.body c.in_ok-from.from f.result c.in_ok-to.to (sym c.node.ensures ∙ ap sig_of f.is) c.in_ok-binders.ensures c.in_ok-body.ensures c.in_ok-from.ensures c.in_ok-to.ensures
