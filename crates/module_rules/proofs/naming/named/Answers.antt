use Rattle.semantic_sigs.specs.Inner.Made.{module_of}
use Rattle.module_rules.proofs.Made.{named-gives, named-refuses}
use Rattle.module_rules.proofs.Options.{none-is}
use Rattle.module_rules.proofs.naming.named.Goals as goal

pub returns-in_default-clause-refused : goal.returns-in_default-clause-refused
returns-in_default-clause-refused c =
    named-refuses c.args.env.now c.args.name.now c.in_ok-share.field-0 c.in_ok-found.field-0 c.in_ok-found.ensures (none-is c.in_ok-found.field-0 c.in_default.not-Some) c.in_ok-share.ensures

pub returns-clause-given : goal.returns-clause-given
returns-clause-given c =
    named-gives c.args.env.now c.args.name.now c.in_ok-found.field-0 c.in-Some.found.0 c.in-Some.found.1 (module_of c.in_ok-open_module.field-0) c.in_ok-found.ensures c.in-Some.is c.in_ok-open_module.ensures
