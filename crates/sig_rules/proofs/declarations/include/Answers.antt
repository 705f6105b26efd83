use Rattle.sig_rules.proofs.Including.{included, not-included}
use Rattle.sig_rules.proofs.declarations.include.Goals as goal

pub returns-in_ok-share-in-Str-clause-given : goal.returns-in_ok-share-in-Str-clause-given
returns-in_ok-share-in-Str-clause-given c = included c.args.sig.now c.in_ok-share-in-Str.field-0 c.body.result.now c.node.result.now _ c.in-Str.is c.node.ensures c.body.ensures c.in_ok-share-in-Str.ensures

pub returns-in_default : goal.returns-in_default
returns-in_default c = record { given = tt; refused = not-included c.args.sig.now c.body.result.now c.node.result.now c.node.ensures c.body.ensures c.in_default.not-Str }
