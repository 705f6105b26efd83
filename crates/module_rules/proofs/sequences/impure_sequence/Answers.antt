use Rattle.module_rules.proofs.Made.{sequence-impure}
use Rattle.module_rules.proofs.sequences.impure_sequence.Goals as goal

pub returns : goal.returns
returns c =
    let a = c.args.first in
    let b = c.args.rest in
    sequence-impure a.effect b.effect a.sig b.sig c.in_ok-sig.sig a.types b.types c.new-types.result a.term b.term c.in_ok-term.term c.in_ok-sig.ensures c.new-types.ensures c.in_ok-term.ensures
