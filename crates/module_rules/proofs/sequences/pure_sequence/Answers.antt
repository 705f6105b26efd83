use Rattle.module_rules.proofs.Made.{sequence-pure}
use Rattle.module_rules.proofs.sequences.pure_sequence.Goals as goal

pub returns : goal.returns
returns c =
    let a = c.args.first in
    let b = c.args.rest in
    let t = c.in_ok-term.ensures in
    sequence-pure a.effect b.effect a.sig b.sig c.in_ok-sig.sig a.types b.types c.in_ok-types.types a.term b.term t.1 c.in_ok-term.term t.0 t.2 t.3 c.in_ok-sig.ensures c.in_ok-types.ensures t.4
