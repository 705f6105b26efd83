use Rattle.std.proofs.Common.{◌+◌, sym, ◌∙◌, ap, subst, drop, length-drop, ne_eqb, arith}
use Rattle.std.specs.Prelude.{Some, nat_eq}
use Rattle.fing_lexer.specs.Inner.Lexing.{EndsText, spelled}
use Rattle.fing_lexer.proofs.Found.{from_place, further}
use Rattle.fing_lexer.proofs.Texts.{Reads, on_quote, on_spelled, on_bad, at_end, first_at}
use Rattle.fing_lexer.proofs.scan.text_behind.Goals as goal

pub returns-then-bytes-at-eq34 : goal.returns-then-bytes-at-eq34
returns-then-bytes-at-eq34 c =
    subst (λ t. EndsText c.args.bytes.now (Some (c.loop-at.at + 1, t))) (sym (c.in_ok-name_of.ensures ∙ c.deref.ensures.value))
    (on_quote c.args.bytes.now (drop c.loop-at.at c.args.bytes.now) c.loop-at.at c.loop-at.meaning.items c.loop-at.invariant (omega (arith, length-drop c.loop-at.at c.args.bytes.now))
    (first_at c.args.bytes.now c.loop-at.at ∙ c.if-bytes-at-eq34.true))

pub returns-in_default : goal.returns-in_default
returns-in_default c =
    on_bad c.args.bytes.now (drop c.loop-at.at c.args.bytes.now) c.loop-at.at c.loop-at.meaning.items c.loop-at.invariant
    (ap (λ b. nat_eq b 34) (first_at c.args.bytes.now c.loop-at.at) ∙ ne_eqb _ _ c.if-bytes-at-eq34.false)
    (ap spelled (sym (from_place c.args.bytes.now c.loop-at.at)) ∙ sym c.spelled.ensures.value ∙ c.in_default.is)

pub loop-at-preserved : goal.loop-at-preserved
loop-at-preserved c =
    let next : Reads c.args.bytes.now (drop c.in-Some.len (drop c.loop-at.at c.args.bytes.now)) (c.loop-at.at + c.in-Some.len) c.push.new.self.items =
    subst (Reads c.args.bytes.now (drop c.in-Some.len (drop c.loop-at.at c.args.bytes.now)) (c.loop-at.at + c.in-Some.len)) (sym c.in_ok-push.ensures.items)
    (on_spelled c.args.bytes.now (drop c.loop-at.at c.args.bytes.now) c.loop-at.at c.in-Some.byte c.in-Some.len c.loop-at.meaning.items c.loop-at.invariant
    (ap (λ b. nat_eq b 34) (first_at c.args.bytes.now c.loop-at.at) ∙ ne_eqb _ _ c.if-bytes-at-eq34.false)
    (ap spelled (sym (from_place c.args.bytes.now c.loop-at.at)) ∙ sym c.spelled.ensures.value ∙ c.in-Some.is)) in
    subst (λ r. Reads c.args.bytes.now r (c.loop-at.at + c.in-Some.len) c.push.new.self.items) (further c.in-Some.len c.loop-at.at c.args.bytes.now) next

pub returns : goal.returns
returns c = at_end c.args.bytes.now c.loop-at.at c.loop-at.meaning.items c.loop-at.invariant c.loop-at-test.false
