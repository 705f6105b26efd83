use Rattle.std.proofs.Common.{sym, ◌∙◌, length}
use Rattle.std.proofs.lemmas.Result.{err_from_is_err_and}
use Rattle.omega_terms.specs.Term.{End, More}
use Rattle.omega_terms.specs.Fields.{term_row}
use Rattle.omega_spelling.specs.TermReading.{term_at}
use Rattle.omega_read.proofs.Record.{MayFollow_from, onto_term_row, fields_on, fields_fall, fields_stops, fields_done, fields_none, fields_spent}
use Rattle.omega_read.proofs.terms.+terms.Goals as goal

pub fields_of-returns-in_err-expect_bytes : goal.fields_of-returns-in_err-expect_bytes
fields_of-returns-in_err-expect_bytes t c =
    let p = err_from_is_err_and c.from_residual.result c.from_residual.ensures.1 in
    let none = rw c.if-not-eat.ensures.1 at c.in_err-expect_bytes.ensures.1 in
    rw (p.1, p.2, c.in_err-expect_bytes.ensures.0) (fields_none End More (term_at c.args.version c.args.depth c.args.types c.args.terms) c.loop.fields (length c.args.left.now.rest.now) c.loop.counter c.loop.left.rest.now _ c.loop-test.true c.if-not-eat.ensures.0 none c.loop.invariant)

pub fields_of-returns-then-not-eat : goal.fields_of-returns-then-not-eat
fields_of-returns-then-not-eat t c =
    let close = rw c.if-not-eat.ensures.1 at c.in_ok-expect_bytes.ensures in
    fields_done End More (term_at c.args.version c.args.depth c.args.types c.args.terms) c.loop.fields (length c.args.left.now.rest.now) c.loop.counter c.loop.left.rest.now c.expect_bytes.new.self.rest.now _ (term_row c.loop.fields) c.loop-test.true c.if-not-eat.ensures.0 close c.loop.invariant (onto_term_row c.loop.fields)

pub fields_of-returns-in_err-field : goal.fields_of-returns-in_err-field
fields_of-returns-in_err-field t c =
    let p = err_from_is_err_and c.from_residual-in_err-field.result c.from_residual-in_err-field.ensures.1 in
    rw (p.1, p.2) (fields_stops End More c.in_err-field.field-0.0 (term_at c.args.version c.args.depth c.args.types c.args.terms) c.loop.fields (length c.args.left.now.rest.now) c.loop.counter c.loop.left.rest.now c.eat.new.self.rest.now _ c.loop-test.true c.if-not-eat.ensures c.in_err-field.ensures c.loop.invariant)

pub fields_of-returns-then-not-term_may_follow : goal.fields_of-returns-then-not-term_may_follow
fields_of-returns-then-not-term_may_follow t c =
    fields_fall End More (term_at c.args.version c.args.depth c.args.types c.args.terms) c.loop.fields (length c.args.left.now.rest.now) c.loop.counter c.loop.left.rest.now c.eat.new.self.rest.now c.in_ok-field.field c.field_of.new.left.rest.now _ c.loop-test.true c.if-not-eat.ensures c.in_ok-field.ensures (sym c.term_may_follow.ensures ∙ c.if-not-term_may_follow.true) c.loop.invariant

pub fields_of-push-requires : goal.fields_of-push-requires
fields_of-push-requires t c = MayFollow_from c.loop.fields c.in_ok-field.field.0 (sym c.term_may_follow.ensures ∙ c.if-not-term_may_follow.false)

pub fields_of-loop-preserved : goal.fields_of-loop-preserved
fields_of-loop-preserved t c =
    rw c.in_ok-push.ensures.ok (fields_on End More (term_at c.args.version c.args.depth c.args.types c.args.terms) c.loop.fields (length c.args.left.now.rest.now) c.loop.counter c.loop.left.rest.now c.eat.new.self.rest.now c.in_ok-field.field c.field_of.new.left.rest.now _ c.loop-test.true c.if-not-eat.ensures c.in_ok-field.ensures (sym c.term_may_follow.ensures ∙ c.if-not-term_may_follow.false) c.loop.invariant)

pub fields_of-returns : goal.fields_of-returns
fields_of-returns t c =
    fields_spent End More (term_at c.args.version c.args.depth c.args.types c.args.terms) c.loop.fields (length c.args.left.now.rest.now) c.loop.counter c.loop.left.rest.now _ c.loop-test.false c.loop.invariant
