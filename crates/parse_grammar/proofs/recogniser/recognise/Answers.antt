use Rattle.std.proofs.Common.{◌≡◌, ◌-◌, ◌<◌, [], ◌∷◌, ◌++◌, length, sym, ◌∙◌, ap, subst, true, false, eqb-true, eq-eqb, arith}
use Rattle.parse_grammar.specs.Inner.Moves.{pushed}
use Rattle.parse_grammar.specs.Reading.{need}
use Rattle.parse_grammar.specs.Inner.Steps.{move_in, moves, wanted}
use Rattle.parse_grammar.specs.Inner.View.{class_in, symbol_in}
use Rattle.parse_grammar.proofs.Moves.{Reached, WrongAt, at_start, on_move, move_smaller, on_stop, on_end, on_rest}
use Rattle.parse_grammar.proofs.Stacked.{wanted_push, moves_push, no_items}
use Rattle.parse_grammar.proofs.recogniser.recognise.Goals as goal

pub read-init : goal.read-init
read-init c = rw (c.in_ok-push.ensures.items, c.new-stack.ensures.items, c.new-steps.ensures.items) (at_start (class_in c.args.start) c.args.tokens.now)

pub returns-in_default-advance-clause-refused : goal.returns-in_default-advance-clause-refused
returns-in_default-advance-clause-refused c =
    let at_top : wanted c.read.stack.items ≡ symbol_in c.in-Some.symbol ∷ wanted c.pop.new.self.items = ap wanted c.in-Some.ensures.items ∙ wanted_push c.pop.new.self.items c.in-Some.symbol in
    let w : WrongAt (class_in c.args.start) c.args.tokens.now (length c.args.tokens.now - length c.read.rest.now)
    = on_stop c.requires.start (sym c.in_default-advance.ensures) (subst (λ z. Reached (class_in c.args.start) c.args.tokens.now c.read.rest.now z (moves c.read.steps.items)) at_top c.read.invariant) in
    (w.farthest, w.none)

pub read-smaller : goal.read-smaller
read-smaller c =
    let at_top : wanted c.read.stack.items ≡ symbol_in c.in-Some.symbol ∷ wanted c.pop.new.self.items = ap wanted c.in-Some.ensures.items ∙ wanted_push c.pop.new.self.items c.in-Some.symbol in
    let s : need (pushed (move_in c.in-Some-advance.step) ++ wanted c.pop.new.self.items) (length c.in-Some-advance.more.now) < need (symbol_in c.in-Some.symbol ∷ wanted c.pop.new.self.items) (length c.read.rest.now)
    = move_smaller c.read.rest.now (symbol_in c.in-Some.symbol) (wanted c.pop.new.self.items) (move_in c.in-Some-advance.step, c.in-Some-advance.more.now) (sym c.in-Some-advance.ensures) in
    subst (λ z. need z (length c.in-Some-advance.more.now) < need (wanted c.read.stack.items) (length c.read.rest.now)) (sym c.in_ok-want.ensures)
    (subst (λ z. need (pushed (move_in c.in-Some-advance.step) ++ wanted c.pop.new.self.items) (length c.in-Some-advance.more.now) < need z (length c.read.rest.now)) (sym at_top) s)

pub read-preserved : goal.read-preserved
read-preserved c =
    let at_top : wanted c.read.stack.items ≡ symbol_in c.in-Some.symbol ∷ wanted c.pop.new.self.items = ap wanted c.in-Some.ensures.items ∙ wanted_push c.pop.new.self.items c.in-Some.symbol in
    let here : Reached (class_in c.args.start) c.args.tokens.now c.read.rest.now (symbol_in c.in-Some.symbol ∷ wanted c.pop.new.self.items) (moves c.read.steps.items)
    = subst (λ z. Reached (class_in c.args.start) c.args.tokens.now c.read.rest.now z (moves c.read.steps.items)) at_top c.read.invariant in
    let there : Reached (class_in c.args.start) c.args.tokens.now c.in-Some-advance.more.now (pushed (move_in c.in-Some-advance.step) ++ wanted c.pop.new.self.items) (move_in c.in-Some-advance.step ∷ moves c.read.steps.items)
    = on_move {p = (move_in c.in-Some-advance.step, c.in-Some-advance.more.now)} (sym c.in-Some-advance.ensures) here in
    let e : moves c.push-in-Some.new.self.items ≡ move_in c.in-Some-advance.step ∷ moves c.read.steps.items = ap moves c.in_ok-push-2.ensures.items ∙ moves_push c.read.steps.items c.in-Some-advance.step in
    subst (λ z. Reached (class_in c.args.start) c.args.tokens.now c.in-Some-advance.more.now (wanted c.want.new.stack.items) z) (sym e)
    (subst (λ z. Reached (class_in c.args.start) c.args.tokens.now c.in-Some-advance.more.now z (move_in c.in-Some-advance.step ∷ moves c.read.steps.items)) (sym c.in_ok-want.ensures) there)

pub returns-then-is_empty-clause-steps : goal.returns-then-is_empty-clause-steps
returns-then-is_empty-clause-steps c =
    let none : c.read.rest.now ≡ [] = no_items c.read.rest.now (eqb-true _ _ (sym c.if-is_empty.ensures)) in
    let done : wanted c.read.stack.items ≡ [] = ap wanted (no_items c.read.stack.items (omega (arith, c.in_default.ensures.cases.0, c.read.stack.ok))) in
    on_end (subst (λ z. Reached (class_in c.args.start) c.args.tokens.now z [] (moves c.read.steps.items)) none (subst (λ z. Reached (class_in c.args.start) c.args.tokens.now c.read.rest.now z (moves c.read.steps.items)) done c.read.invariant))

clash : false ≡ true → ⊥
clash e = cc

pub returns-clause-refused : goal.returns-clause-refused
returns-clause-refused c =
    let done : wanted c.read.stack.items ≡ [] = ap wanted (no_items c.read.stack.items (omega (arith, c.in_default.ensures.cases.0, c.read.stack.ok))) in
    let some : (length c.read.rest.now ≡ 0 → ⊥) = λ q. clash (c.if-is_empty.ensures ∙ eq-eqb (length c.read.rest.now) 0 q) in
    let w : WrongAt (class_in c.args.start) c.args.tokens.now (length c.args.tokens.now - length c.read.rest.now)
    = on_rest c.requires.start (omega (arith, some)) (subst (λ z. Reached (class_in c.args.start) c.args.tokens.now c.read.rest.now z (moves c.read.steps.items)) done c.read.invariant) in
    (w.farthest, w.none)
