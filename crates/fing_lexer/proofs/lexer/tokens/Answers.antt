use Rattle.std.proofs.Common.{◌≡◌, ◌+◌, ◌<◌, ◌≤◌, sym, ◌∙◌, ap, subst, subst₂, inr, [], ◌∷◌, ◌++◌, drop, arith}
use Rattle.fing_lexer.specs.declared.scan.Front.TheVariants as is
use Rattle.fing_lexer.specs.Nest.{counted, opened, total}
use Rattle.fing_lexer.specs.Tokens.{token_at}
use Rattle.fing_lexer.specs.Inner.Lexing.{StandsAs}
use Rattle.fing_lexer.proofs.Found.{from_place}
use Rattle.fing_lexer.proofs.Going.{GoesOn, positive, shallow, on_found, on_deep, on_skip, on_no_byte, on_no_text, on_wide, at_end, skip_within, found_within}
use Rattle.fing_lexer.proofs.lexer.tokens.Goals as goal

pub overflow_add-at : goal.overflow_add-at
overflow_add-at c =
    let s : StandsAs (drop c.scan.at c.args.bytes.now) (is.Skip c.in-Skip.len) = subst₂ StandsAs (from_place c.args.bytes.now c.scan.at) c.in-Skip.is c.in_ok-len.ensures in
    omega (arith, skip_within c.args.bytes.now c.scan.at c.in-Skip.len c.scan.invariant.within s)

pub scan-preserved-in-Skip : goal.scan-preserved-in-Skip
scan-preserved-in-Skip c =
    let s : StandsAs (drop c.scan.at c.args.bytes.now) (is.Skip c.in-Skip.len) = subst₂ StandsAs (from_place c.args.bytes.now c.scan.at) c.in-Skip.is c.in_ok-len.ensures in
    record {
      within = skip_within c.args.bytes.now c.scan.at c.in-Skip.len c.scan.invariant.within s;
      shallow = c.scan.invariant.shallow;
      on = on_skip c.args.bytes.now c.scan.at c.in-Skip.len c.scan.nest c.scan.found.items c.scan.invariant.on s;
    }

pub returns-in-Wide-clause-refused : goal.returns-in-Wide-clause-refused
returns-in-Wide-clause-refused c = inr (on_wide c.args.bytes.now c.scan.at c.scan.nest c.scan.found.items c.scan.invariant.on (subst₂ StandsAs (from_place c.args.bytes.now c.scan.at) c.in-Wide.is c.in_ok-len.ensures))

pub returns-in-NoText-clause-refused : goal.returns-in-NoText-clause-refused
returns-in-NoText-clause-refused c = inr (on_no_text c.args.bytes.now c.scan.at c.scan.nest c.scan.found.items c.scan.invariant.on (subst₂ StandsAs (from_place c.args.bytes.now c.scan.at) c.in-NoText.is c.in_ok-len.ensures))

pub returns-in-NoByte-clause-refused : goal.returns-in-NoByte-clause-refused
returns-in-NoByte-clause-refused c = inr (on_no_byte c.args.bytes.now c.scan.at c.scan.nest c.scan.found.items c.scan.invariant.on (subst₂ StandsAs (from_place c.args.bytes.now c.scan.at) c.in-NoByte.is c.in_ok-len.ensures))

pub returns-clause-tokens : goal.returns-clause-tokens
returns-clause-tokens c = at_end c.args.bytes.now c.scan.at c.scan.nest c.scan.found.items c.scan.invariant.on c.scan-test.false

pub returns-then-count-gt1000-clause-refused : goal.returns-then-count-gt1000-clause-refused
returns-then-count-gt1000-clause-refused c =
    let s : StandsAs (drop c.scan.at c.args.bytes.now) (is.Found c.in-Found.len c.in-Found.what) = subst₂ StandsAs (from_place c.args.bytes.now c.scan.at) c.in-Found.is c.in_ok-len.ensures in
    let depth : 1000 < total (counted c.scan.nest c.in-Found.what) = subst (λ n. 1000 < total n) c.count.ensures.counted (omega (arith, c.count.ensures.total)) in
    inr (on_deep c.args.bytes.now c.scan.at c.in-Found.len c.scan.nest c.scan.found.items c.in-Found.what c.scan.invariant.on s.0 s.1 depth)

pub scan-smaller : goal.scan-smaller
scan-smaller c =
    let s : StandsAs (drop c.scan.at c.args.bytes.now) (is.Found c.in-Found.len c.in-Found.what) = subst₂ StandsAs (from_place c.args.bytes.now c.scan.at) c.in-Found.is c.in_ok-len.ensures in
    omega (arith, positive (drop c.scan.at c.args.bytes.now) c.in-Found.len c.in-Found.what s.0, found_within c.args.bytes.now c.scan.at c.in-Found.len c.in-Found.what c.scan.invariant.within s.0)

pub scan-preserved : goal.scan-preserved
scan-preserved c =
    let s : StandsAs (drop c.scan.at c.args.bytes.now) (is.Found c.in-Found.len c.in-Found.what) = subst₂ StandsAs (from_place c.args.bytes.now c.scan.at) c.in-Found.is c.in_ok-len.ensures in
    let depth : total (counted c.scan.nest c.in-Found.what) ≤ 1000 = subst (λ n. total n ≤ 1000) c.count.ensures.counted (omega (arith, c.count.ensures.total)) in
    let nest : opened (counted c.scan.nest c.in-Found.what) c.in-Found.what ≡ c.open.new.self = ap (λ n. opened n c.in-Found.what) (sym c.count.ensures.counted) ∙ sym c.in_ok-open-in-Found.ensures.ok in
    let items : c.scan.found.items ++ token_at c.scan.at c.in-Found.len c.in-Found.what ∷ [] ≡ c.push.new.self.items = ap (λ t. c.scan.found.items ++ t ∷ []) (sym c.token_from.ensures) ∙ sym c.in_ok-push-in-Found.ensures.items in
    record {
      within = found_within c.args.bytes.now c.scan.at c.in-Found.len c.in-Found.what c.scan.invariant.within s.0;
      shallow = subst (λ n. total n ≤ 1000) nest (shallow c.scan.nest c.in-Found.what depth);
      on = subst₂ (λ n ts. GoesOn c.args.bytes.now (c.scan.at + c.in-Found.len) n ts) nest items (on_found c.args.bytes.now c.scan.at c.in-Found.len c.scan.nest c.scan.found.items c.in-Found.what c.scan.invariant.on s.0 s.1 depth);
    }
