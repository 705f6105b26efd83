use Rattle.std.proofs.Common.{◌≡◌, ◌+◌, ◌-◌, ◌∙◌, ◌<◌, ◌≤◌, true, sym, ap, subst, take, drop, pos, neg_ℤ, arith, ◌^◌}
use Rattle.std.specs.List.{prefix_len}
use Rattle.std.specs.Char.{is_ascii_digit}
use Rattle.fing_lexer.specs.declared.token.What.{What}
use Rattle.fing_lexer.specs.declared.token.What.TheVariants as what
use Rattle.fing_lexer.specs.Lexeme.{value_behind}
use Rattle.fing_lexer.specs.Tokens.{Stands, Found, is_in_range}
use Rattle.fing_lexer.proofs.Found.{negative_stands, tilde_stands, behind_first, negative_in_range, negative_out_of_range}
use Rattle.fing_lexer.proofs.scan.negative_front.Goals as goal

pub returns-then-len-eq0 : goal.returns-then-len-eq0
returns-then-len-eq0 c = tilde_stands c.args.bytes.now c.requires.some c.requires.first (sym (c.digits_len-len.ensures.value ∙ ap (prefix_len is_ascii_digit) (behind_first c.args.bytes.now)) ∙ c.if-len-eq0.true)

pub returns-in-Some : goal.returns-in-Some
returns-in-Some c =
    let P : What → Type 0 = λ w. Stands c.args.bytes.now (Found (1 + c.digits_len-len.result) w) × (is_in_range w ≡ true) in
    let digits : take (1 + c.digits_len-len.result - 1) (drop 1 c.args.bytes.now) ≡ take c.digits_len-len.result (drop 1 c.args.bytes.now) = ap (λ k. take k (drop 1 c.args.bytes.now)) (omega arith) in
    let value : c.in-Some.value ≡ value_behind 0 (take c.digits_len-len.result (drop 1 c.args.bytes.now)) = c.in-Some.ensures.0 ∙ ap (value_behind 0) digits in
    subst P (sym (c.negative.ensures ∙ ap (λ n. what.Int (neg_ℤ (pos n))) value)) (
      negative_stands c.args.bytes.now c.digits_len-len.result c.requires.some c.requires.first (omega arith) (c.digits_len-len.ensures.value ∙ ap (prefix_len is_ascii_digit) (behind_first c.args.bytes.now)),
      negative_in_range _ (subst (λ n. n < 2 ^ 63) value c.in-Some.ensures.1),
    )

pub returns-in-None : goal.returns-in-None
returns-in-None c =
    let digits : take (1 + c.digits_len-len.result - 1) (drop 1 c.args.bytes.now) ≡ take c.digits_len-len.result (drop 1 c.args.bytes.now) = ap (λ k. take k (drop 1 c.args.bytes.now)) (omega arith) in
    record {
      size = 1 + c.digits_len-len.result;
      number = what.Int (neg_ℤ (pos (value_behind 0 (take c.digits_len-len.result (drop 1 c.args.bytes.now)))));
      stands = negative_stands c.args.bytes.now c.digits_len-len.result c.requires.some c.requires.first (omega arith) (c.digits_len-len.ensures.value ∙ ap (prefix_len is_ascii_digit) (behind_first c.args.bytes.now));
      wide = negative_out_of_range _ (subst (λ d. 2 ^ 63 ≤ value_behind 0 d) digits c.in-None.ensures);
    }
