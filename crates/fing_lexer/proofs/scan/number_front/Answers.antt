use Rattle.std.proofs.Common.{◌≡◌, ◌+◌, ◌∙◌, ◌<◌, true, sym, ap, subst, take, pos, ◌^◌}
use Rattle.std.specs.List.{prefix_len}
use Rattle.std.specs.Char.{is_ascii_digit}
use Rattle.fing_lexer.specs.declared.token.What.{What}
use Rattle.fing_lexer.specs.declared.token.What.TheVariants as what
use Rattle.fing_lexer.specs.Lexeme.{value_behind}
use Rattle.fing_lexer.specs.Tokens.{Stands, Found, is_in_range}
use Rattle.fing_lexer.proofs.Found.{number_stands, behind_first, in_range, out_of_range}
use Rattle.fing_lexer.proofs.scan.number_front.Goals as goal

pub returns-in-Some : goal.returns-in-Some
returns-in-Some c =
    let P : What → Type 0 = λ w. Stands c.args.bytes.now (Found (1 + c.digits_len-len.result) w) × (is_in_range w ≡ true) in
    subst P (sym (c.positive.ensures ∙ ap (λ n. what.Int (pos n)) c.in-Some.ensures.0)) (
      number_stands c.args.bytes.now (1 + c.digits_len-len.result) c.requires.some c.requires.other c.requires.first (ap (λ k. 1 + k) (c.digits_len-len.ensures.value ∙ ap (prefix_len is_ascii_digit) (behind_first c.args.bytes.now))),
      in_range _ (subst (λ n. n < 2 ^ 63) c.in-Some.ensures.0 c.in-Some.ensures.1),
    )

pub returns-in-None : goal.returns-in-None
returns-in-None c = record {
  size = 1 + c.digits_len-len.result;
  number = what.Int (pos (value_behind 0 (take (1 + c.digits_len-len.result) c.args.bytes.now)));
  stands = number_stands c.args.bytes.now (1 + c.digits_len-len.result) c.requires.some c.requires.other c.requires.first (ap (λ k. 1 + k) (c.digits_len-len.ensures.value ∙ ap (prefix_len is_ascii_digit) (behind_first c.args.bytes.now)));
  wide = out_of_range _ c.in-None.ensures;
}
