use Rattle.std.proofs.Common.{◌+◌, ◌∙◌, sym, ap, subst, take, refl}
use Rattle.std.specs.List.{prefix_len}
use Rattle.fing_lexer.specs.Lexeme.{word_or_name, is_name_byte}
use Rattle.fing_lexer.specs.declared.token.What.TheVariants as what
use Rattle.fing_lexer.specs.Tokens.{Stands, Found}
use Rattle.fing_lexer.proofs.Found.{name_stands, behind_first}
use Rattle.fing_lexer.proofs.scan.name_front.Goals as goal

pub returns-in-Some : goal.returns-in-Some
returns-in-Some c = (
  subst (λ o. Stands c.args.bytes.now (Found (1 + c.name_len-len.result) (word_or_name o (take (1 + c.name_len-len.result) c.args.bytes.now)))) (sym c.word.ensures ∙ c.in-Some.is)
      (name_stands c.args.bytes.now (1 + c.name_len-len.result) c.requires.some c.requires.first (ap (λ k. 1 + k) (c.name_len-len.ensures.value ∙ ap (prefix_len is_name_byte) (behind_first c.args.bytes.now)))),
  refl,
)

pub returns-in_ok-name-in-None : goal.returns-in_ok-name-in-None
returns-in_ok-name-in-None c = (
  subst (λ w. Stands c.args.bytes.now (Found (1 + c.name_len-len.result) w)) (ap (λ o. word_or_name o (take (1 + c.name_len-len.result) c.args.bytes.now)) (sym c.word.ensures ∙ c.in-None.is) ∙ ap what.Ident (sym c.in_ok-name-in-None.ensures))
      (name_stands c.args.bytes.now (1 + c.name_len-len.result) c.requires.some c.requires.first (ap (λ k. 1 + k) (c.name_len-len.ensures.value ∙ ap (prefix_len is_name_byte) (behind_first c.args.bytes.now)))),
  refl,
)
