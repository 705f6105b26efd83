use Rattle.std.proofs.Common.{subst, take, drop, length, ◌-◌, refl}
use Rattle.std.specs.Prelude.{None, Some}
use Rattle.fing_lexer.specs.Inner.Lexing.{EndsText}
use Rattle.fing_lexer.proofs.Found.{behind_first}
use Rattle.fing_lexer.proofs.Texts.{text_stands, no_text_stands}
use Rattle.fing_lexer.proofs.scan.text_front.Goals as goal

pub returns-in-Some : goal.returns-in-Some
returns-in-Some c = (text_stands c.args.bytes.now _ _ c.requires.some c.requires.first (subst (λ b. EndsText b (Some (c.in-Some.len, c.in-Some.text))) (behind_first c.args.bytes.now) (subst (λ t. EndsText (take (length c.args.bytes.now - 1) (drop 1 c.args.bytes.now)) t) c.in-Some.is c.in_ok-len.ensures)), refl)

pub returns-in-None : goal.returns-in-None
returns-in-None c = no_text_stands c.args.bytes.now c.requires.some c.requires.first (subst (λ b. EndsText b None) (behind_first c.args.bytes.now) (subst (λ t. EndsText (take (length c.args.bytes.now - 1) (drop 1 c.args.bytes.now)) t) c.in-None.is c.in_ok-len.ensures))
