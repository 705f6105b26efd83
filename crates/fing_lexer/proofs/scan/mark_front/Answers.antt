use Rattle.std.proofs.Common.{sym, ◌∙◌, refl}
use Rattle.fing_lexer.proofs.Found.{two_stand, one_stands, none_stands}
use Rattle.fing_lexer.proofs.scan.mark_front.Goals as goal

pub returns-in-Some : goal.returns-in-Some
returns-in-Some c = (two_stand c.args.bytes.now _ c.requires.skip c.requires.other (sym c.long_mark.ensures ∙ c.in-Some.is), refl)

pub returns-in-Some-short_mark : goal.returns-in-Some-short_mark
returns-in-Some-short_mark c =
    (one_stands c.args.bytes.now _ c.requires.some c.requires.skip c.requires.other (sym c.long_mark.ensures ∙ c.in_default.is) (sym c.short_mark.ensures ∙ c.in-Some-short_mark.is), refl)

pub returns-in-None : goal.returns-in-None
returns-in-None c = none_stands c.args.bytes.now c.requires.some c.requires.skip c.requires.other (sym c.long_mark.ensures ∙ c.in_default.is) (sym c.short_mark.ensures ∙ c.in-None.is)
