use Rattle.std.proofs.Common.{rules, ap, ◌∙◌, eqb}
use Rattle.parse_grammar.specs.Inner.View.{terminal_in}
use Rattle.parse_grammar.specs.Tables.{number_of}
use Rattle.parse_grammar.proofs.SameTerminal.{same_number}
use Rattle.parse_grammar.proofs.recogniser.is_wanted.Goals as goal

pub returns : goal.returns
returns c = same_number c.eq.result c.terminal_of.result c.args.terminal (search rules) (search rules) ∙ ap (λ t. eqb (number_of t) (number_of (terminal_in c.args.terminal))) c.terminal_of.ensures
