use Rattle.std.proofs.Common.{◌≡◌, ◌∙◌, Some, None, sym, rules, codes}
use Rattle.clap.specs.Walk.{rows_of}
use Rattle.clap.specs.Matches.{found_of, first_value}
use Rattle.clap.proofs.WalkLemmas.{first_value-rows}
use Rattle.fing_words.proofs.Rows.{found_row, none_flagged, none_given}
use Rattle.fing_words.proofs.words.line_in.Goals as goal

pub returns-in_err-get_str : goal.returns-in_err-get_str
returns-in_err-get_str c =
    let found = found_of c.args.matches.now in
    let missing : first_value found (codes "command") ≡ None = search rules in
    none_given (rows_of found) _ (search rules) (sym (first_value-rows found (codes "command")) ∙ missing)

pub returns-in_err-get_str-2 : goal.returns-in_err-get_str-2
returns-in_err-get_str-2 c =
    let found = found_of c.args.matches.now in
    let missing : first_value found (codes "simplify") ≡ None = search rules in
    none_flagged (rows_of found) _ (search rules) (sym (first_value-rows found (codes "simplify")) ∙ missing)

pub returns : goal.returns
returns c =
    let found = found_of c.args.matches.now in
    let given : first_value found (codes "command") ≡ Some c.in_ok-get_str.field-0.now = search rules in
    let flagged : first_value found (codes "simplify") ≡ Some c.in_ok-get_str-2.field-0.now = search rules in
    found_row (rows_of found) _ _ _ _ _ (sym (first_value-rows found (codes "command")) ∙ given)
    (sym (first_value-rows found (codes "n")) ∙ sym c.get_str-2.ensures)
    (sym (first_value-rows found (codes "budget")) ∙ sym c.get_str-3.ensures)
    (sym (first_value-rows found (codes "simplify")) ∙ flagged)
    c.line_of.ensures
