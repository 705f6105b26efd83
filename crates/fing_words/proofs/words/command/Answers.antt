use Rattle.std.proofs.Common.{◌≡◌, ◌∙◌, ap, ap₂, rules, codes, true}
use Rattle.std.proofs.lemmas.Result.{IfOk-weaker}
use Rattle.clap.specs.Walk.{rule_of}
use Rattle.clap.specs.Simple.{App, app_of, app_of_fields, new_app, on_top, with_rule}
use Rattle.fing_words.specs.SimpleCommand.{budget_rule, command_rule, n_rule, simplify_rule}
use Rattle.fing_words.proofs.words.command.Goals as goal

abbrev without_name : App → App
without_name = on_top (λ s. record s { no_binary_name = true })

abbrev without_help : App → App
without_help = on_top (λ s. record s { disable_help_flag = true })

abbrev without_version : App → App
without_version = on_top (λ s. record s { disable_version_flag = true })

abbrev bare : App
bare = without_version (without_help (without_name (new_app (codes "fing"))))

pub returns : goal.returns
returns c =
    let name_is : rule_of c.required-name.result ≡ command_rule = search rules in
    let n_is : rule_of c.action-n.result ≡ n_rule = search rules in
    let budget_is : rule_of c.action-budget.result ≡ budget_rule = search rules in
    let simplify_is : rule_of c.action-simplify.result ≡ simplify_rule = search rules in
    let unnamed : app_of c.no_binary_name.result ≡ without_name (new_app (codes "fing")) = ap app_of_fields c.no_binary_name.ensures ∙ ap without_name c.new-5.ensures.app in
    let helpless : app_of c.disable_help_flag.result ≡ without_help (without_name (new_app (codes "fing"))) = ap app_of_fields c.disable_help_flag.ensures ∙ ap without_help unnamed in
    let bare_is : app_of c.disable_version_flag-plain.result ≡ bare = ap app_of_fields c.disable_version_flag-plain.ensures ∙ ap without_version helpless in
    IfOk-weaker c.arg-4.result _ _ (λ made h. h.shape (search rules)
    ∙ ap₂ with_rule (c.in_ok-arg-3.ensures.shape (search rules)
    ∙ ap₂ with_rule (c.in_ok-arg-2.ensures.shape (search rules)
    ∙ ap₂ with_rule (c.in_ok-arg.ensures.shape (search rules) ∙ ap₂ with_rule bare_is name_is) n_is) budget_is) simplify_is) c.arg-4.ensures
