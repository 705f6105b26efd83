use Rattle.std.proofs.Common.{ap, ◌∙◌}
use Rattle.std.specs.BTreeSet.{insert_key}
use Rattle.omega_kinds.specs.LabelOrder.{name_cmp}
use Rattle.sig_definitions.specs.Signatures.FieldOrder.{with_name}
use Rattle.sig_rules.proofs.NameKeys.{key-put}
use Rattle.sig_rules.proofs.name_set.NameSet.with.Goals as goal

pub returns : goal.returns
returns c =
    let keys = c.self.inside.names.keys in
    c.in_ok-insert.ensures.keys ∙ (ap (insert_key name_cmp keys) c.in_ok-share.ensures ∙ (key-put keys c.args.name.now ∙ ap (with_name c.args.name.now) c.self.view_is))
