use Rattle.std.proofs.Common.{◌≡◌, drop}
use Rattle.sig_definitions.specs.Env.{named_fields}
use Rattle.semantic_sigs.specs.Inner.Fields.{sig_row}
use Rattle.elab_rules.proofs.scopes.push_fields.Given as goal

abbrev pub invariant-loop-field : goal.invariant-loop-field
invariant-loop-field l = named_fields l.env (sig_row (drop l.field-index l.field-items)) ≡ named_fields l.initial.env (sig_row l.field-items)
