use Rattle.std.proofs.Common.{◌≡◌, sym, ◌∙◌}
use Rattle.sig_definitions.specs.Signatures.Sig.{Sig, SigRow, HasField, NoField}
use Rattle.semantic_sigs.specs.Inner.Fields.{sig_row}
use Rattle.module_rules.proofs.Made.{project_no-structure, project_no-part}
use Rattle.module_rules.proofs.Options.{none-case, some-case}
use Rattle.module_rules.proofs.projecting.project.Goals as goal

pub returns-in_default : goal.returns-in_default
returns-in_default c =
    let w = c.args.whole in
    let none = none-case c.as_structure.result ((fs : SigRow) → c.body.result.now ≡ Sig.Str fs → ⊥) (λ f. c.body.result.now ≡ Sig.Str (sig_row f.now)) c.in_default.not-Some c.as_structure.ensures in
    record { given = tt; refused = project_no-structure w.effect w.sig w.types w.term c.args.name.now c.body.result.now c.body.ensures none }

pub returns-in_default-find_field-clause-refused : goal.returns-in_default-find_field-clause-refused
returns-in_default-find_field-clause-refused c =
    let w = c.args.whole in
    let fs = sig_row c.in-Some.fields.now in
    let is = some-case c.as_structure.result ((fs : SigRow) → c.body.result.now ≡ Sig.Str fs → ⊥) (λ f. c.body.result.now ≡ Sig.Str (sig_row f.now)) c.in-Some.fields c.in-Some.is c.as_structure.ensures in
    let none = none-case c.find_field.result (NoField c.args.name.now fs) (λ s. HasField fs c.args.name.now s.now) c.in_default-find_field.not-Some c.find_field.ensures in
    project_no-part w.effect w.sig w.types w.term c.args.name.now c.in_ok-share.field-0 c.body.result.now fs c.body.ensures is none c.in_ok-share.ensures

pub returns-clause-given : goal.returns-clause-given
returns-clause-given c =
    let fs = sig_row c.in-Some.fields.now in
    let is = some-case c.as_structure.result ((fs : SigRow) → c.body.result.now ≡ Sig.Str fs → ⊥) (λ f. c.body.result.now ≡ Sig.Str (sig_row f.now)) c.in-Some.fields c.in-Some.is c.as_structure.ensures in
    let has = some-case c.find_field.result (NoField c.args.name.now fs) (λ s. HasField fs c.args.name.now s.now) c.in-Some-find_field.part c.in-Some-find_field.is c.find_field.ensures in
    c.in_ok-part_of.ensures fs (sym c.body.ensures ∙ is) has
