use Rattle.std.proofs.Common.{◌≡◌, refl}
use Rattle.sig_definitions.specs.Signatures.Sig.{Sig, SigRow, HasField, NoField}
use Rattle.semantic_sigs.specs.Inner.Fields.{sig_row}
use Rattle.module_rules.proofs.Options.{none-case, some-case}
use Rattle.module_rules.proofs.StandingParts.{no-part, no-structure, part-given}
use Rattle.module_rules.proofs.standing.standing_part.Goals as goal

pub returns-in_default : goal.returns-in_default
returns-in_default c =
    let whole = c.args.whole.now in
    let none = none-case c.as_structure.result ((fs : SigRow) → whole.sig.now ≡ Sig.Str fs → ⊥) (λ f. whole.sig.now ≡ Sig.Str (sig_row f.now)) c.in_default.not-Some c.as_structure.ensures in
    record { given = tt; refused = no-structure whole c.args.name.now none }

pub returns-in_default-find_field-clause-refused : goal.returns-in_default-find_field-clause-refused
returns-in_default-find_field-clause-refused c =
    let whole = c.args.whole.now in
    let fs = sig_row c.in-Some.fields.now in
    let is = some-case c.as_structure.result ((fs : SigRow) → whole.sig.now ≡ Sig.Str fs → ⊥) (λ f. whole.sig.now ≡ Sig.Str (sig_row f.now)) c.in-Some.fields c.in-Some.is c.as_structure.ensures in
    let none = none-case c.find_field.result (NoField c.args.name.now fs) (λ s. HasField fs c.args.name.now s.now) c.in_default-find_field.not-Some c.find_field.ensures in
    no-part whole fs c.args.name.now c.in_ok-share.field-0 is none c.in_ok-share.ensures

pub returns-clause-given : goal.returns-clause-given
returns-clause-given c =
    let whole = c.args.whole.now in
    let fs = sig_row c.in-Some.fields.now in
    let is = some-case c.as_structure.result ((fs : SigRow) → whole.sig.now ≡ Sig.Str fs → ⊥) (λ f. whole.sig.now ≡ Sig.Str (sig_row f.now)) c.in-Some.fields c.in-Some.is c.as_structure.ensures in
    let has = some-case c.find_field.result (NoField c.args.name.now fs) (λ s. HasField fs c.args.name.now s.now) c.in-Some-find_field.sig c.in-Some-find_field.is c.find_field.ensures in
    part-given whole (record { sig = c.in-Some-find_field.sig; types = whole.types; term = c.in_ok-term.term }) fs c.args.name.now is has refl c.in_ok-term.ensures
