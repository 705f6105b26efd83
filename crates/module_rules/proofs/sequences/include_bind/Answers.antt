use Rattle.std.proofs.Common.{◌≡◌}
use Rattle.sig_definitions.specs.Signatures.Sig.{Sig, SigRow}
use Rattle.semantic_sigs.specs.Inner.Fields.{sig_row}
use Rattle.semantic_sigs.specs.Inner.Made.{module_of}
use Rattle.module_rules.proofs.Made.{include_no-structure, include-given}
use Rattle.module_rules.proofs.Options.{none-case, some-case}
use Rattle.module_rules.proofs.sequences.include_bind.Goals as goal

pub returns-in_default : goal.returns-in_default
returns-in_default c =
    let w = c.args.first in
    let none = none-case c.as_structure.result ((fs : SigRow) → c.body.result.now ≡ Sig.Str fs → ⊥) (λ f. c.body.result.now ≡ Sig.Str (sig_row f.now)) c.in_default.not-Some c.as_structure.ensures in
    record { given = tt; refused = include_no-structure w.effect w.sig w.types w.term c.body.result.now c.body.ensures none }

pub returns-clause-given : goal.returns-clause-given
returns-clause-given c =
    let a = c.args.first in
    let b = c.args.rest in
    let is = some-case c.as_structure.result ((fs : SigRow) → c.body.result.now ≡ Sig.Str fs → ⊥) (λ f. c.body.result.now ≡ Sig.Str (sig_row f.now)) c.in-Some.fields c.in-Some.is c.as_structure.ensures in
    include-given a.effect b.effect a.sig b.sig a.types b.types a.term b.term c.in_ok-term.term c.body.result.now (sig_row c.in-Some.fields.now) (module_of c.in_ok-seq_bind.field-0) c.body.ensures is c.in_ok-term.ensures c.in_ok-seq_bind.ensures
