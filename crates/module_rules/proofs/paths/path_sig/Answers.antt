use Rattle.std.proofs.Common.{◌≡◌, sym, ◌∙◌, ap}
use Rattle.sig_definitions.specs.Signatures.Sig.{Sig, Abs}
use Rattle.module_rules.specs.Inner.Shown.{SigMentionsHidden, SigIsOutside}
use Rattle.std.proofs.Common.{length}
use Rattle.omega_types.specs.Index.{bump}
use Rattle.module_rules.proofs.Made.{sig-wrong, still-shown, sig-escapes-at, sig-path-at}
use Rattle.module_rules.proofs.Options.{none-case, some-case}
use Rattle.module_rules.proofs.paths.path_sig.Goals as goal

pub returns-in_default : goal.returns-in_default
returns-in_default c =
    let w = c.args.whole in
    let b = c.body.result.now in
    let none = none-case c.as_signature.result ((x : Abs) → b ≡ Sig.Meta x → ⊥) (λ x. b ≡ Sig.Meta x.now) c.in_default.not-Some c.as_signature.ensures in
    record { given = tt; refused = sig-wrong w.effect w.sig w.types w.term b c.body.ensures none }

pub returns-in_default-2-clause-refused : goal.returns-in_default-2-clause-refused
returns-in_default-2-clause-refused c =
    let w = c.args.whole in
    let b = c.body.result.now in
    let count = c.count_of-count.result in
    let is = some-case c.as_signature.result ((x : Abs) → b ≡ Sig.Meta x → ⊥) (λ x. b ≡ Sig.Meta x.now) c.in-Some._hiding c.in-Some.is c.as_signature.ensures in
    let inside = none-case c.in_ok-sig.field-0 (SigMentionsHidden count c.body-2.result.now) (λ n. SigIsOutside count c.body-2.result.now n) c.in_default-2.not-Some c.in_ok-sig.ensures in
    sig-escapes-at w.effect w.sig w.types w.term b c.body-2.result.now c.in-Some._hiding.now count inside.0 c.body.ensures c.body-2.ensures is (sym (c.count_of-count.ensures ∙ ap length c.kinds.ensures)) inside.1 inside.2

pub unreachable-requires : goal.unreachable-requires
unreachable-requires c =
    let b = c.body.result.now in
    let count = c.count_of-count.result in
    let is = some-case c.as_signature.result ((x : Abs) → b ≡ Sig.Meta x → ⊥) (λ x. b ≡ Sig.Meta x.now) c.in-Some._hiding c.in-Some.is c.as_signature.ensures in
    let out = some-case c.in_ok-sig.field-0 (SigMentionsHidden count c.body-2.result.now) (λ n. SigIsOutside count c.body-2.result.now n) c.in-Some-2.sig c.in-Some-2.is c.in_ok-sig.ensures in
    let none = none-case c.as_signature-2.result ((x : Abs) → c.in-Some-2.sig ≡ Sig.Meta x → ⊥) (λ x. c.in-Some-2.sig ≡ Sig.Meta x.now) c.in_default-as_signature.not-Some c.as_signature-2.ensures in
    still-shown (bump count 0) c.in-Some-2.sig c.body-2.result.now c.in-Some._hiding.now out.0 (c.body-2.ensures ∙ (sym c.body.ensures ∙ is)) none

pub returns-clause-given : goal.returns-clause-given
returns-clause-given c =
    let w = c.args.whole in
    let b = c.body.result.now in
    let count = c.count_of-count.result in
    let is = some-case c.as_signature.result ((x : Abs) → b ≡ Sig.Meta x → ⊥) (λ x. b ≡ Sig.Meta x.now) c.in-Some._hiding c.in-Some.is c.as_signature.ensures in
    let out = some-case c.in_ok-sig.field-0 (SigMentionsHidden count c.body-2.result.now) (λ n. SigIsOutside count c.body-2.result.now n) c.in-Some-2.sig c.in-Some-2.is c.in_ok-sig.ensures in
    let found = some-case c.as_signature-2.result ((x : Abs) → c.in-Some-2.sig ≡ Sig.Meta x → ⊥) (λ x. c.in-Some-2.sig ≡ Sig.Meta x.now) c.in-Some-as_signature.shown c.in-Some-as_signature.is c.as_signature-2.ensures in
    sig-path-at w.effect w.sig w.types w.term b c.body-2.result.now c.in-Some._hiding.now c.in_ok-share.field-0 c.in-Some-as_signature.shown.now c.in-Some-2.sig count c.body.ensures c.body-2.ensures is (sym (c.count_of-count.ensures ∙ ap length c.kinds.ensures)) out.0 found c.in_ok-share.ensures out.1
