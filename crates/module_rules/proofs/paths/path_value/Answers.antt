use Rattle.std.proofs.Common.{◌≡◌, sym, ◌∙◌, ap}
use Rattle.omega_types.specs.Ty.{Ty}
use Rattle.sig_definitions.specs.Signatures.Sig.{Sig}
use Rattle.module_rules.specs.Inner.Shown.{MentionsHidden, IsOutside}
use Rattle.std.proofs.Common.{length}
use Rattle.module_rules.proofs.Made.{value-path, value-escapes, value-wrong}
use Rattle.module_rules.proofs.Options.{none-case, some-case}
use Rattle.module_rules.proofs.paths.path_value.Goals as goal

pub returns-in_default : goal.returns-in_default
returns-in_default c =
    let w = c.args.whole in
    let b = c.body.result.now in
    let none = none-case c.as_value.result ((t : Ty) → b ≡ Sig.Val t → ⊥) (λ t. b ≡ Sig.Val t.now) c.in_default.not-Some c.as_value.ensures in
    record { given = tt; refused = value-wrong w.effect w.sig w.types w.term b c.body.ensures none }

pub returns-in_default-2-clause-refused : goal.returns-in_default-2-clause-refused
returns-in_default-2-clause-refused c =
    let w = c.args.whole in
    let b = c.body.result.now in
    let count = c.count_of-count.result in
    let t = c.in-Some.shown.now in
    let is = some-case c.as_value.result ((t : Ty) → b ≡ Sig.Val t → ⊥) (λ t. b ≡ Sig.Val t.now) c.in-Some.shown c.in-Some.is c.as_value.ensures in
    let inside = none-case c.in_ok-ty.field-0 (MentionsHidden count t) (λ n. IsOutside count t n) c.in_default-2.not-Some c.in_ok-ty.ensures in
    value-escapes w.effect w.sig w.types w.term t count inside.0 (sym c.body.ensures ∙ is) (sym (c.count_of-count.ensures ∙ ap length c.kinds.ensures)) inside.1 inside.2

pub returns-clause-given : goal.returns-clause-given
returns-clause-given c =
    let w = c.args.whole in
    let b = c.body.result.now in
    let count = c.count_of-count.result in
    let t = c.in-Some.shown.now in
    let is = some-case c.as_value.result ((t : Ty) → b ≡ Sig.Val t → ⊥) (λ t. b ≡ Sig.Val t.now) c.in-Some.shown c.in-Some.is c.as_value.ensures in
    let out = some-case c.in_ok-ty.field-0 (MentionsHidden count t) (λ n. IsOutside count t n) c.in-Some-2.ty c.in-Some-2.is c.in_ok-ty.ensures in
    value-path w.effect w.sig w.types w.term c.in_ok-term.term t c.in-Some-2.ty count (sym c.body.ensures ∙ is) (sym (c.count_of-count.ensures ∙ ap length c.kinds.ensures)) out.0 out.1 c.in_ok-term.ensures
