use Rattle.std.proofs.Common.{◌≡◌, sym, ◌∙◌, ap}
use Rattle.omega_kinds.specs.Kind.{Kind}
use Rattle.omega_kinds.specs.View.{kind_tree}
use Rattle.omega_types.specs.Ty.{Ty}
use Rattle.sig_definitions.specs.Signatures.Sig.{Sig}
use Rattle.module_rules.specs.Inner.Shown.{MentionsHidden, IsOutside}
use Rattle.std.proofs.Common.{length, subst}
use Rattle.module_judgments.specs.PathUse.{TypeOfPath}
use Rattle.semantic_sigs.specs.Inner.Made.{module_of}
use Rattle.module_rules.proofs.Made.{type-path, type-escapes, type-wrong}
use Rattle.module_rules.proofs.Options.{none-case, some-case}
use Rattle.module_rules.proofs.paths.path_type.Goals as goal

pub returns-in_default : goal.returns-in_default
returns-in_default c =
    let w = c.args.whole in
    let b = c.body.result.now in
    let none = none-case c.as_type.result ((t : Ty) (k : Kind) → b ≡ Sig.Typ t k → ⊥) (λ o. b ≡ Sig.Typ o.0.now (kind_tree o.1.now)) c.in_default.not-Some c.as_type.ensures in
    record { given = tt; refused = type-wrong w.effect w.sig w.types w.term b c.body.ensures none }

pub returns-in_default-2-clause-refused : goal.returns-in_default-2-clause-refused
returns-in_default-2-clause-refused c =
    let w = c.args.whole in
    let b = c.body.result.now in
    let count = c.count_of-count.result in
    let t = c.in-Some.shown.0.now in
    let k = kind_tree c.in-Some.shown.1.now in
    let is = some-case c.as_type.result ((t : Ty) (k : Kind) → b ≡ Sig.Typ t k → ⊥) (λ o. b ≡ Sig.Typ o.0.now (kind_tree o.1.now)) c.in-Some.shown c.in-Some.is c.as_type.ensures in
    let inside = none-case c.in_ok-ty.field-0 (MentionsHidden count t) (λ n. IsOutside count t n) c.in_default-2.not-Some c.in_ok-ty.ensures in
    type-escapes w.effect w.sig w.types w.term t k count inside.0 (sym c.body.ensures ∙ is) (sym (c.count_of-count.ensures ∙ ap length c.kinds.ensures)) inside.1 inside.2

pub returns-clause-given : goal.returns-clause-given
returns-clause-given c =
    let w = c.args.whole in
    let b = c.body.result.now in
    let count = c.count_of-count.result in
    let t = c.in-Some.shown.0.now in
    let k = kind_tree c.in-Some.shown.1.now in
    let is = some-case c.as_type.result ((t : Ty) (k : Kind) → b ≡ Sig.Typ t k → ⊥) (λ o. b ≡ Sig.Typ o.0.now (kind_tree o.1.now)) c.in-Some.shown c.in-Some.is c.as_type.ensures in
    let out = some-case c.in_ok-ty.field-0 (MentionsHidden count t) (λ n. IsOutside count t n) c.in-Some-2.ty c.in-Some-2.is c.in_ok-ty.ensures in
    λ ctx ok. subst (TypeOfPath ctx (module_of w) c.in-Some-2.ty) (sym c.in_ok-kind.ensures) (type-path w.effect w.sig w.types w.term t c.in-Some-2.ty k count (sym c.body.ensures ∙ is) (sym (c.count_of-count.ensures ∙ ap length c.kinds.ensures)) out.0 out.1 ctx ok)
