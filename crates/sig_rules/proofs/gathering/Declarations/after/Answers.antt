use Rattle.std.proofs.Common.{◌≡◌, ◌++◌, refl, ap, ap₂, ◌∙◌, subst}
use Rattle.sig_definitions.specs.Signatures.Sig.{Abs, Sig}
use Rattle.semantic_sigs.specs.Inner.Fields.{sig_row}
use Rattle.semantic_sigs.specs.Inner.View.{kinds_of}
use Rattle.sig_rules.proofs.Gathered.{gathered-given}
use Rattle.sig_rules.proofs.gathering.Declarations.after.Goals as goal

pub returns : goal.returns
returns c =
    let rest = c.self.view_is in
    let old = c.self.inside.parts.entries in
    let structure : c.args.self ≡ Abs.Ex (kinds_of c.args.self) (Sig.Str (sig_row old)) = subst (λ y. y ≡ Abs.Ex (kinds_of y) (Sig.Str (sig_row old))) rest refl in
    let kinds = c.in_ok-kinds.ensures ∙ ap₂ ◌++◌ (c.items-2.ensures ∙ c.kinds-2.ensures) (c.items-3.ensures ∙ ap kinds_of rest) in
    gathered-given c.args.first.now c.args.self _ c.items.result.now c.body.result.now c.in_ok-raised.raised c.in_ok-kinds.kinds old c.add_parts.new.parts.entries (c.items.ensures ∙ ap kinds_of rest) c.body.ensures c.in_ok-raised.ensures.value structure c.in_ok-add_parts.ensures kinds refl
