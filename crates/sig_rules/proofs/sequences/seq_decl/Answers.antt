use Rattle.std.proofs.Common.{◌≡◌, List, ◌++◌, ap₂, ◌∙◌}
use Rattle.std.proofs.lemmas.Result.{IfOk-weaker}
use Rattle.omega_kinds.specs.Kind.{Kind}
use Rattle.sig_definitions.specs.Signatures.Sig.{Abs, Sig, SigRow}
use Rattle.sig_judgments.specs.SigRules.{DeclarationsGive}
use Rattle.sig_rules.specs.Inner.Plain.{AreApart}
use Rattle.sig_rules.proofs.Merging.{sequence-given}
use Rattle.sig_rules.proofs.sequences.seq_decl.Goals as goal

pub returns : goal.returns
returns c =
    let first = c.args.first.now in
    let rest = c.args.rest.now in
    let later = c.items-later.ensures ∙ c.kinds.ensures in
    IfOk-weaker _ _ (λ (x : Abs). (ks js : List Kind) (fs gs : SigRow) → first ≡ Abs.Ex ks (Sig.Str fs) → rest ≡ Abs.Ex js (Sig.Str gs) → AreApart fs gs → DeclarationsGive first rest x)
    (λ x e. sequence-given first rest x c.items-later.result.now c.body.result.now c.body-2.result.now c.in_ok-raised.raised c.in_ok-fields.fields c.in_ok-kinds.kinds c.in_ok-body.body later c.body.ensures c.in_ok-raised.ensures.value c.body-2.ensures c.in_ok-fields.ensures (c.in_ok-kinds.ensures ∙ ap₂ ◌++◌ (c.items.ensures ∙ c.kinds-2.ensures) later) c.in_ok-body.ensures e) c.make-2.ensures
