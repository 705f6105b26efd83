use Rattle.std.proofs.Common.{◌≡◌, IfOk, subst}
use Rattle.sig_definitions.specs.Signatures.Sig.{Abs}
use Rattle.semantic_sigs.proofs.HeadLaws.{abs-moved}
use Rattle.semantic_sigs.proofs.changing.renumber_abs.Goals as goal

pub returns : goal.returns
returns c =
    subst (λ (u : Abs). IfOk c.changed_abs.result (λ x. x ≡ u)) (abs-moved c.args.places.now c.args.abs.now) c.changed_abs.ensures
