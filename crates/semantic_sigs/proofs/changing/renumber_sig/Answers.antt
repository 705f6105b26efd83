use Rattle.std.proofs.Common.{◌≡◌, IfOk, subst}
use Rattle.sig_definitions.specs.Signatures.Sig.{Sig}
use Rattle.semantic_sigs.proofs.HeadLaws.{sig-moved}
use Rattle.semantic_sigs.proofs.changing.renumber_sig.Goals as goal

pub returns : goal.returns
returns c =
    subst (λ (u : Sig). IfOk c.changed_sig.result (λ s. s ≡ u)) (sig-moved c.args.places.now c.args.sig.now) c.changed_sig.ensures
