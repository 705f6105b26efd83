use Rattle.std.proofs.Common.{◌≡◌, IfOk, ◌∙◌, subst}
use Rattle.sig_definitions.specs.Signatures.Sig.{Sig}
use Rattle.std.proofs.lemmas.Result.{IfOk-weaker}
use Rattle.semantic_sigs.proofs.HeadLaws.{sig-lowered}
use Rattle.semantic_sigs.proofs.Lowered.{lowered-raised, lowered-normal}
use Rattle.semantic_sigs.proofs.changing.lower_sig.Goals as goal

pub returns-clause-value : goal.returns-clause-value
returns-clause-value c =
    subst (λ (u : Sig). IfOk c.changed_sig.result (λ s. s ≡ u)) (sig-lowered c.args.by c.args.sig.now) c.changed_sig.ensures

pub returns-clause-raised : goal.returns-clause-raised
returns-clause-raised c =
    IfOk-weaker _ _ _ (λ s e. lowered-raised c.args.by c.args.sig.now s (e ∙ sig-lowered c.args.by c.args.sig.now)) c.changed_sig.ensures

pub returns-clause-normal : goal.returns-clause-normal
returns-clause-normal c =
    IfOk-weaker _ _ _ (λ s e. lowered-normal c.args.by c.args.sig.now s (e ∙ sig-lowered c.args.by c.args.sig.now)) c.changed_sig.ensures
