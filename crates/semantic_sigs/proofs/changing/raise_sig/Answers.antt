use Rattle.std.proofs.Common.{◌≡◌, IfOk, ◌∙◌, subst}
use Rattle.std.proofs.lemmas.Result.{IfOk-weaker}
use Rattle.sig_definitions.specs.Signatures.Sig.{Sig}
use Rattle.semantic_sigs.proofs.HeadLaws.{sig-raised, sig-raised-normal}
use Rattle.semantic_sigs.proofs.changing.raise_sig.Goals as goal

pub returns-clause-value : goal.returns-clause-value
returns-clause-value c =
    subst (λ (u : Sig). IfOk c.changed_sig.result (λ x. x ≡ u)) (sig-raised c.args.by c.args.from c.args.sig.now) c.changed_sig.ensures

pub returns-clause-normal : goal.returns-clause-normal
returns-clause-normal c =
    IfOk-weaker _ _ _ (λ x e. sig-raised-normal c.args.by c.args.from c.args.sig.now x (e ∙ sig-raised c.args.by c.args.from c.args.sig.now)) c.changed_sig.ensures
