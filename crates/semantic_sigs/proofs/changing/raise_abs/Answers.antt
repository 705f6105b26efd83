use Rattle.std.proofs.Common.{◌≡◌, IfOk, ◌∙◌, subst}
use Rattle.std.proofs.lemmas.Result.{IfOk-weaker}
use Rattle.sig_definitions.specs.Signatures.Sig.{Abs}
use Rattle.semantic_sigs.proofs.HeadLaws.{abs-raised, abs-raised-normal}
use Rattle.semantic_sigs.proofs.changing.raise_abs.Goals as goal

pub returns-clause-value : goal.returns-clause-value
returns-clause-value c =
    subst (λ (u : Abs). IfOk c.changed_abs.result (λ x. x ≡ u)) (abs-raised c.args.by c.args.from c.args.abs.now) c.changed_abs.ensures

pub returns-clause-normal : goal.returns-clause-normal
returns-clause-normal c =
    IfOk-weaker _ _ _ (λ x e. abs-raised-normal c.args.by c.args.from c.args.abs.now x (e ∙ abs-raised c.args.by c.args.from c.args.abs.now)) c.changed_abs.ensures
