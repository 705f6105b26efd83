use Rattle.std.proofs.Common.{◌∙◌}
use Rattle.std.proofs.lemmas.Result.{IfOk-weaker}
use Rattle.sig_definitions.specs.Signatures.Sig.{Abs}
use Rattle.sig_judgments.specs.SigRules.{GenerativeGives}
use Rattle.sig_rules.proofs.Declared.{generative-given}
use Rattle.sig_rules.proofs.declarations.functor_sig.Goals as goal

pub returns : goal.returns
returns c =
    IfOk-weaker _ _ (λ (x : Abs). GenerativeGives c.args.param.now c.args.target.now x) (λ x e. generative-given c.args.param.now c.args.target.now x c.in_ok-share-3.field-0 c.in_ok-share.field-0 c.new.result c.in_ok-share-2.field-0 c.in_ok-functor.functor (c.in_ok-share.ensures ∙ c.kinds.ensures) (c.in_ok-share-2.ensures ∙ c.body.ensures) c.in_ok-share-3.ensures c.in_ok-functor.ensures c.new.ensures e) c.make-2.ensures
