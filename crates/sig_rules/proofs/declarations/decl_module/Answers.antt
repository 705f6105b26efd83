use Rattle.std.proofs.Common.{◌∙◌}
use Rattle.std.proofs.lemmas.Result.{IfOk-weaker}
use Rattle.sig_definitions.specs.Signatures.Sig.{Abs}
use Rattle.sig_judgments.specs.SigRules.{ModuleGives}
use Rattle.sig_rules.proofs.Declared.{module-given}
use Rattle.sig_rules.proofs.declarations.decl_module.Goals as goal

pub returns : goal.returns
returns c =
    IfOk-weaker _ _ (λ (x : Abs). ModuleGives c.args.name.now c.args.sig.now x) (λ x e. module-given c.args.name.now c.args.sig.now x c.in_ok-kinds.kinds c.in_ok-body.body (c.in_ok-kinds.ensures ∙ c.kinds.ensures) (c.in_ok-body.ensures ∙ c.body.ensures) e) c.one_part.ensures
