use Rattle.std.proofs.Common.{◌≡◌, ◌∙◌}
use Rattle.std.proofs.lemmas.Result.{IfOk-weaker}
use Rattle.omega_kinds.specs.declared.effect.Effect.TheVariants.{Impure}
use Rattle.sig_definitions.specs.Signatures.Sig.{Sig}
use Rattle.semantic_sigs.specs.Inner.View.{kinds_of, body_of}
use Rattle.module_rules.proofs.Made.{generative-sig}
use Rattle.module_rules.proofs.functors.generative_sig.Goals as goal

pub returns : goal.returns
returns c =
    let x = c.args.param.now in
    IfOk-weaker _ _ (λ (s : Sig). s ≡ Sig.Fun Impure (kinds_of x) (body_of x) c.args.target)
    (λ s e. generative-sig (kinds_of x) c.in_ok-kinds.kinds (body_of x) c.in_ok-from.from c.args.target s (c.in_ok-kinds.ensures ∙ c.kinds.ensures) (c.in_ok-from.ensures ∙ c.body.ensures) e) c.make.ensures
