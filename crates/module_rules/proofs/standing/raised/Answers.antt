use Rattle.std.proofs.Common.{[], ap₂, ◌∙◌}
use Rattle.std.proofs.lemmas.Result.{IfOk-weaker}
use Rattle.omega_kinds.specs.declared.effect.Effect.TheVariants.{Pure}
use Rattle.sig_definitions.specs.Signatures.Sig.{Abs, made}
use Rattle.module_rules.proofs.standing.raised.Goals as goal

pub returns : goal.returns
returns c = IfOk-weaker c.open_module.result _ _ (λ m h. h ∙ ap₂ (λ s e. made Pure (Abs.Ex [] s) [] e) c.in_ok-sig.ensures.value c.in_ok-term.ensures) c.open_module.ensures
