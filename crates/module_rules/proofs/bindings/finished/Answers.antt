use Rattle.std.proofs.Common.{◌≡◌, [], ap₂, ◌∙◌}
use Rattle.std.proofs.lemmas.Result.{IfOk-weaker}
use Rattle.omega_kinds.specs.declared.effect.Effect.TheVariants.{Pure}
use Rattle.omega_terms.specs.Fields.{term_row}
use Rattle.omega_terms.specs.Term.{Term}
use Rattle.sig_definitions.specs.Signatures.Sig.{Abs, Sig, made}
use Rattle.semantic_sigs.specs.Inner.Fields.{sig_row}
use Rattle.semantic_sigs.specs.Inner.Made.{module_of}
use Rattle.semantic_sigs.specs.declared.made.Module.{Module}
use Rattle.module_rules.proofs.bindings.finished.Goals as goal

pub returns : goal.returns
returns c =
    IfOk-weaker _ _ (λ (m : Module). module_of m ≡ made Pure (Abs.Ex [] (Sig.Str (sig_row c.args.parts))) [] (Term.Fields (term_row c.args.terms)))
    (λ m q. q ∙ ap₂ (λ s e. made Pure (Abs.Ex [] s) [] e) c.in_ok-sig.ensures c.in_ok-term.ensures) c.open_module.ensures
