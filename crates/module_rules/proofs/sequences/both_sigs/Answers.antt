use Rattle.std.proofs.Common.{◌≡◌, ◌++◌, ap₂, ◌∙◌}
use Rattle.std.proofs.lemmas.Result.{IfOk-weaker}
use Rattle.sig_definitions.specs.Signatures.Sig.{Abs}
use Rattle.semantic_sigs.specs.Inner.View.{body_of, kinds_of}
use Rattle.module_rules.proofs.sequences.both_sigs.Goals as goal

pub returns : goal.returns
returns c =
    let x = c.args.first.now in
    let y = c.args.rest.now in
    IfOk-weaker _ _ (λ (z : Abs). z ≡ Abs.Ex (kinds_of x ++ kinds_of y) (body_of y))
    (λ z e. e ∙ ap₂ Abs.Ex (c.in_ok-kinds.ensures ∙ ap₂ (λ ks js. ks ++ js) c.kinds.ensures c.kinds-2.ensures) (c.in_ok-body.ensures ∙ c.body.ensures)) c.make.ensures
