use Rattle.std.proofs.Common.{◌≡◌, ap, ◌∙◌}
use Rattle.std.proofs.lemmas.Result.{IfOk-weaker}
use Rattle.omega_kinds.specs.View.{kind_tree}
use Rattle.omega_types.specs.EtaLong.{eta}
use Rattle.omega_types.specs.Index.{shift}
use Rattle.omega_types.specs.Ty.{Ty}
use Rattle.sig_rules.proofs.Putting.{eta-raised}
use Rattle.sig_rules.proofs.hidden.variable.Goals as goal

pub returns : goal.returns
returns c =
    let k = kind_tree c.args.kind.now in
    IfOk-weaker _ _ (λ (t : Ty). t ≡ eta k (Ty.Var c.args.index)) (λ t e. e ∙ (ap (shift c.args.index 0) c.in_ok-own.ensures ∙ eta-raised c.args.index k)) c.raise.ensures.value
