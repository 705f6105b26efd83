use Rattle.std.proofs.Common.{◌≡◌}
use Rattle.std.proofs.lemmas.Result.{IfOk-weaker}
use Rattle.omega_terms.specs.Shorthands.{opens}
use Rattle.omega_terms.specs.Term.{Term}
use Rattle.sig_definitions.specs.Signatures.Encoding.{enc_abs}
use Rattle.semantic_sigs.specs.Inner.View.{kinds_of}
use Rattle.module_rules.proofs.Made.{opened-by}
use Rattle.module_rules.proofs.projecting.opened.Goals as goal

pub returns : goal.returns
returns c =
    let x = c.args.sig.now in
    IfOk-weaker _ _ (λ (e : Term). e ≡ opens (kinds_of x) c.args.term (enc_abs x) c.args.body)
    (λ e q. opened-by (kinds_of x) c.kinds.result.now c.count_of.result c.args.term c.args.body e c.in_ok-from.from (enc_abs x) c.count_of.ensures c.kinds.ensures c.in_ok-from.ensures q) c.opens.ensures.opens
