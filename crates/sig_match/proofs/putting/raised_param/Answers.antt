use Rattle.std.proofs.Common.{◌≡◌, List, length, ap, ap₂, ◌∙◌}
use Rattle.omega_kinds.specs.Kind.{Kind}
use Rattle.std.proofs.lemmas.Result.{IfOk-weaker}
use Rattle.omega_types.specs.Index.{bump}
use Rattle.sig_definitions.specs.Signatures.Sig.{Abs}
use Rattle.sig_definitions.specs.Signatures.SigSubst.{raise_abs, rename_abs}
use Rattle.sig_match.proofs.PutSteps.{raised-past}
use Rattle.sig_match.proofs.putting.raised_param.Goals as goal

pub returns : goal.returns
returns c =
    IfOk-weaker c.raise_abs.result _ (λ (x : Abs). (js : List Kind) → length js ≡ c.args.by → x ≡ raise_abs js (Abs.Ex c.args.functor.now.kinds.now c.args.functor.now.param.now)) (λ x h js l. h ∙ (ap (rename_abs (bump c.args.by 0)) (c.in_ok-abs.ensures ∙ ap₂ Abs.Ex c.in_ok-share.ensures c.in_ok-share-2.ensures) ∙ raised-past js c.args.by (Abs.Ex c.args.functor.now.kinds.now c.args.functor.now.param.now) l)) c.raise_abs.ensures.value
