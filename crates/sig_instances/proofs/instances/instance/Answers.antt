use Rattle.std.specs.Prelude.{List}
use Rattle.std.proofs.Common.{◌≡◌, sym}
use Rattle.std.proofs.lemmas.Bool.{eqb-true}
use Rattle.std.proofs.lemmas.Result.{IfOk-weaker}
use Rattle.omega_kinds.specs.Kind.{Kind}
use Rattle.omega_types.specs.Ty.{Ty}
use Rattle.omega_types.specs.Binders.{extend, puts, NormalForms}
use Rattle.omega_terms.specs.Instance.{Instance}
use Rattle.sig_laws.specs.Good.{NormalTerm}
use Rattle.sig_instances.proofs.InstanceLaws.{instance_at_none}
use Rattle.sig_instances.proofs.instances.instance.Goals as goal

pub returns-then-is_empty : goal.returns-then-is_empty
returns-then-is_empty c =
    let ts = c.args.types.now in
    let e = c.args.term.now in
    IfOk-weaker c.share.result (λ d. d ≡ e) (λ d. (ctx ks : List Kind) → NormalTerm (extend ctx ks) e → NormalForms ctx ts ks ts → Instance (extend ctx ks) ctx (puts ts Ty.Var) e d)
    (λ d h. instance_at_none ts e d (eqb-true _ _ (sym c.if-is_empty.ensures)) h) c.share.ensures
