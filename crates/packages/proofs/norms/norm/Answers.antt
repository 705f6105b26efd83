use Rattle.std.proofs.Common.{List}
use Rattle.std.proofs.lemmas.Result.{IfOk-weaker}
use Rattle.omega_kinds.specs.Kind.{Kind}
use Rattle.sig_laws.specs.Good.{OkRight}
use Rattle.sig_definitions.specs.QuantifierOrder.{Norm}
use Rattle.sig_definitions.specs.Signatures.Sig.{Abs}
use Rattle.packages.proofs.NormedLaws.{norm-value, norm-good}
use Rattle.packages.proofs.norms.norm.Goals as goal

pub returns-clause-value : goal.returns-clause-value
returns-clause-value c =
    IfOk-weaker _ _ (λ (y : Abs). (ctx : List Kind) → OkRight ctx c.args.abs.now → Norm ctx c.args.abs.now y) (λ y e. norm-value c.args.abs.now y e) c.norm_abs.ensures

pub returns-clause-good : goal.returns-clause-good
returns-clause-good c =
    IfOk-weaker _ _ (λ (y : Abs). (ctx : List Kind) → OkRight ctx c.args.abs.now → OkRight ctx y) (λ y e. norm-good c.args.abs.now y e) c.norm_abs.ensures
