use Rattle.std.proofs.Common.{List}
use Rattle.std.proofs.lemmas.Result.{IfOk-weaker}
use Rattle.omega_kinds.specs.Kind.{Kind}
use Rattle.omega_types.specs.Binders.{extend}
use Rattle.sig_laws.specs.Good.{KindedModule}
use Rattle.semantic_sigs.specs.Inner.Made.{module_of}
use Rattle.semantic_sigs.specs.Inner.View.{body_of, kinds_of}
use Rattle.semantic_sigs.specs.declared.made.Module.{Module}
use Rattle.module_judgments.specs.ModRules.{GenerativeGives}
use Rattle.module_rules.proofs.Made.{generative-made}
use Rattle.module_rules.proofs.functors.gen_functor.Goals as goal

pub returns : goal.returns
returns c =
    let x = c.args.param.now in
    let b = c.args.body in
    let term = c.in_ok-term.ensures in
    IfOk-weaker _ _ (λ (m : Module). (ctx : List Kind) → KindedModule (extend ctx (kinds_of x)) (module_of b) → GenerativeGives ctx (kinds_of x) (body_of x) (module_of b) (module_of m))
    (λ m q. generative-made x b.sig c.in_ok-sig.sig b.effect b.types b.term term.0 c.in_ok-term.term (module_of m) term.1 term.2 c.in_ok-sig.ensures q) c.open_module.ensures
