use Rattle.std.proofs.Common.{◌≡◌, ap, sym, ◌∙◌, arith}
use Rattle.std.proofs.lemmas.Grind.{common_steps}
use Rattle.std.proofs.lemmas.Result.{IfOk-weaker}
use Rattle.omega_kinds.specs.declared.effect.Effect.TheVariants.{Pure}
use Rattle.sig_definitions.specs.Signatures.Sig.{Sig, Abs}
use Rattle.semantic_sigs.specs.Inner.View.{sig_of}
use Rattle.packages.specs.Inner.Normed.{normed_sig, normed_abs}
use Rattle.packages.proofs.Steps.{abs-ordered, impure-normed, pure-normed, row-normed}
use Rattle.packages.proofs.norms.+norm.Goals as goal

pub norm_abs-returns : goal.norm_abs-returns
norm_abs-returns t c =
    IfOk-weaker _ _ (λ (y : Abs). y ≡ normed_abs c.args.abs.now)
    (λ y e. abs-ordered c.args.abs.now y c.body.result.now c.in_ok-inner.inner c.in_ok-moved.moved c.kinds.result.now c.in_ok-order.order.kinds c.in_ok-order.order.places.items c.as_slice-places.result.now c.body.ensures c.kinds.ensures c.in_ok-inner.ensures c.in_ok-order.ensures c.as_slice-places.ensures.value c.in_ok-moved.ensures e) c.make.ensures

pub norm_sig-returns-in_ok-inner-in-Pure : goal.norm_sig-returns-in_ok-inner-in-Pure
norm_sig-returns-in_ok-inner-in-Pure t c =
    IfOk-weaker _ _ (λ (f : Sig). f ≡ normed_sig c.args.sig.now)
    (λ f e. pure-normed c.in-Fun.effect c.in-Fun.kinds c.in-Fun.param c.in_ok-from-in-Fun.from c.body.result.now c.in_ok-inner-in-Pure.inner c.args.sig.now f c.in-Fun.result (sym c.node.ensures ∙ ap sig_of c.in-Fun.is) c.in-Pure.is c.in_ok-from-in-Fun.ensures c.body.ensures c.in_ok-inner-in-Pure.ensures (e ∙ ap (λ js. Sig.Fun Pure c.in-Fun.kinds c.in_ok-from-in-Fun.from (Abs.Ex js c.in_ok-inner-in-Pure.inner)) c.kinds.ensures)) c.pure_functor.ensures

pub norm_sig-returns-in_ok-to-in-Impure : goal.norm_sig-returns-in_ok-to-in-Impure
norm_sig-returns-in_ok-to-in-Impure t c =
    IfOk-weaker _ _ (λ (f : Sig). f ≡ normed_sig c.args.sig.now)
    (λ f e. impure-normed c.in-Fun.effect c.in-Fun.kinds c.in-Fun.param c.in_ok-from-in-Fun.from c.args.sig.now f c.in-Fun.result c.in_ok-to-in-Impure.to (sym c.node.ensures ∙ ap sig_of c.in-Fun.is) c.in-Impure.is c.in_ok-from-in-Fun.ensures c.in_ok-to-in-Impure.ensures e) c.impure_functor.ensures

pub norm_fields-returns : goal.norm_fields-returns
norm_fields-returns t c = grind (arith, common_steps, row-normed)
