use Rattle.std.proofs.Common.{Bool, IsTrue, sym, ap, subst, ◌∙◌}
use Rattle.std.proofs.lemmas.Result.{IfOk-weaker}
use Rattle.semantic_sigs.specs.Inner.View.{sig_of}
use Rattle.semantic_sigs.specs.Inner.Fields.{SigPairs, sig_row}
use Rattle.packages.specs.Inner.First.{barred, first, first_row}
use Rattle.packages.specs.Inner.Swept.{Sweeps}
use Rattle.packages.proofs.SweepLaws.{sweeps-typ, sweeps-str, sweeps-val, sweeps-meta, sweeps-impure, sweeps-pure, came-last}
use Rattle.packages.proofs.sweeping.Sweep.+sweep.Goals as goal

pub through-returns-in_ok-take_rooted-in-Typ-clause-swept : goal.through-returns-in_ok-take_rooted-in-Typ-clause-swept
through-returns-in_ok-take_rooted-in-Typ-clause-swept t c = λ h. sweeps-typ c.args.depth c.plain.result.now (sym c.node.ensures ∙ ap sig_of c.in-Typ.is) c.plain.ensures c.in_ok-take_rooted-in-Typ.ensures.swept

pub through-returns-in-Str-clause-swept : goal.through-returns-in-Str-clause-swept
through-returns-in-Str-clause-swept t c =
    let old = c.args.self.now in
    IfOk-weaker c.through_fields.result _ (λ (b : Bool). IsTrue b → Sweeps c.args.kinds.now (λ ps. first ps c.args.depth c.args.sig.now) old c.through_fields.new.self)
    (λ b h k. sweeps-str c.args.depth (sym c.node.ensures ∙ ap sig_of c.in-Str.is) (h k)) c.through_fields.ensures.swept

pub through-returns-else-is_barred-clause-swept : goal.through-returns-else-is_barred-clause-swept
through-returns-else-is_barred-clause-swept t c =
    let old = c.args.self.now in
    IfOk-weaker c.through.result _ (λ (b : Bool). IsTrue b → Sweeps c.args.kinds.now (λ ps. first ps c.args.depth c.args.sig.now) old c.through.new.self)
    (λ b h k. sweeps-pure c.args.depth (sym c.node.ensures ∙ ap sig_of c.in-Fun.is) c.in-Pure.is c.in_ok-inner-in-Pure.ensures c.body.ensures (ap (λ ps. barred ps c.in_ok-inner-in-Pure.inner c.in-Fun.param) (sym c.as_slice.ensures.value) ∙ (sym c.is_barred.ensures ∙ c.if-is_barred.false)) (h k)) c.through.ensures.swept

pub through-returns-in-Impure-clause-swept : goal.through-returns-in-Impure-clause-swept
through-returns-in-Impure-clause-swept t c = λ h. sweeps-impure c.args.depth (sym c.node.ensures ∙ ap sig_of c.in-Fun.is) c.in-Impure.is

pub through-returns-in-Val-clause-swept : goal.through-returns-in-Val-clause-swept
through-returns-in-Val-clause-swept t c = λ h. sweeps-val c.args.depth (sym c.node.ensures ∙ ap sig_of c.in-Val.is)

pub through-returns-in-Meta-clause-swept : goal.through-returns-in-Meta-clause-swept
through-returns-in-Meta-clause-swept t c = λ h. sweeps-meta c.args.depth (sym c.node.ensures ∙ ap sig_of c.in-Meta.is)

pub through_fields-returns-clause-swept : goal.through_fields-returns-clause-swept
through_fields-returns-clause-swept t c = λ h.
    subst (λ (xs : SigPairs). Sweeps c.args.kinds.now (λ ps. first_row ps c.args.depth (sig_row xs)) c.args.self.now c.loop-field.self) c.items-field-items.ensures.value
    (came-last c.loop-field-test.false c.loop-field.invariant.1)
