use Rattle.std.proofs.Common.{sym, ◌∙◌, ap}
use Rattle.packages.specs.Inner.First.{first_type}
use Rattle.packages.proofs.SweepLaws.{sweeps-rootless, sweeps-next, took-within, on-both}
use Rattle.packages.proofs.sweeping.Sweep.take_rooted.Goals as goal

pub returns-in_default-clause-swept : goal.returns-in_default-clause-swept
returns-in_default-clause-swept c =
    sweeps-rootless c.args.depth c.args.ty.now (ap (λ ps. first_type ps c.args.depth c.args.ty.now) (sym c.as_slice.ensures.value) ∙ (sym c.in_ok-index.ensures ∙ c.in_default.is))

pub take-requires-clause-within : goal.take-requires-clause-within
take-requires-clause-within c =
    took-within c.args.depth c.args.ty.now _ (ap (λ ps. first_type ps c.args.depth c.args.ty.now) (sym c.as_slice.ensures.value) ∙ (sym c.in_ok-index.ensures ∙ c.in-Some.is)) c.requires

pub returns-clause-swept : goal.returns-clause-swept
returns-clause-swept c =
    let is = ap (λ ps. first_type ps c.args.depth c.args.ty.now) (sym c.as_slice.ensures.value) ∙ (sym c.in_ok-index.ensures ∙ c.in-Some.is) in
    on-both c.take.result c.take.ensures.kinds c.take.ensures.places (λ k p. sweeps-next c.args.depth c.args.ty.now is c.if-self-eq0.false k p)
