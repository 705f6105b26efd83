use Rattle.std.proofs.Common.{[], sym, refl, subst, ◌∙◌}
use Rattle.omega_node_laws.specs.NodeTypes.{HoldsNodeTypes}
use Rattle.omega_node_laws.proofs.CheckSteps.{no-wanted, no-found, checks, fails, holds, wanted-below}
use Rattle.omega_checker.proofs.checked.check.Goals as goal

pub returns-in_default : goal.returns-in_default
returns-in_default c =
    no-wanted c.new-scope.result c.named.new.self c.args.term c.args.ty c.in_ok-wanted.field-0 c.new-scope.ensures.kinds c.new-scope.ensures.vars
    c.in_ok-wanted.ensures c.in_default.not-Some

pub returns-in_default-2 : goal.returns-in_default-2
returns-in_default-2 c =
    no-found c.new-scope.result c.named.new.self c.args.term c.args.ty c.in_ok-wanted.field-0 c.new-scope.ensures.kinds c.new-scope.ensures.vars
    c.in_ok-wanted.ensures c.synth.new.scope c.in_ok-found.field-0 c.in_ok-found.ensures c.in_default-2.not-Some

pub invariant_of-result : goal.invariant_of-result
invariant_of-result c =
    let typed =
    checks c.new-scope.result c.named.new.self c.args.term c.args.ty c.in_ok-wanted.field-0 c.new-scope.ensures.kinds c.new-scope.ensures.vars
    c.in_ok-wanted.ensures c.synth.new.scope c.in_ok-found.field-0 c.in_ok-found.ensures c.in-Some.wanted c.in-Some-2.found c.in-Some.is c.in-Some-2.is
    (sym c.same.ensures ∙ c.if-same.true) in
    let held =
    holds c.new-scope.result c.named.new.self c.args.term c.args.ty c.in_ok-wanted.field-0 c.new-scope.ensures.kinds c.new-scope.ensures.vars
    c.in_ok-wanted.ensures c.synth.new.scope c.in_ok-found.field-0 c.in_ok-found.ensures c.in-Some.wanted c.in-Some-2.found c.in-Some.is c.in-Some-2.is typed in
    (typed, subst (λ ts. HoldsNodeTypes ts [] [] c.args.term) (sym c.into_store-store.ensures) held)

pub returns-then-same : goal.returns-then-same
returns-then-same c = (
  refl,
  refl,
  checks c.new-scope.result c.named.new.self c.args.term c.args.ty c.in_ok-wanted.field-0 c.new-scope.ensures.kinds c.new-scope.ensures.vars
      c.in_ok-wanted.ensures c.synth.new.scope c.in_ok-found.field-0 c.in_ok-found.ensures c.in-Some.wanted c.in-Some-2.found c.in-Some.is c.in-Some-2.is
      (sym c.same.ensures ∙ c.if-same.true),
)

pub returns-else-same : goal.returns-else-same
returns-else-same c =
    fails c.new-scope.result c.named.new.self c.args.term c.args.ty c.in_ok-wanted.field-0 c.new-scope.ensures.kinds c.new-scope.ensures.vars
    c.in_ok-wanted.ensures c.synth.new.scope c.in_ok-found.field-0 c.in_ok-found.ensures c.in-Some.wanted c.in-Some-2.found c.in-Some.is c.in-Some-2.is
    (sym c.same.ensures ∙ c.if-same.false)

pub same-requires-clause-right : goal.same-requires-clause-right
same-requires-clause-right c =
    wanted-below c.new-scope.result c.named.new.self c.args.term c.args.ty c.in_ok-wanted.field-0 c.new-scope.ensures.kinds c.new-scope.ensures.vars
    c.in_ok-wanted.ensures c.synth.new.scope c.in_ok-found.field-0 c.in_ok-found.ensures c.in-Some.wanted c.in-Some-2.found c.in-Some.is c.in-Some-2.is
