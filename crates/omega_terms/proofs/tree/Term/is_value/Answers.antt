use Rattle.std.proofs.Common.{◌≡◌, ◌↔◌, IsTrue, Bool, sym, subst, ap, ◌∙◌}
use Rattle.omega_terms.specs.Steps.{IsValue}
use Rattle.omega_terms.specs.Inner.ValueTest.{value_test}
use Rattle.omega_terms.specs.declared.tree.Made.{Made}
use Rattle.omega_terms.proofs.ValueTests.{test-exact}
use Rattle.omega_terms.proofs.tree.Term.is_value.Goals as goal

pub returns-clause-value : goal.returns-clause-value
returns-clause-value c =
    let e : c.deref.result.now.is_value ≡ value_test c.args.self.now = ap (λ (m : Made). m.is_value) c.deref.ensures ∙ c.self.invariant.4 ∙ ap value_test c.self.view_is in
    subst (λ (b : Bool). IsTrue b ↔ IsValue c.args.self.now) (sym e) (test-exact c.args.self.now)
