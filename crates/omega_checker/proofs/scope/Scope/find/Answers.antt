use Rattle.std.proofs.Common.{◌≡◌, ◌<◌, ◌≤◌, ◌-◌, Some, length, None, get_or, slice_get, subst}
use Rattle.omega_types.specs.Inner.Scope.{scope_of}
use Rattle.omega_types.specs.Index.{shift}
use Rattle.type_store.specs.Numbers.{NumberOf}
use Rattle.type_store.specs.Trees.{Holds, at}
use Rattle.omega_node_laws.specs.Scope.{Scope, types_of}
use Rattle.omega_node_laws.proofs.ScopeSteps.{wrapped-find, found-none, var-at, no-var}
use Rattle.omega_checker.proofs.scope.Scope.find.Goals as goal

pub returns-in_ok-number : goal.returns-in_ok-number
returns-in_ok-number c =
    let s = c.self.inside in
    let list = c.as_slice-vars.ensures.value in
    let var = c.variable-var.result in
    let n = c.in_ok-number.number in
    let inside = subst (λ xs. c.args.index < length xs) list c.if-index-vars.true in
    let whole : Scope = record { types = s.types; kinds = scope_of s.kinds.items; depth = length s.kinds.items; vars = s.vars.items } in
    let there = subst (λ xs. var ≡ get_or xs (length xs - 1 - c.args.index) var) list c.variable-var.ensures in
    let is = var-at whole c.args.index var inside there in
    let held = subst (λ ks. Holds c.shift.new.self n (shift (length ks - var.1) 0 (at s.types var.0))) c.as_slice.ensures.value c.in_ok-number.ensures.number in
    wrapped-find (λ r. slice_get (types_of r) c.args.index) s.types c.shift.new.self (scope_of s.kinds.items) (length s.kinds.items) s.vars.items
    (Some n) c.self.view_is c.self.invariant c.shift.ensures.grows (subst (NumberOf c.shift.new.self (Some n)) is held)

pub returns-else-index-vars : goal.returns-else-index-vars
returns-else-index-vars c =
    let s = c.self.inside in
    let whole : Scope = record { types = s.types; kinds = scope_of s.kinds.items; depth = length s.kinds.items; vars = s.vars.items } in
    let past = subst (λ xs. length xs ≤ c.args.index) c.as_slice-vars.ensures.value c.if-index-vars.false in
    found-none (slice_get (types_of c.args.self.now) c.args.index)
    (subst (λ r. slice_get (types_of r) c.args.index ≡ None) c.self.view_is (no-var whole c.args.index past))
