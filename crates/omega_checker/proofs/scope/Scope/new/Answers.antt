use Rattle.std.proofs.Common.{length, map, reverse, ap}
use Rattle.omega_node_laws.specs.Scope.{type_under, types_of}
use Rattle.omega_checker.proofs.scope.Scope.new.Goals as goal

pub returns-clause-vars : goal.returns-clause-vars
unfolding types_of
returns-clause-vars c = ap (λ xs. reverse (map (type_under c.new.result (length c.new-2.result.items)) xs)) c.new-3.ensures.items
