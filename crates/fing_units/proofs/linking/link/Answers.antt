use Rattle.std.proofs.Common.{ℕ, subst}
use Rattle.unit_judgments.specs.Link.{Differs, Foreign}
use Rattle.fing_units.specs.Inner.Units.{units_of}
use Rattle.fing_units.proofs.linking.link.Goals as goal

pub returns-in-Some-clause-foreign : goal.returns-in-Some-clause-foreign
returns-in-Some-clause-foreign c = subst (λ us. Foreign (units_of us) c.in-Some.index) c.deref.ensures.value c.in-Some.ensures

pub join-requires-clause-own : goal.join-requires-clause-own
join-requires-clause-own c = subst (λ us. (n : ℕ) → Differs (units_of us) n → ⊥) c.deref.ensures.value c.in_default.ensures
