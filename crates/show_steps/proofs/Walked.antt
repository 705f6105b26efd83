-- The end that a walk has is what the term comes to.
-- Main results: walk-tells.
use Rattle.std.proofs.Common.{◌≡◌, ℕ, sym, subst}
use Rattle.std.proofs.Common.{Result, IfOk}
use Rattle.std.proofs.lemmas.Result.{IfOk-weaker}
use Rattle.omega_kinds.specs.declared.memory.Mem.{Mem}
use Rattle.omega_terms.specs.Term.{Term}
use Rattle.omega_machine.specs.declared.outcome.End.{End}
use Rattle.omega_machine.specs.Inner.Outcomes.{Tells}
use Rattle.show_steps.specs.declared.walk.Walk.{Walk}

-- a walk tells the outcome if it has an end that does
pub walk-tells : (e : Term) (b : ℕ) (r : Result Walk Mem) (end : End) → IfOk r (λ w. w.end ≡ end) → Tells e b end → IfOk r (λ w. Tells e b w.end)
walk-tells e b r end h t = IfOk-weaker r (λ w. w.end ≡ end) (λ w. Tells e b w.end) (λ w p. subst (Tells e b) (sym p) t) h
