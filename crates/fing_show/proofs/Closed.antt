-- The encoding of the signature of a program and its whole term are closed.
use Rattle.std.proofs.Common.{◌≡◌, ℕ, ◌≤◌, [], arith, sym, subst}
use Rattle.omega_types.specs.Height.{height}
use Rattle.omega_types.specs.Ty.{Ty}
use Rattle.omega_terms.specs.Height.{term_height}
use Rattle.omega_terms.specs.InScope.{TyInScope, TermInScope}
use Rattle.omega_terms.specs.Term.{Term}
use Rattle.omega_terms.specs.Typing.{HasType}
use Rattle.omega_terms.proofs.TypingLaws.{good-none, type-kind}
use Rattle.elab_spelling.proofs.Scopes.{closed-type, closed-term}

pub page-type : (t u : Ty) (e : Term) (high : ℕ) → t ≡ u → HasType [] [] e u → height t ≤ high → high ≤ 8192 → TyInScope 0 t
page-type t u e high same typed a b = closed-type (type-kind (good-none []) (subst (λ (w : Ty). HasType [] [] e w) (sym same) typed)) (omega (arith, a, b))

pub page-term : (e : Term) (u : Ty) (high : ℕ) → HasType [] [] e u → term_height e ≤ high → high ≤ 8192 → TermInScope 0 0 e
page-term e u high typed a b = closed-term typed (omega (arith, a, b))

pub ruleset closed = (page-type, page-term)
