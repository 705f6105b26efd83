-- Terms that are called and terms in a row: what they are, and how large.
-- Main results: no-function, term-in.
use Rattle.std.proofs.Common.{◌≡◌, ℕ, zero, suc, ◌<◌, [], ◌∷◌, length, get_or, refl, ap, arith}
use Rattle.omega_kinds.specs.declared.label.Label.{Label}
use Rattle.omega_types.specs.Ty.{Ty}
use Rattle.omega_terms.specs.Fields.{TermPairs}
use Rattle.omega_terms.specs.Inner.Size.{term_size, pairs_size}
use Rattle.omega_terms.specs.Inner.View.{term_of}
use Rattle.omega_terms.specs.Term.{Term}
use Rattle.omega_terms.specs.declared.tree.TermNode.{TermNode}
use Rattle.omega_terms.specs.declared.tree.TermNode.TheVariants as node

-- a node that is no function's makes no function
pub no-function : (n : TermNode) (f : Term) → term_of n ≡ f → ((t : Ty) (e : Term) → n ≡ node.Lam t e → ⊥) → (t : Ty) (e : Term) → f ≡ Term.Lam t e → ⊥
no-function (node.Lam t e) f h n u d s = n t e refl
no-function _ f h n u d s = absurd (let g : f ≡ f = refl in cc)

-- a term in a row is smaller than the row
pub term-in : (xs : TermPairs) (i : ℕ) (x : Label × Term) → x ≡ get_or xs i x → i < length xs → term_size x.1 < pairs_size xs
term-in [] i x e h = absurd (omega (arith, h))
term-in (y ∷ ys) zero x e h = let s = ap (λ z. term_size z.1) e in omega (arith, s)
term-in (y ∷ ys) (suc i) x e h = let s = term-in ys i x e (omega (arith, h)) in omega (arith, s)
