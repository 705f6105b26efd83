-- The code's arithmetic on 64 bits is that of the definitions.
-- Main results: added, multiplied, divided, less-is, equal-is.
use Rattle.std.proofs.Common.{◌≡◌, ℕ, zero, suc, ◌^◌, ◌-◌, ◌<◌, refl, sym, ap, ap₂, ◌∙◌, subst, Bool, true, false, cond, ◌&&◌, Option, Some, None, Result, Ok, Err, MatchOption, MatchResult, ℤ, pos, negsuc, ◌+ℤ◌, ◌-ℤ◌, ◌*ℤ◌, w64, arith, of_z}
use Rattle.std.specs.Prelude.{FitsSigned, leb, int_div, int_rem, int_lt, int_le, ◌==◌}
use Rattle.std.specs.Option.{SomeIff}
use Rattle.std.specs.Int.{CanDivide, IsNonZero}
use Rattle.std.proofs.Math.Bool.{and-true}
use Rattle.std.proofs.lemmas.Bool.Decides.{nat_tests}
use Rattle.omega_terms.specs.declared.op.Op.{Op}
use Rattle.omega_terms.specs.declared.tree.TermNode.{TermNode}
use Rattle.omega_terms.specs.declared.tree.TermNode.TheVariants as node
use Rattle.omega_terms.specs.Term.{Term}
use Rattle.omega_terms.specs.Steps.{IsValue, Answer, Fault, fits, if_fits, is_zero, compute}
use Rattle.omega_terms.specs.Inner.View.{term_of}
use Rattle.omega_machine.specs.declared.outcome.Arith.{Arith}
use Rattle.omega_machine.specs.declared.outcome.Arith.TheVariants as fault
use Rattle.omega_machine.specs.Inner.Outcomes.{fault_of}

-- ---- the range

below-top : (n : ℕ) → leb n (2 ^ 63 - 1) ≡ true → n < 2 ^ 63
below-top n e = grind (arith, nat_tests)

to-top : (n : ℕ) → n < 2 ^ 63 → leb n (2 ^ 63 - 1) ≡ true
to-top n h = grind (arith, nat_tests)

fits-signed : (z : ℤ) → fits z ≡ true → FitsSigned w64 z
fits-signed (pos n) e = record { sfits = grind (arith, nat_tests, e) }
fits-signed (negsuc n) e = record { sfits = below-top n (sym (and-true (leb n (2 ^ 63 - 1))) ∙ e) }

signed-fits : (z : ℤ) → FitsSigned w64 z → fits z ≡ true
signed-fits (pos n) f = grind (arith, nat_tests)
signed-fits (negsuc n) f = and-true (leb n (2 ^ 63 - 1)) ∙ to-top n f.sfits

is-false : (b : Bool) → (b ≡ true → ⊥) → b ≡ false
is-false true h = absurd (h refl)
is-false false h = refl

-- ---- results in range

-- what the code answers for an operator's answer
abbrev pub Computed : Answer → Result TermNode Arith → Type 0
Computed a r = MatchResult r (λ n. (a ≡ Answer.gives (term_of n)) × IsValue (term_of n)) (λ x. a ≡ Answer.fails (fault_of x))

abbrev pub InRange : Option ℤ → Result TermNode Arith → Type 0
InRange o r = MatchOption o (r ≡ Err fault.Overflow) (λ z. r ≡ Ok (node.Int z))

overflows : (w z : ℤ) (r : Result TermNode Arith) → (FitsSigned w64 w → ⊥) → r ≡ Err fault.Overflow → Computed (if_fits w z) r
overflows w z r f e =
    subst (Computed (if_fits w z)) (sym e) (ap (λ b. cond b (Answer.gives (Term.Int z)) (Answer.fails Fault.Overflow)) (is-false (fits w) (λ h. f (fits-signed w h))))

in-range : (w z y : ℤ) (r : Result TermNode Arith) → FitsSigned w64 w → y ≡ z → r ≡ Ok (node.Int y) → Computed (if_fits w z) r
in-range w z y r f q e =
    subst (Computed (if_fits w z)) (sym e) (ap (λ b. cond b (Answer.gives (Term.Int z)) (Answer.fails Fault.Overflow)) (signed-fits w f) ∙ ap (λ x. Answer.gives (Term.Int x)) (sym q), IsValue.int)

ranged : (w z : ℤ) (o : Option ℤ) (r : Result TermNode Arith) → SomeIff o (FitsSigned w64 w) z → InRange o r → Computed (if_fits w z) r
ranged w z None r s m = overflows w z r s m
ranged w z (Some y) r s m = in-range w z y r s.0 s.1 m

-- the code has each number by its 64 bits
at-op : (o p : Op) (m n : ℤ) (r : Result TermNode Arith) → p ≡ o → Computed (compute o m n) r → Computed (compute p m n) r
at-op o p m n r e h = subst (λ x. Computed (compute x m n) r) (sym e) h

-- addition in 64 bits gives the sum, or overflows exactly if the sum does not fit
pub added : (p : Op) (m n a b : ℤ) (o : Option ℤ) (r : Result TermNode Arith) → p ≡ Op.Add → a ≡ m → b ≡ n → SomeIff o (FitsSigned w64 (a +ℤ b)) (a +ℤ b) → InRange o r → Computed (compute p m n) r
added p m n a b o r e f g s k = at-op Op.Add p m n r e (ranged (m +ℤ n) (m +ℤ n) o r (subst (λ x. SomeIff o (FitsSigned w64 x) x) (ap₂ (λ x y. x +ℤ y) f g) s) k)

-- subtraction in 64 bits gives the difference, or overflows exactly if this does not fit
pub subtracted : (p : Op) (m n a b : ℤ) (o : Option ℤ) (r : Result TermNode Arith) → p ≡ Op.Sub → a ≡ m → b ≡ n → SomeIff o (FitsSigned w64 (a -ℤ b)) (a -ℤ b) → InRange o r → Computed (compute p m n) r
subtracted p m n a b o r e f g s k = at-op Op.Sub p m n r e (ranged (m -ℤ n) (m -ℤ n) o r (subst (λ x. SomeIff o (FitsSigned w64 x) x) (ap₂ (λ x y. x -ℤ y) f g) s) k)

-- multiplication in 64 bits gives the product, or overflows exactly if this does not fit
pub multiplied : (p : Op) (m n a b : ℤ) (o : Option ℤ) (r : Result TermNode Arith) → p ≡ Op.Mul → a ≡ m → b ≡ n → SomeIff o (FitsSigned w64 (a *ℤ b)) (a *ℤ b) → InRange o r → Computed (compute p m n) r
multiplied p m n a b o r e f g s k = at-op Op.Mul p m n r e (ranged (m *ℤ n) (m *ℤ n) o r (subst (λ x. SomeIff o (FitsSigned w64 x) x) (ap₂ (λ x y. x *ℤ y) f g) s) k)

-- ---- division

no-zero : (n : ℤ) → 0 < of_z w64 n → is_zero n ≡ false
no-zero (pos zero) h = absurd (omega arith)
no-zero (pos (suc n)) h = grind (arith, nat_tests)
no-zero (negsuc n) h = refl

divisible : (z n w : ℤ) (o : Option ℤ) → IsNonZero w64 n → SomeIff o (IsNonZero w64 n × FitsSigned w64 w) z → SomeIff o (FitsSigned w64 w) z
divisible z n w None h s = λ f. s (h, f)
divisible z n w (Some y) h s = (s.0.1, s.1)

-- division in 64 bits by a number other than 0 gives the quotient, or overflows
pub divided : (p : Op) (m n a b : ℤ) (o : Option ℤ) (r : Result TermNode Arith) → p ≡ Op.Div → a ≡ m → b ≡ n → 0 < of_z w64 n → SomeIff o (CanDivide w64 a b) (int_div a b) → InRange o r → Computed (compute p m n) r
divided p m n a b o r e f g h s k =
    let s' = subst (λ x. SomeIff o (CanDivide w64 x n) (int_div x n)) f (subst (λ x. SomeIff o (CanDivide w64 a x) (int_div a x)) g s) in
    at-op Op.Div p m n r e (subst (λ t. Computed (cond t (Answer.fails Fault.DivideByZero) (if_fits (int_div m n) (int_div m n))) r) (sym (no-zero n h)) (ranged (int_div m n) (int_div m n) o r (divisible (int_div m n) n (int_div m n) o h s') k))

-- the remainder in 64 bits by a number other than 0 is that of the definitions, or overflows
pub remaindered : (p : Op) (m n a b : ℤ) (o : Option ℤ) (r : Result TermNode Arith) → p ≡ Op.Rem → a ≡ m → b ≡ n → 0 < of_z w64 n → SomeIff o (CanDivide w64 a b) (int_rem a b) → InRange o r → Computed (compute p m n) r
remaindered p m n a b o r e f g h s k =
    let s' = subst (λ x. SomeIff o (CanDivide w64 x n) (int_rem x n)) f (subst (λ x. SomeIff o (CanDivide w64 a x) (int_rem a x)) g s) in
    at-op Op.Rem p m n r e (subst (λ t. Computed (cond t (Answer.fails Fault.DivideByZero) (if_fits (int_div m n) (int_rem m n))) r) (sym (no-zero n h)) (ranged (int_div m n) (int_rem m n) o r (divisible (int_rem m n) n (int_div m n) o h s') k))

-- ---- tests

-- the comparison of two numbers is that of the definitions
pub less-is : (p : Op) (m n a b : ℤ) → p ≡ Op.Less → a ≡ m → b ≡ n → compute p m n ≡ Answer.gives (Term.Bool (int_lt a b))
less-is p m n a b e f g = ap (λ x. compute x m n) e ∙ ap₂ (λ x y. Answer.gives (Term.Bool (int_lt x y))) (sym f) (sym g)

same-bits : (m n : ℤ) → FitsSigned w64 m → FitsSigned w64 n → (int_le m n && int_le n m) ≡ (of_z w64 m == of_z w64 n)
same-bits (pos a) (pos b) f g = grind (arith, nat_tests)
same-bits (pos a) (negsuc b) f g = let h = f.sfits in let k = g.sfits in grind (arith, nat_tests)
same-bits (negsuc a) (pos b) f g = let h = f.sfits in let k = g.sfits in grind (arith, nat_tests)
same-bits (negsuc a) (negsuc b) f g = let h = f.sfits in let k = g.sfits in grind (arith, nat_tests)

-- the equality of two numbers that fit 64 bits is that of the definitions
pub equal-is : (p : Op) (m n : ℤ) → p ≡ Op.Equal → FitsSigned w64 m → FitsSigned w64 n → compute p m n ≡ Answer.gives (Term.Bool (of_z w64 m == of_z w64 n))
equal-is p m n e f g = ap (λ x. compute x m n) e ∙ ap (λ b. Answer.gives (Term.Bool b)) (same-bits m n f g)
