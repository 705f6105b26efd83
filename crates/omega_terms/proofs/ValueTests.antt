-- The test for values is exact.
-- Main results: test-exact.
use Rattle.std.proofs.Common.{◌≡◌, ◌↔◌, ◌&&◌, Bool as Truth, true, false, IsTrue, [], ◌∷◌, ◌++◌, refl, sym, ap, ◌∙◌}
use Rattle.omega_kinds.specs.declared.label.Label.{Label}
use Rattle.omega_terms.specs.Fields.{TermPairs, term_row}
use Rattle.omega_terms.specs.Term.{Term, TermRow}
use Rattle.omega_terms.specs.Steps.{IsValue, AreValues}
use Rattle.omega_terms.specs.Inner.ValueTest.{value_test, values_test}

no : IsTrue false → ⊥
no p = cc

both : (a b : Truth) → IsTrue a → IsTrue b → IsTrue (a && b)
both true b p q = q
both false b p q = p

left : (a b : Truth) → IsTrue (a && b) → IsTrue a
left true b p = refl
left false b p = p

right : (a b : Truth) → IsTrue (a && b) → IsTrue b
right true b p = p
right false b p = absurd (no p)

mutual
  tested : (e : Term) → IsTrue (value_test e) → IsValue e
  tested (Term.Var i) p = absurd (no p)
  tested (Term.Int z) p = IsValue.int
  tested (Term.Bool b) p = IsValue.bool
  tested (Term.Text s) p = IsValue.text
  tested (Term.Lam t e) p = IsValue.lam
  tested (Term.Call f a) p = absurd (no p)
  tested (Term.TyLam k e) p = IsValue.ty_lam
  tested (Term.Inst e t) p = absurd (no p)
  tested (Term.Fields row) p = IsValue.fields (all_tested row p)
  tested (Term.Get e l) p = absurd (no p)
  tested (Term.Pack t e u) p = IsValue.pack (tested e p)
  tested (Term.Unpack d e) p = absurd (no p)
  tested (Term.If a b c) p = absurd (no p)
  tested (Term.Arith op a b) p = absurd (no p)
  tested (Term.Fix t u e) p = IsValue.fix
  tested (Term.Inj l e t) p = IsValue.inj (tested e p)
  tested (Term.Case e t row) p = absurd (no p)
  tested (Term.Roll e t) p = IsValue.roll (tested e p)
  tested (Term.Unroll e) p = absurd (no p)

  all_tested : (row : TermRow) → IsTrue (values_test row) → AreValues row
  all_tested TermRow.End p = AreValues.end
  all_tested (TermRow.More l e rest) p =
      AreValues.more (tested e (left (value_test e) (values_test rest) p)) (all_tested rest (right (value_test e) (values_test rest) p))

mutual
  passes : {e : Term} → IsValue e → IsTrue (value_test e)
  passes IsValue.int = refl
  passes IsValue.bool = refl
  passes IsValue.text = refl
  passes IsValue.lam = refl
  passes IsValue.ty_lam = refl
  passes IsValue.fix = refl
  passes (IsValue.fields f) = all_pass f
  passes (IsValue.pack v) = passes v
  passes (IsValue.inj v) = passes v
  passes (IsValue.roll v) = passes v

  all_pass : {row : TermRow} → AreValues row → IsTrue (values_test row)
  all_pass AreValues.end = refl
  all_pass (AreValues.more v f) = both _ _ (passes v) (all_pass f)

-- the test accepts exactly the values
pub test-exact : (e : Term) → IsTrue (value_test e) ↔ IsValue e
test-exact e = (tested e, passes)

and-true : (a : Truth) → a && true ≡ a
and-true true = refl
and-true false = refl

and-assoc : (a b c : Truth) → (a && b) && c ≡ a && (b && c)
and-assoc true b c = refl
and-assoc false b c = refl

-- the fields with one more at the end are values if the others are and it is
pub values_test-push : (xs : TermPairs) (x : Label × Term) → values_test (term_row (xs ++ x ∷ [])) ≡ values_test (term_row xs) && value_test x.1
values_test-push [] x = and-true (value_test x.1)
values_test-push (y ∷ ys) x = ap (λ (b : Truth). value_test y.1 && b) (values_test-push ys x) ∙ sym (and-assoc (value_test y.1) (values_test (term_row ys)) (value_test x.1))
