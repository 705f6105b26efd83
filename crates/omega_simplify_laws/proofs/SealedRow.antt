-- The example, step by step.
-- Main results: sealed_row.
use Rattle.std.proofs.Common.{◌≡◌, ◌≢◌, refl, subst, codes}
use Rattle.omega_kinds.specs.declared.label.Label.{Label}
use Rattle.std.specs.Fmt.{digits}
use Rattle.omega_kinds.specs.Text.{◌then◌}
use Rattle.omega_kinds.specs.LabelOrder.{LabelBefore}
use Rattle.omega_kinds.proofs.LabelLaws.{irreflexive}
use Rattle.omega_terms.specs.Term.{Term, TermRow}
use Rattle.omega_terms.specs.Steps.{IsValue, AreValues, HasField, Step, FieldStep, Reaches, Ends}
use Rattle.omega_terms.specs.ValueText.{value_text}
use Rattle.omega_simplify_laws.specs.Example.{t, x, h0, h1, the_type, the_five, value, SealedRow}

x_not_t : x ≢ t
x_not_t p = irreflexive t (subst (λ l. LabelBefore t l) p refl)

type_value : IsValue the_type
type_value = IsValue.fields (AreValues.more IsValue.ty_lam AreValues.end)

five_value : IsValue the_five
five_value = IsValue.fields (AreValues.more IsValue.int AreValues.end)

-- (rec (t ..) (x ..))
parts_values : AreValues (TermRow.More t the_type (TermRow.More x the_five TermRow.End))
parts_values = AreValues.more type_value (AreValues.more five_value AreValues.end)

abbrev the_parts : Term
the_parts = Term.Fields (TermRow.More t the_type (TermRow.More x the_five TermRow.End))

parts_value : IsValue the_parts
parts_value = IsValue.fields parts_values

five_at : HasField (TermRow.More t the_type (TermRow.More x the_five TermRow.End)) x the_five
five_at = HasField.there x_not_t HasField.here

five_taken : Step (Term.Get the_parts x) the_five
five_taken = Step.get_fields parts_values five_at

-- a step at the record out of which the hidden part is taken
at_hidden : {e d : Term} {l : Label} {a u : _} {f : Term} → IsValue f → Step e d →
    Step (Term.Pack a (Term.Call f (Term.Get e l)) u) (Term.Pack a (Term.Call f (Term.Get d l)) u)
at_hidden v s = Step.pack_body (Step.call_arg v (Step.get_whole s))

at_arg : {e d f : Term} → IsValue f → Step e d → Step (Term.Call f e) (Term.Call f d)
at_arg v s = Step.call_arg v s

-- a step at the record that is handed to the function of the hidden part
at_record : {f g : TermRow} {l : Label} {a u : _} {d e : Term} → IsValue d → IsValue e → FieldStep f g →
    Step (Term.Pack a (Term.Call d (Term.Get (Term.Call e (Term.Fields f)) l)) u) (Term.Pack a (Term.Call d (Term.Get (Term.Call e (Term.Fields g)) l)) u)
at_record v w s = at_hidden v (at_arg w (Step.fields s))

both_values : AreValues (TermRow.More h0 the_parts (TermRow.More h1 the_parts TermRow.End))
both_values = AreValues.more parts_value (AreValues.more parts_value AreValues.end)

value_value : IsValue value
value_value = IsValue.pack (IsValue.fields (AreValues.more parts_value AreValues.end))

sealed_text : value_text value ≡ codes "M = {t = type, x = 5}\n"
unfolding ◌then◌ digits
sealed_text = refl

-- the example loses its coercion, comes to the same value in 6 steps instead of 11, and shows it alike
pub sealed_row : SealedRow
sealed_row = record {
  goes = refl;
  long = Ends.value
      (Reaches.step (at_hidden IsValue.lam (at_arg IsValue.lam (Step.call_lam type_value)))
      (Reaches.step (at_hidden IsValue.lam (at_arg IsValue.lam (Step.call_lam five_value)))
      (Reaches.step (at_hidden IsValue.lam (Step.call_lam parts_value))
      (Reaches.step (at_hidden IsValue.lam (at_arg IsValue.lam (Step.call_lam parts_value)))
      (Reaches.step (at_record IsValue.lam IsValue.lam (FieldStep.here (at_arg IsValue.lam (Step.get_fields parts_values HasField.here))))
      (Reaches.step (at_record IsValue.lam IsValue.lam (FieldStep.here (Step.call_lam type_value)))
      (Reaches.step (at_record IsValue.lam IsValue.lam (FieldStep.there type_value (FieldStep.here (at_arg IsValue.lam five_taken))))
      (Reaches.step (at_record IsValue.lam IsValue.lam (FieldStep.there type_value (FieldStep.here (Step.call_lam five_value))))
      (Reaches.step (at_hidden IsValue.lam (Step.call_lam parts_value))
      (Reaches.step (Step.pack_body (at_arg IsValue.lam (Step.get_fields both_values HasField.here)))
      (Reaches.step (Step.pack_body (Step.call_lam parts_value))
      Reaches.none)))))))))))
      value_value;
  short = Ends.value
      (Reaches.step (at_hidden IsValue.lam (at_arg IsValue.lam (Step.call_lam type_value)))
      (Reaches.step (at_hidden IsValue.lam (at_arg IsValue.lam (Step.call_lam five_value)))
      (Reaches.step (at_hidden IsValue.lam (Step.call_lam parts_value))
      (Reaches.step (at_hidden IsValue.lam (Step.call_lam parts_value))
      (Reaches.step (Step.pack_body (at_arg IsValue.lam (Step.get_fields both_values HasField.here)))
      (Reaches.step (Step.pack_body (Step.call_lam parts_value))
      Reaches.none))))))
      value_value;
  text = sealed_text;
}
