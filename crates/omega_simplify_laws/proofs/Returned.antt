-- A call of a flat function on a value comes back to that very value.
-- Main results: flat_calls_come_back.
use Rattle.std.proofs.Common.{◌≡◌, ℕ, zero, suc, sym, ap, ◌∙◌, subst}
use Rattle.omega_kinds.specs.declared.label.Label.{Label}
use Rattle.omega_types.specs.Ty.{Ty, Row}
use Rattle.omega_terms.specs.Term.{Term, TermRow}
use Rattle.omega_terms.specs.TermSubst.{first_term}
use Rattle.omega_terms.specs.Steps.{IsValue, AreValues, Step, FieldStep, Reaches, put_arg}
use Rattle.omega_simplify_laws.specs.Claims.{FlatCallsComeBack}
use Rattle.omega_simplify_laws.proofs.Flat.{Flat, flat, parts_of}
use Rattle.omega_simplify_laws.proofs.Reflexive.{itself}
use Rattle.omega_simplify_laws.proofs.Algebra.{sub_parts}
use Rattle.omega_simplify_laws.proofs.Values.{field_value}
use Rattle.omega_simplify_laws.proofs.Parts.{Parts}
use Rattle.omega_simplify_laws.proofs.TypedParts.{IsTyped, arg_typed, rebuilt}

-- n steps of the fields
data FieldsReach : TermRow → ℕ → TermRow → Type 0 where
  none : {f : TermRow} → FieldsReach f zero f
  step : {f g h : TermRow} {n : ℕ} → FieldStep f g → FieldsReach g n h → FieldsReach f (suc n) h

record_reaches : {f g : TermRow} {n : ℕ} → FieldsReach f n g → Reaches (Term.Fields f) n (Term.Fields g)
record_reaches FieldsReach.none = Reaches.none
record_reaches (FieldsReach.step s r) = Reaches.step (Step.fields s) (record_reaches r)

after : {l : Label} {v : Term} {f g : TermRow} {n : ℕ} → IsValue v → FieldsReach f n g → FieldsReach (TermRow.More l v f) n (TermRow.More l v g)
after i FieldsReach.none = FieldsReach.none
after i (FieldsReach.step s r) = FieldsReach.step (FieldStep.there i s) (after i r)

-- one step for each part
parts_reach : {w : TermRow} {r : Row} {g : TermRow} → AreValues w → Parts w r g → (n : ℕ) × FieldsReach (parts_of (Term.Fields w) r) n g
parts_reach vs Parts.end = (zero, FieldsReach.none)
parts_reach vs (Parts.more x ps) =
    let r = parts_reach vs ps in
    (suc r.0, FieldsReach.step (FieldStep.here (Step.get_fields vs x)) (after (field_value vs x) r.1))

comes_back : {f v : Term} → Flat f → IsTyped (Term.Call f v) → IsValue v → (n : ℕ) × Reaches (Term.Call f v) n v
comes_back Flat.whole h i = (suc zero, Reaches.step (Step.call_lam i) Reaches.none)
comes_back {v = v} (Flat.parts {r = r}) h i =
    let w = rebuilt (arg_typed h) i (itself v).like in
    let p = parts_reach w.values w.parts in
    let e : put_arg v (Term.Fields (parts_of (Term.Var zero) r)) ≡ Term.Fields (parts_of (Term.Fields w.row) r) =
    ap Term.Fields (sub_parts Ty.Var (first_term v Term.Var) (Term.Var zero) r) ∙ ap (λ y. Term.Fields (parts_of y r)) w.is in
    let q = subst (λ x. Reaches (Term.Fields (parts_of (Term.Fields w.row) r)) p.0 x) (sym w.is) (record_reaches p.1) in
    (suc p.0, Reaches.step (Step.call_lam i) (subst (λ x. Reaches x p.0 v) (sym e) q))

-- a call of a flat function on a value comes back to this value
pub flat_calls_come_back : FlatCallsComeBack
flat_calls_come_back f v t h e i = comes_back (flat f e) (t, h) i
