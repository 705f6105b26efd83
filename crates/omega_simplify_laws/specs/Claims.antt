-- The statements on simplified terms: their types, and what they come to.
use Rattle.std.specs.Prelude.{ℕ, zero, List, [], ◌≡◌, ◌↔◌, ◌≤◌, true}
use Rattle.omega_kinds.specs.Kind.{Kind}
use Rattle.omega_kinds.specs.declared.label.Label.{Label}
use Rattle.omega_types.specs.Ty.{Ty, Row}
use Rattle.omega_types.specs.Fields.{Pairs, row, Rises}
use Rattle.omega_terms.specs.Fields.{TermPairs, term_row}
use Rattle.omega_terms.specs.Term.{Term, TermRow}
use Rattle.omega_terms.specs.Typing.{HasType, HasPart, GoodVars}
use Rattle.omega_terms.specs.Steps.{IsValue, HasField, Fault, Reaches, End, Ends}
use Rattle.omega_terms.specs.ValueText.{shown, value_text}
use Rattle.omega_simplify_laws.specs.Simplified.{is_flat, simplified}

-- each field is the part of the variable 0 at its own label
abbrev pub AreOwnParts : TermRow → Type 0
AreOwnParts f = (l : Label) (e : Term) → HasField f l e → e ≡ Term.Get (Term.Var zero) l

abbrev pub SameLabels : Row → TermRow → Type 0
SameLabels r f = (l : Label) → ((t : Ty) × HasPart r l t) ↔ ((e : Term) × HasField f l e)

-- Where both stand in label order, as those of texts do, the test of a record's fields says yes exactly where each is the
-- part at its label and the labels are exactly those of the row.
abbrev pub PartsAreTested : Type 0
PartsAreTested = (xs : Pairs) (fs : TermPairs) → Rises xs → Rises fs →
    (is_flat (Term.Lam (Ty.Fields (row xs)) (Term.Fields (term_row fs))) ≡ true) ↔ (AreOwnParts (term_row fs) × SameLabels (row xs) (term_row fs))

-- In a context of types of kind *, as the empty one is, the simplified term has each type that the term has.
abbrev pub SimplifiedKeepsTypes : Type 0
SimplifiedKeepsTypes = (ctx : List Kind) (vars : List Ty) (e : Term) (t : Ty) → GoodVars ctx vars →
    HasType ctx vars e t → HasType ctx vars (simplified e) t

-- a call of a flat function on a value comes back to that very value
abbrev pub FlatCallsComeBack : Type 0
FlatCallsComeBack = (f v : Term) (t : Ty) → HasType [] [] (Term.Call f v) t → is_flat f ≡ true → IsValue v →
    (n : ℕ) × Reaches (Term.Call f v) n v

-- Two ends are told apart by no reader: values with one shown form and one value text (which is empty for what is no
-- record inside packages), or one fault.
pub data SameEnd : End → End → Type 0 where
  value : {v w : Term} → shown v ≡ shown w → value_text v ≡ value_text w → SameEnd (End.the_value v) (End.the_value w)
  fault : {x : Fault} → SameEnd (End.the_fault x) (End.the_fault x)

-- where a closed typed term comes to an end, the simplified one comes to the same end in no more steps
abbrev pub SimplifiedComesToo : Type 0
SimplifiedComesToo = (e : Term) (t : Ty) (n : ℕ) (r : End) → HasType [] [] e t → Ends e n r →
    (m : ℕ) × (s : End) × Ends (simplified e) m s × (m ≤ n) × SameEnd r s

-- where the simplified term comes to an end, the closed typed term comes to the same end in some number of steps
abbrev pub TermComesToo : Type 0
TermComesToo = (e : Term) (t : Ty) (n : ℕ) (s : End) → HasType [] [] e t → Ends (simplified e) n s →
    (m : ℕ) × (r : End) × Ends e m r × SameEnd r s
