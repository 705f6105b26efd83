-- Fields that are read one after the other.
-- Main results: onto_row, fields_stops.
use Rattle.std.proofs.Common.{◌≡◌, ℕ, suc, ◌+◌, ◌-◌, ◌<◌, ◌≤◌, true, false, List, [], ◌∷◌, ◌++◌, length, Option, Some, None, refl, sym, ap, ◌∙◌, arith}
use Rattle.std.specs.Prelude.{codes, slice_get}
use Rattle.omega_kinds.specs.declared.label.Label.{Label}
use Rattle.omega_types.specs.Ty.{Row}
use Rattle.omega_types.specs.Fields.{Pairs, row, MayFollow}
use Rattle.omega_terms.specs.Term.{TermRow}
use Rattle.omega_terms.specs.Fields.{TermPairs, term_row}
use Rattle.omega_spelling.specs.Reading.{◌>>=◌, Reader, strip, follows, field_at, fields_at}
use Rattle.omega_read.specs.declared.left.Stop.{Stop}
use Rattle.omega_read.specs.declared.left.Stop.TheVariants.{Mem, NotOmega}
use Rattle.omega_read.specs.Inner.Gives.{Stops}
use Rattle.omega_read.specs.Inner.Onto.{last_of, onto, with_front}

-- a label that follows the last one may follow the fields
pub MayFollow_from : {T : Type 0} (xs : List (Label × T)) (l : Label) → follows (last_of xs) l ≡ true → MayFollow xs l
MayFollow_from [] l e = tt
MayFollow_from (x ∷ []) l e = e
MayFollow_from (x ∷ y ∷ xs) l e = MayFollow_from (y ∷ xs) l e

-- the last label of fields is that of the field at the last place
pub last_get : {T : Type 0} (xs : List (Label × T)) (x : Label × T) → slice_get xs (length xs - 1) ≡ Some x → last_of xs ≡ Some x.0
last_get [] x e = absurd cc
last_get {T} (y ∷ []) x e = ap (λ (o : Option (Label × T)). o >>= λ z. Some z.0) e
last_get (y ∷ z ∷ xs) x e =
    let k : suc (suc (length xs)) - 1 ≡ suc (suc (length xs) - 1) = omega arith in
    last_get (z ∷ xs) x (rw k at e)

last_push : {T : Type 0} (xs : List (Label × T)) (x : Label × T) → last_of (xs ++ x ∷ []) ≡ Some x.0
last_push [] x = refl
last_push (y ∷ []) x = refl
last_push (y ∷ z ∷ xs) x = last_push (z ∷ xs) x

onto_push : {T R : Type 0} (more : Label → T → R → R) (xs : List (Label × T)) (x : Label × T) (r : R) → onto more (xs ++ x ∷ []) r ≡ onto more xs (more x.0 x.1 r)
onto_push more [] x r = refl
onto_push more (y ∷ xs) x r = ap (more y.0 y.1) (onto_push more xs x r)

-- parts put in front of the empty row are the row
pub onto_row : (xs : Pairs) → onto Row.More xs Row.End ≡ row xs
onto_row [] = refl
onto_row (y ∷ xs) = ap (Row.More y.0 y.1) (onto_row xs)

-- terms put in front of the empty row of terms are the row of terms
pub onto_term_row : (xs : TermPairs) → onto TermRow.More xs TermRow.End ≡ term_row xs
onto_term_row [] = refl
onto_term_row (y ∷ xs) = ap (TermRow.More y.0 y.1) (onto_term_row xs)

-- one more field is read, and what is read in all stays the same
pub fields_on : {T R : Type 0} (end : R) (more : Label → T → R → R) (f : Reader T) (xs : List (Label × T)) (turns i : ℕ) (bytes b : List ℕ) (x : Label × T) (after : List ℕ) (total : Option (R × List ℕ)) → i < turns
    → strip (codes " (") bytes ≡ Some b → field_at f b ≡ Some (x, after) → follows (last_of xs) x.0 ≡ true
    → with_front more xs (fields_at end more f (turns - i) (last_of xs) bytes) ≡ total → with_front more (xs ++ x ∷ []) (fields_at end more f (turns - (i + 1)) (last_of (xs ++ x ∷ [])) after) ≡ total
unfolding fields_at
fields_on end more f xs turns i bytes b x after total lt front field rises so_far =
    let k : turns - i ≡ suc (turns - (i + 1)) = omega arith in
    let one : with_front more xs (fields_at end more f (turns - i) (last_of xs) bytes) ≡ with_front more (xs ++ x ∷ []) (fields_at end more f (turns - (i + 1)) (last_of (xs ++ x ∷ [])) after) =
    rw (k, front, field, rises, last_push xs x) (both more xs x (fields_at end more f (turns - (i + 1)) (Some x.0) after)) in
    sym one ∙ so_far
  where
    both : {T R : Type 0} (more : Label → T → R → R) (xs : List (Label × T)) (x : Label × T) (read : Option (R × List ℕ)) → with_front more xs (read >>= λ r. Some (more x.0 x.1 r.0, r.1)) ≡ with_front more (xs ++ x ∷ []) read
    both {T} {R} more xs x (Some r) = ap (λ (s : R). Some (s, r.1)) (sym (onto_push more xs x r.0))
    both more xs x None = refl

-- a field out of order
pub fields_fall : {T R : Type 0} (end : R) (more : Label → T → R → R) (f : Reader T) (xs : List (Label × T)) (turns i : ℕ) (bytes b : List ℕ) (x : Label × T) (after : List ℕ) (total : Option (R × List ℕ)) → i < turns
    → strip (codes " (") bytes ≡ Some b → field_at f b ≡ Some (x, after) → follows (last_of xs) x.0 ≡ false
    → with_front more xs (fields_at end more f (turns - i) (last_of xs) bytes) ≡ total → total ≡ None
unfolding fields_at
fields_fall end more f xs turns i bytes b x after total lt front field falls so_far =
    let k : turns - i ≡ suc (turns - (i + 1)) = omega arith in
    let one : with_front more xs (fields_at end more f (turns - i) (last_of xs) bytes) ≡ None = rw (k, front, field, falls) (none more xs (fields_at end more f (turns - (i + 1)) (Some x.0) after)) in
    sym so_far ∙ one
  where
    none : {T R : Type 0} (more : Label → T → R → R) (xs : List (Label × T)) (read : Option (R × List ℕ)) → with_front more xs (read >>= λ r. None) ≡ None
    none more xs (Some r) = refl
    none more xs None = refl

-- no field where one was begun
pub fields_stop : {T R : Type 0} (end : R) (more : Label → T → R → R) (f : Reader T) (xs : List (Label × T)) (turns i : ℕ) (bytes b : List ℕ) (total : Option (R × List ℕ)) → i < turns
    → strip (codes " (") bytes ≡ Some b → field_at f b ≡ None
    → with_front more xs (fields_at end more f (turns - i) (last_of xs) bytes) ≡ total → total ≡ None
unfolding fields_at
fields_stop end more f xs turns i bytes b total lt front field so_far =
    let k : turns - i ≡ suc (turns - (i + 1)) = omega arith in
    let one : with_front more xs (fields_at end more f (turns - i) (last_of xs) bytes) ≡ None = rw (k, front, field) refl in
    sym so_far ∙ one

-- where a field cannot be read, reading the fields stops
pub fields_stops : {T R : Type 0} (end : R) (more : Label → T → R → R) (e : Stop) (f : Reader T) (xs : List (Label × T)) (turns i : ℕ) (bytes b : List ℕ) (total : Option (R × List ℕ)) → i < turns
    → strip (codes " (") bytes ≡ Some b → Stops e (field_at f b)
    → with_front more xs (fields_at end more f (turns - i) (last_of xs) bytes) ≡ total → Stops e total
fields_stops end more Mem f xs turns i bytes b total lt front field so_far = tt
fields_stops end more NotOmega f xs turns i bytes b total lt front field so_far = fields_stop end more f xs turns i bytes b total lt front field so_far

-- the end of the fields
pub fields_done : {T R : Type 0} (end : R) (more : Label → T → R → R) (f : Reader T) (xs : List (Label × T)) (turns i : ℕ) (bytes rest : List ℕ) (total : Option (R × List ℕ)) (whole : R) → i < turns
    → strip (codes " (") bytes ≡ None → strip (codes ")") bytes ≡ Some rest
    → with_front more xs (fields_at end more f (turns - i) (last_of xs) bytes) ≡ total → onto more xs end ≡ whole → total ≡ Some (whole, rest)
unfolding fields_at
fields_done {T} {R} end more f xs turns i bytes rest total whole lt front close so_far same =
    let k : turns - i ≡ suc (turns - (i + 1)) = omega arith in
    let one : with_front more xs (fields_at end more f (turns - i) (last_of xs) bytes) ≡ Some (whole, rest) = rw (k, front, close) (ap (λ (r : R). Some (r, rest)) same) in
    sym so_far ∙ one

-- neither a field nor the end
pub fields_none : {T R : Type 0} (end : R) (more : Label → T → R → R) (f : Reader T) (xs : List (Label × T)) (turns i : ℕ) (bytes : List ℕ) (total : Option (R × List ℕ)) → i < turns
    → strip (codes " (") bytes ≡ None → strip (codes ")") bytes ≡ None
    → with_front more xs (fields_at end more f (turns - i) (last_of xs) bytes) ≡ total → total ≡ None
unfolding fields_at
fields_none end more f xs turns i bytes total lt front close so_far =
    let k : turns - i ≡ suc (turns - (i + 1)) = omega arith in
    let one : with_front more xs (fields_at end more f (turns - i) (last_of xs) bytes) ≡ None = rw (k, front, close) refl in
    sym so_far ∙ one

-- where no turn is left, nothing is read in all
pub fields_spent : {T R : Type 0} (end : R) (more : Label → T → R → R) (f : Reader T) (xs : List (Label × T)) (turns i : ℕ) (bytes : List ℕ) (total : Option (R × List ℕ)) → turns ≤ i
    → with_front more xs (fields_at end more f (turns - i) (last_of xs) bytes) ≡ total → total ≡ None
unfolding fields_at
fields_spent end more f xs turns i bytes total le so_far =
    let k : turns - i ≡ 0 = omega arith in
    let one : with_front more xs (fields_at end more f (turns - i) (last_of xs) bytes) ≡ None = rw k refl in
    sym so_far ∙ one
