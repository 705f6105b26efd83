-- What holds of frames, and the work that is left before the next step.
use Rattle.std.specs.Prelude.{ℕ, ◌+◌, ◌*◌, ◌<◌, ◌≡◌, List, [], ◌∷◌, length, map, take}
use Rattle.omega_types.specs.Ty.{Ty}
use Rattle.omega_terms.specs.Term.{Term}
use Rattle.omega_terms.specs.Fields.{TermPairs, term_row}
use Rattle.omega_terms.specs.Inner.Size.{term_size, pairs_size}
use Rattle.omega_terms.specs.Typing.{HasType}
use Rattle.omega_terms.specs.Steps.{IsValue, AreValues}
use Rattle.omega_machine.specs.declared.frames.Waiting.{Waiting}
use Rattle.omega_machine.specs.declared.frames.Waiting.TheVariants as waiting
use Rattle.omega_machine.specs.declared.frames.Ready.{Ready}
use Rattle.omega_machine.specs.declared.frames.Ready.TheVariants as ready
use Rattle.omega_machine.specs.declared.frames.Frame.{Frame}
use Rattle.omega_machine.specs.declared.frames.Frame.TheVariants as frame
use Rattle.omega_machine.specs.declared.frames.Focus.{Focus}
use Rattle.omega_machine.specs.declared.frames.Focus.TheVariants as focus
use Rattle.omega_machine.specs.declared.refocus.Move.{Move}
use Rattle.omega_machine.specs.declared.refocus.Move.TheVariants as move
use Rattle.omega_machine.specs.declared.refocus.Found.{Found}
use Rattle.omega_machine.specs.declared.refocus.Found.TheVariants as found
use Rattle.omega_machine.specs.Inner.Contexts.{fields_of, rest, fill, fill_ready, plug}

-- the term is closed and has a type
abbrev pub IsTyped : Term → Type 0
IsTyped e = (t : Ty) × HasType [] [] e t

-- the first fields of the record, label by label, with values
pub record Begun (whole : Term) (done : TermPairs) : Type 0 where
  pub is : Term.Fields (term_row (fields_of whole)) ≡ whole
  pub labels : map (λ x. x.0) done ≡ map (λ x. x.0) (take (length done) (fields_of whole))
  pub values : AreValues (term_row done)

-- the parts before the hole are values
abbrev pub IsSoundWaiting : Waiting → Type 0
IsSoundWaiting (waiting.Field whole done) = Begun whole done × (length done < length (fields_of whole))
IsSoundWaiting _ = Unit {0}

abbrev pub IsSoundReady : Ready → Type 0
IsSoundReady (ready.Argument f) = IsValue f
IsSoundReady (ready.Right op a) = IsValue a
IsSoundReady _ = Unit {0}

abbrev pub IsSound : Frame → Type 0
IsSound (frame.Waiting f) = IsSoundWaiting f
IsSound (frame.Ready f) = IsSoundReady f

abbrev pub AreSound : List Frame → Type 0
AreSound [] = Unit {0}
AreSound (f ∷ fs) = IsSound f × AreSound fs

abbrev pub IsSoundFocus : Focus → Type 0
IsSoundFocus (focus.Term e) = Unit {0}
IsSoundFocus (focus.Value v) = IsValue v

-- the work that a frame leaves once a value stands in it
abbrev pub waiting_work : Waiting → ℕ
waiting_work (waiting.Function a) = 3 * term_size a + 2
waiting_work (waiting.Left op b) = 3 * term_size b + 2
waiting_work (waiting.Packed t u) = 1
waiting_work (waiting.Field whole done) = 3 * pairs_size (rest whole done) + 2
waiting_work (waiting.Injected l t) = 1
waiting_work (waiting.Rolled t) = 1

abbrev pub frame_work : Frame → ℕ
frame_work (frame.Waiting f) = waiting_work f
frame_work (frame.Ready f) = 1

abbrev pub focus_work : Focus → ℕ
focus_work (focus.Term e) = 3 * term_size e
focus_work (focus.Value v) = 0

abbrev pub work : List Frame → ℕ
work [] = 0
work (f ∷ fs) = frame_work f + work fs

-- the term that a move keeps, its soundness and its work
abbrev pub moved : Move → Term
moved (move.Down f e) = fill f e
moved (move.Up v) = v

abbrev pub IsSoundMove : Move → Type 0
IsSoundMove (move.Down f e) = IsSound f
IsSoundMove (move.Up v) = IsValue v

abbrev pub move_work : Move → ℕ
move_work (move.Down f e) = frame_work f + 3 * term_size e
move_work (move.Up v) = 0

-- the move goes on with the term, and leaves less work
pub record Moves (e : Term) (most : ℕ) (m : Move) : Type 0 where
  pub same : moved m ≡ e
  pub sound : IsSoundMove m
  pub less : move_work m < most

-- what is found in a term: its value, or a redex in sound frames
abbrev pub Finds : (whole : Term) → List Frame → Found → Type 0
Finds whole fs (found.Value v) = (v ≡ whole) × IsValue v
Finds whole fs (found.Redex f v) = (plug fs (fill_ready f v) ≡ whole) × AreSound fs × IsSoundReady f × IsValue v
